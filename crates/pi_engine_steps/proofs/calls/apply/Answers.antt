use Rattle.std.proofs.Common.{◌≡◌, ◌++◌, ◌∙◌, sym, ap, subst, refl, map, Some, [], ◌∷◌, length}
use Rattle.std.specs.Prelude.{slice_get}
use Rattle.std.proofs.lemmas.Result.{IfOk-weaker}
use Rattle.pi_terms.specs.Tree.{trees_of}
use Rattle.pi_constraints.specs.Evaluation.{evaluated_all}
use Rattle.pi_engine_code.specs.declared.code.Node.{Node}
use Rattle.pi_engine_arenas.specs.declared.arenas.Kind.{Kind}
use Rattle.pi_engine_arenas.specs.declared.arenas.Strict.{Strict}
use Rattle.pi_engine_arenas.specs.Arenas.{view_of, opened, pushed, between}
use Rattle.pi_engine_arenas.specs.Blocks.{KeepsBlocks}
use Rattle.pi_engine_code.specs.Code.{tables_of}
use Rattle.pi_engine_stands.specs.Here.{Block, AreReadable}
use Rattle.pi_engine_stands.specs.Stands.{World, tables_in, world}
use Rattle.pi_engine_stands.specs.Evaluates.{operand_trees, EvaluatesAll, with_blocks}
use Rattle.pi_engine_stands.proofs.FramesStand.{framed, arenas-framed, going-of}
use Rattle.pi_engine_stands.proofs.LevelStands.{arenas-opened}
use Rattle.pi_engine_stands.proofs.EqualStands.{block_of, first-slot-of, node-readable}
use Rattle.pi_engine_stands.proofs.ApplyRuns.{Applies, ApplyRuns, applies, apply-runs}
use Rattle.pi_engine_stands.proofs.RulesTried.{found-there}
use Rattle.pi_engine_steps.proofs.calls.apply.Goals as goal

pub returns : goal.returns
returns g c = IfOk-weaker c.try_rules.result _ _ (λ _ so into node l is_code has view goal gs e k es at stands.
    let seen = g.S.StateStore.seen in
    let order = g.S.StateStore.order in
    let v = seen c.args.run.now.store in
    let u = seen c.take_arguments.new.run.store in
    let a = view_of c.args.run.now.arenas in
    let b = view_of c.take_arguments.new.run.arenas in
    let w : World _ = world l v order a in
    let p = c.args.point in
    let s = c.args.step in
    let q = c.args.predicate in
    let predicate = c.args.called.now in
    let T = tables_in l in
    let is = going-of w p _ e v.now.state k stands.runs in
    let block : Block = block_of w p goal gs e k es stands in
    let tables : T ≡ tables_of l.terms c.args.code.now = ap (tables_of l.terms) is_code in
    let it : Applies w goal q c.args.operands into predicate = applies w p s goal gs e k es q c.args.operands into predicate node at stands
    (found-there w q predicate (ap (λ x. slice_get x.predicates.items q) is_code ∙ has)) in
    let readable : AreReadable T block c.args.operands predicate.arity =
    subst (AreReadable T block c.args.operands) it.it.arities (node-readable w p s goal gs e k (Node.Apply q c.args.operands into) at is node).0 in
    let evaluates : EvaluatesAll block (between v u a b) (evaluated_all (trees_of (operand_trees T c.args.operands predicate.arity)) e v.now.state) c.take_arguments.new.run.terms.items =
    subst (λ t. EvaluatesAll block (between v u a b) (evaluated_all (trees_of (operand_trees t c.args.operands predicate.arity)) e v.now.state) c.take_arguments.new.run.terms.items) (sym tables)
    (c.in_ok-take_arguments.ensures.ok l.terms block e (first-slot-of w p s goal gs e k c.first_slot.result at is c.first_slot.ensures)
    (subst (λ t. AreReadable t block c.args.operands predicate.arity) tables readable) stands.entries.tables is.behind.slots) in
    let framed_run = c.frame_behind.new.self in
    let fs = framed_run.frames in
    let d = c.push_terms.new.self in
    let push = c.in_ok-push_entry.ensures in
    let kind : Kind = Kind.Strict (Strict.Apply p.place p.base) in
    let same_blocks : framed_run.blocks ≡ b.blocks = c.frame_behind.ensures.blocks in
    let base : c.count-base.result ≡ length b.blocks.slots = c.count-base.ensures ∙ ap (λ r. length r.slots) same_blocks in
    let before : with_blocks (framed b fs) d ≡ with_blocks (view_of framed_run) d =
    ap (λ r. with_blocks r d) (arenas-framed b (view_of framed_run) same_blocks c.frame_behind.ensures.entries c.frame_behind.ensures.level c.frame_behind.ensures.collected) in
    let pushed_store = seen c.push_entry.new.run.store in
    let inner = view_of c.open.new.self in
    let n = c.in_ok-frame.frame in
    let begins = length b.blocks.slots in
    let same_all : opened (pushed (with_blocks (framed b fs) d) push.mark (length d.slots) begins n kind) ≡ inner =
    ap (λ r. opened (pushed r push.mark (length d.slots) begins n kind)) before ∙ ap (λ m. opened (pushed (with_blocks (view_of framed_run) d) push.mark (length d.slots) m n kind)) (sym base) ∙ ap opened (sym push.arenas)
    ∙ arenas-opened (view_of c.push_entry.new.run.arenas) inner c.open.ensures.frames c.open.ensures.blocks c.open.ensures.entries c.open.ensures.level c.open.ensures.collected in
    let there : ApplyRuns w (world l pushed_store order (opened (pushed (with_blocks (framed b fs) d) push.mark (length d.slots) begins n kind))) q begins predicate view goal gs e k es =
    apply-runs w u pushed_store push.mark b fs d c.take_arguments.new.run.terms.items p s q c.args.operands into n predicate view goal gs e k es it at stands readable evaluates c.in_ok-frame.ensures.ok
    (c.in_ok-push_terms.ensures.ok ∙ ap (λ r. r.slots ++ map (λ t. Some t) c.deref.result.now) same_blocks ∙ ap (λ rs. b.blocks.slots ++ map (λ r. Some r) rs) c.deref.ensures.value)
    (subst (λ r. KeepsBlocks r d) same_blocks c.push_terms.ensures.keeps) (c.push_terms.ensures.kept ∙ ap (λ r. r.kept) same_blocks) push.marks in
    let runs : ApplyRuns w (world l pushed_store order inner) q c.count-base.result predicate view goal gs e k es =
    subst (λ r. ApplyRuns w (world l pushed_store order inner) q r predicate view goal gs e k es) (sym base)
    (subst (λ r. ApplyRuns w (world l pushed_store order r) q (length b.blocks.slots) predicate view goal gs e k es) same_all there) in
    let end = c.try_rules.new.run in
    runs.step end.now (world l (seen end.store) order (view_of end.arenas))
    (so l is_code has runs.called runs.pred.clauses pushed_store.now.state [] (runs.level ∷ es) runs.made.is runs.made.args refl)) c.try_rules.ensures
