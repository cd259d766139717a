use Rattle.std.proofs.Common.{◌≡◌, ◌++◌, ◌∙◌, sym, ap, subst, refl, map, Some, [], false}
use Rattle.std.specs.Prelude.{slice_get}
use Rattle.std.proofs.lemmas.Result.{IfOk-weaker}
use Rattle.pi_terms.specs.Tree.{trees_of}
use Rattle.pi_constraints.specs.Evaluation.{evaluated_all}
use Rattle.pi_engine_code.specs.declared.code.Node.{Node}
use Rattle.pi_engine_arenas.specs.Arenas.{view_of, between}
use Rattle.pi_engine_code.specs.Code.{tables_of}
use Rattle.pi_engine_stands.specs.Here.{Block, AreReadable}
use Rattle.pi_engine_stands.specs.Stands.{World, tables_in, world, Stands}
use Rattle.pi_meaning.specs.Machine.Step.{try_clauses, back_to}
use Rattle.pi_engine_stands.specs.Evaluates.{operand_trees, EvaluatesAll, with_blocks}
use Rattle.pi_engine_stands.proofs.FramesStand.{framed, arenas-framed, going-of}
use Rattle.pi_engine_stands.proofs.EqualStands.{block_of, first-slot-of, node-readable}
use Rattle.pi_engine_stands.proofs.CallRuns.{Calls, CallRuns, GivesBack, gives-cut, gives-whole, calls, call-runs}
use Rattle.pi_engine_stands.proofs.CallMade.{Made}
use Rattle.pi_engine_stands.proofs.RulesTried.{found-there}
use Rattle.pi_meaning.specs.Machine.Configuration.{Called}
use Rattle.pi_engine_steps.proofs.FactsTried.{same-pred}
use Rattle.pi_engine_steps.proofs.calls.call.Goals as goal
use Rattle.pi_engine_steps.proofs.calls.call.Goals.{then-step, else-step}

pub returns : goal.returns
returns g c = IfOk-weaker c.try_clauses.result _ _ (λ _ so node l is_code has view goal gs e k es at stands.
    let seen = g.S.StateStore.seen in
    let order = g.S.StateStore.order in
    let v = seen c.args.run.now.store in
    let u = seen c.take_arguments.new.run.store in
    let a = view_of c.args.run.now.arenas in
    let b = view_of c.take_arguments.new.run.arenas in
    let fs = c.frame_behind.new.self.frames in
    let w : World _ = world l v order a in
    let p = c.args.point in
    let s = c.args.step in
    let q = c.args.predicate in
    let predicate = c.args.called.now in
    let T = tables_in l in
    let is = going-of w p _ e v.now.state k stands.runs in
    let block : Block = block_of w p goal gs e k es stands in
    let tables : T ≡ tables_of l.terms c.args.code.now = ap (tables_of l.terms) is_code in
    let it : Calls w goal q c.args.operands predicate = calls w p s goal gs e k es q c.args.operands predicate node at stands
    (found-there w q predicate (ap (λ x. slice_get x.predicates.items q) is_code ∙ has)) in
    let readable : AreReadable T block c.args.operands predicate.arity =
    subst (AreReadable T block c.args.operands) it.it.arities (node-readable w p s goal gs e k (Node.Call q c.args.operands) at is node) in
    let evaluates : EvaluatesAll block (between v u a b) (evaluated_all (trees_of (operand_trees T c.args.operands predicate.arity)) e v.now.state) c.take_arguments.new.run.terms.items =
    subst (λ t. EvaluatesAll block (between v u a b) (evaluated_all (trees_of (operand_trees t c.args.operands predicate.arity)) e v.now.state) c.take_arguments.new.run.terms.items) (sym tables)
    (c.in_ok-take_arguments.ensures.ok l.terms block e (first-slot-of w p s goal gs e k c.first_slot.result at is c.first_slot.ensures)
    (subst (λ t. AreReadable t block c.args.operands predicate.arity) tables readable) stands.entries.tables is.behind.slots) in
    let after = c.push_terms.new.self in
    let framed_run = c.frame_behind.new.self in
    let run = c.if-step.run in
    let same_blocks : framed_run.blocks ≡ b.blocks = c.frame_behind.ensures.blocks in
    let gives : GivesBack b.blocks run.arenas.blocks p.base s.is_last =
    elim c.if-step.branch [
      | then-step x ↦
          subst (λ r. GivesBack b.blocks r.arenas.blocks p.base s.is_last) (sym x.run-is)
          (gives-cut b.blocks framed_run.blocks x.truncate.new.self p.base s.is_last x.if-step.true same_blocks x.truncate.ensures.fewer x.truncate.ensures.keeps x.truncate.ensures.kept)
      | else-step x ↦
          subst (λ r. GivesBack b.blocks r.arenas.blocks p.base s.is_last) (sym x.run-is) (gives-whole b.blocks framed_run.blocks p.base s.is_last x.if-step.false same_blocks)
    ] in
    let same_terms : run.terms.items ≡ c.take_arguments.new.run.terms.items =
    elim c.if-step.branch [
      | then-step x ↦ ap (λ r. r.terms.items) x.run-is
      | else-step x ↦ ap (λ r. r.terms.items) x.run-is
    ] in
    let same_store : seen run.store ≡ u =
    elim c.if-step.branch [
      | then-step x ↦ ap (λ r. seen r.store) x.run-is
      | else-step x ↦ ap (λ r. seen r.store) x.run-is
    ] in
    let same_arenas : with_blocks (framed b fs) after ≡ with_blocks (view_of run.arenas) after =
    ap (λ r. with_blocks r after) (arenas-framed b (view_of framed_run) same_blocks c.frame_behind.ensures.entries c.frame_behind.ensures.level c.frame_behind.ensures.collected)
    ∙ elim c.if-step.branch [
      | then-step x ↦ sym (ap (λ r. with_blocks (view_of r.arenas) after) x.run-is)
      | else-step x ↦ sym (ap (λ r. with_blocks (view_of r.arenas) after) x.run-is)
    ] in
    let runs : CallRuns w (world l u order (with_blocks (framed b fs) after)) q c.count-base.result c.in_ok-frame.frame predicate view goal gs e k es =
    subst (λ n. CallRuns w (world l u order (with_blocks (framed b fs) after)) q n c.in_ok-frame.frame predicate view goal gs e k es) (sym c.count-base.ensures)
    (call-runs w u b fs run.arenas.blocks after c.take_arguments.new.run.terms.items p s q c.args.operands c.in_ok-frame.frame predicate view goal gs e k es it at stands readable evaluates c.in_ok-frame.ensures.ok gives
    (c.in_ok-push_terms.ensures.ok ∙ ap (λ rs. run.arenas.blocks.slots ++ map (λ r. Some r) rs) (c.deref.ensures.value ∙ same_terms)) c.push_terms.ensures.keeps c.push_terms.ensures.kept) in
    let here : World _ = world l (seen run.store) order (with_blocks (view_of run.arenas) after) in
    let called : Called = record { function = false; args = runs.args } in
    let made : Made here q c.count-base.result c.in_ok-frame.frame called runs.pred.clauses runs.frames es predicate.first =
    subst (λ r. Made (world l (seen run.store) order r) q c.count-base.result c.in_ok-frame.frame called runs.pred.clauses runs.frames es predicate.first) same_arenas
    (subst (λ r. Made (world l r order (with_blocks (framed b fs) after)) q c.count-base.result c.in_ok-frame.frame called runs.pred.clauses runs.frames es predicate.first) (sym same_store) runs.made) in
    let pred_is : made.is.call.call.pred ≡ runs.pred =
    same-pred (slice_get l.preds q) made.is.call.call.pred runs.pred made.is.call.call.is_pred (runs.made.is.call.call.is_pred ∙ ap (λ x. Some x) runs.pred_is) in
    let end = c.try_clauses.new.run in
    runs.step end.now (world l (seen end.store) order (view_of end.arenas))
    (subst (λ r. Stands (world l (seen end.store) order (view_of end.arenas)) end.now (try_clauses runs.pred.index runs.pred.clauses runs.args (back_to [] r.now.state runs.frames) es)) same_store
    (subst (λ r. Stands (world l (seen end.store) order (view_of end.arenas)) end.now (try_clauses r.index runs.pred.clauses runs.args (back_to [] (seen run.store).now.state runs.frames) es)) pred_is
    (so l is_code has runs.args runs.pred.clauses (seen run.store).now.state runs.frames es made.is made.args refl)))) c.try_clauses.ensures
