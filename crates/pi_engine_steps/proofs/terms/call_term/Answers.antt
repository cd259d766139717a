use Rattle.std.proofs.Common.{◌≡◌, ◌∙◌, ℕ, List, Some, None, sym, ap, subst, refl, rules, length, map, ◌++◌}
use Rattle.std.specs.Prelude.{slice_get, IsSome}
use Rattle.pi_terms.specs.Tree.{trees_of}
use Rattle.pi_constraints.specs.Store.{IsName}
use Rattle.pi_constraints.specs.Evaluation.{evaluated_all}
use Rattle.pi_core.specs.CoreTree.{pred_tree}
use Rattle.pi_engine_facts.specs.Called.{NamesAreDistinct}
use Rattle.pi_engine_arenas.specs.declared.run.Now.{Now}
use Rattle.pi_meaning.specs.Machine.Step.{unknown_by, goal_step, with_rest}
use Rattle.pi_engine_stands.specs.Makes.{StandsAfter}
use Rattle.pi_constraints.specs.declared.store.Ref.{Ref}
use Rattle.pi_engine_code.specs.declared.code.Node.{Node}
use Rattle.pi_engine_code.specs.Code.{tables_of, operand_trees, preds_of}
use Rattle.pi_engine_code.specs.Callables.{place_in}
use Rattle.pi_engine_arenas.specs.Arenas.{view_of, between}
use Rattle.pi_engine_stands.specs.Here.{Block, AreReadable}
use Rattle.pi_engine_stands.specs.Stands.{World, tables_in, world}
use Rattle.pi_engine_stands.specs.Evaluates.{EvaluatesAll, with_blocks}
use Rattle.pi_engine_stands.proofs.FramesStand.{framed, arenas-framed, going-of}
use Rattle.pi_engine_stands.proofs.EqualStands.{block_of, first-slot-of, node-readable}
use Rattle.pi_engine_stands.proofs.CallRuns.{GivesBack, gives-cut, gives-whole}
use Rattle.pi_engine_stands.proofs.TermRuns.{term_arguments, named_point}
use Rattle.pi_engine_steps.proofs.TermsCalled.{Calls, not-callable, not-found, found-runs}
use Rattle.pi_engine_steps.proofs.terms.call_term.Goals.{then-step, else-step}
use Rattle.pi_engine_steps.proofs.terms.call_term.Goals as goal

pub returns-in_default : goal.returns-in_default
returns-in_default g c = λ node l is_code view goal gs e k es at stands.
    let seen = g.S.StateStore.seen in
    let order = g.S.StateStore.order in
    let v = seen c.args.run.now.store in
    let u = seen c.take_arguments.new.run.store in
    let a = view_of c.args.run.now.arenas in
    let b = view_of c.take_arguments.new.run.arenas in
    let w : World _ = world l v order a in
    let p = c.args.point in
    let s = c.args.step in
    let operands = c.args.operands in
    let arity = c.args.count in
    let T = tables_in l in
    let is = going-of w p _ e v.now.state k stands.runs in
    let block : Block = block_of w p goal gs e k es stands in
    let rs : List Ref = c.take_arguments.new.run.terms.items in
    let tables : T ≡ tables_of l.terms c.args.code.now = ap (tables_of l.terms) is_code in
    let readable : AreReadable T block operands arity = (node-readable w p s goal gs e k (Node.CallTerm operands arity) at is node).0 in
    let evaluates : EvaluatesAll block (between v u a b) (term_arguments w operands arity e) rs =
    subst (λ t. EvaluatesAll block (between v u a b) (evaluated_all (trees_of (operand_trees t operands arity)) e v.now.state) rs) (sym tables)
    (c.in_ok-take_arguments.ensures.ok l.terms block e (first-slot-of w p s goal gs e k c.first_slot.result at is c.first_slot.ensures) (subst (λ t. AreReadable t block operands arity) tables readable) stands.entries.tables is.behind.slots) in
    let calls : Calls u c.in_ok-name.field-0 rs c.take_called.new.args.items = subst (λ qs. Calls u c.in_ok-name.field-0 qs c.take_called.new.args.items) c.deref.ensures.value c.in_ok-name.ensures.called in
    let first : (q : Ref) → slice_get rs 0 ≡ Some q → c.first_of.result ≡ q = subst (λ (qs : List Ref). (q : Ref) → slice_get qs 0 ≡ Some q → c.first_of.result ≡ q) c.deref-in_default.ensures.value c.first_of.ensures in
    not-callable w u b p s operands arity rs c.take_called.new.args.items c.first_of.result c.in_ok-name.field-0 c.in_ok-ball.ball view goal gs e k es node at stands evaluates c.in_default.is calls first c.in_ok-ball.ensures

pub returns-in_default-goal_named : goal.returns-in_default-goal_named
returns-in_default-goal_named g c = λ node l is_code view goal gs e k es at stands.
    let seen = g.S.StateStore.seen in
    let order = g.S.StateStore.order in
    let v = seen c.args.run.now.store in
    let u = seen c.take_arguments.new.run.store in
    let a = view_of c.args.run.now.arenas in
    let b = view_of c.take_arguments.new.run.arenas in
    let w : World _ = world l v order a in
    let p = c.args.point in
    let s = c.args.step in
    let operands = c.args.operands in
    let arity = c.args.count in
    let T = tables_in l in
    let is = going-of w p _ e v.now.state k stands.runs in
    let block : Block = block_of w p goal gs e k es stands in
    let rs : List Ref = c.take_arguments.new.run.terms.items in
    let tables : T ≡ tables_of l.terms c.args.code.now = ap (tables_of l.terms) is_code in
    let readable : AreReadable T block operands arity = (node-readable w p s goal gs e k (Node.CallTerm operands arity) at is node).0 in
    let evaluates : EvaluatesAll block (between v u a b) (term_arguments w operands arity e) rs =
    subst (λ t. EvaluatesAll block (between v u a b) (evaluated_all (trees_of (operand_trees t operands arity)) e v.now.state) rs) (sym tables)
    (c.in_ok-take_arguments.ensures.ok l.terms block e (first-slot-of w p s goal gs e k c.first_slot.result at is c.first_slot.ensures) (subst (λ t. AreReadable t block operands arity) tables readable) stands.entries.tables is.behind.slots) in
    let calls : Calls u c.in_ok-name.field-0 rs c.take_called.new.args.items = subst (λ qs. Calls u c.in_ok-name.field-0 qs c.take_called.new.args.items) c.deref.ensures.value c.in_ok-name.ensures.called in
    let n = c.in-Some.name in
    let parts : List Ref = c.take_called.new.args.items in
    let some : c.in_ok-name.field-0 ≡ Some n = c.in-Some.is in
    let distinct : NamesAreDistinct u = c.in_ok-name.ensures.distinct (subst IsSome (sym some) refl) in
    let many : c.len-arity.result ≡ length parts = search rules in
    let none : place_in l.code.callables n (length parts) ≡ None = ap (λ x. place_in x.callables n (length parts)) is_code ∙ ap (place_in c.args.code.now.callables n) (sym many) ∙ sym c.goal_named.ensures ∙ c.in_default-goal_named.is in
    let told : (text : List ℕ) → IsName u n text → c.in_ok-ball-2.ball ≡ unknown_by (map pred_tree (preds_of l.code)) text (length parts) =
    λ text named.
    c.in_ok-ball-2.ensures ∙ ap (λ ps. unknown_by (map pred_tree (ps ++ c.as_slice-helpers.result.now)) c.name.result.now c.len-arity.result) c.as_slice-preds.ensures
    ∙ ap (λ ps. unknown_by (map pred_tree (c.args.code.now.core.now.preds ++ ps)) c.name.result.now c.len-arity.result) c.as_slice-helpers.ensures
    ∙ ap (λ x. unknown_by (map pred_tree (preds_of x)) c.name.result.now c.len-arity.result) (sym is_code)
    ∙ ap (λ x. unknown_by (map pred_tree (preds_of l.code)) x c.len-arity.result) (c.name.ensures text named)
    ∙ ap (unknown_by (map pred_tree (preds_of l.code)) text) many in
    not-found w u b p s operands arity rs parts c.in_ok-name.field-0 n c.in_ok-ball-2.ball view goal gs e k es node at stands evaluates some calls distinct none told

pub returns : goal.returns
returns g c = λ node l is_code view goal gs e k es at stands.
    let seen = g.S.StateStore.seen in
    let order = g.S.StateStore.order in
    let v = seen c.args.run.now.store in
    let u = seen c.take_arguments.new.run.store in
    let a = view_of c.args.run.now.arenas in
    let b = view_of c.take_arguments.new.run.arenas in
    let w : World _ = world l v order a in
    let p = c.args.point in
    let s = c.args.step in
    let operands = c.args.operands in
    let arity = c.args.count in
    let T = tables_in l in
    let is = going-of w p _ e v.now.state k stands.runs in
    let block : Block = block_of w p goal gs e k es stands in
    let rs : List Ref = c.take_arguments.new.run.terms.items in
    let tables : T ≡ tables_of l.terms c.args.code.now = ap (tables_of l.terms) is_code in
    let readable : AreReadable T block operands arity = (node-readable w p s goal gs e k (Node.CallTerm operands arity) at is node).0 in
    let evaluates : EvaluatesAll block (between v u a b) (term_arguments w operands arity e) rs =
    subst (λ t. EvaluatesAll block (between v u a b) (evaluated_all (trees_of (operand_trees t operands arity)) e v.now.state) rs) (sym tables)
    (c.in_ok-take_arguments.ensures.ok l.terms block e (first-slot-of w p s goal gs e k c.first_slot.result at is c.first_slot.ensures) (subst (λ t. AreReadable t block operands arity) tables readable) stands.entries.tables is.behind.slots) in
    let calls : Calls u c.in_ok-name.field-0 rs c.take_called.new.args.items = subst (λ qs. Calls u c.in_ok-name.field-0 qs c.take_called.new.args.items) c.deref.ensures.value c.in_ok-name.ensures.called in
    let n = c.in-Some.name in
    let parts : List Ref = c.take_called.new.args.items in
    let some : c.in_ok-name.field-0 ≡ Some n = c.in-Some.is in
    let many : c.len-arity.result ≡ length parts = search rules in
    let there : place_in l.code.callables n (length parts) ≡ Some c.in-Some-goal_named.place =
    ap (λ x. place_in x.callables n (length parts)) is_code ∙ ap (place_in c.args.code.now.callables n) (sym many) ∙ sym c.goal_named.ensures ∙ c.in-Some-goal_named.is in
    let fs = c.frame_behind.new.self.frames in
    let after = c.push_terms.new.self in
    let framed_run = c.frame_behind.new.self in
    let run = c.if-step.run in
    let same_blocks : framed_run.blocks ≡ b.blocks = c.frame_behind.ensures.blocks in
    let gives : GivesBack b.blocks run.arenas.blocks p.base s.is_last =
    elim c.if-step.branch [
      | then-step x ↦
          subst (λ r. GivesBack b.blocks r.arenas.blocks p.base s.is_last) (sym x.run-is)
          (gives-cut b.blocks framed_run.blocks x.truncate.new.self p.base s.is_last x.if-step.true same_blocks x.truncate.ensures.fewer x.truncate.ensures.keeps x.truncate.ensures.kept)
      | else-step x ↦
          subst (λ r. GivesBack b.blocks r.arenas.blocks p.base s.is_last) (sym x.run-is) (gives-whole b.blocks framed_run.blocks p.base s.is_last x.if-step.false same_blocks)
    ] in
    let same_parts : run.parts.items ≡ parts =
    elim c.if-step.branch [
      | then-step x ↦ ap (λ r. r.parts.items) x.run-is
      | else-step x ↦ ap (λ r. r.parts.items) x.run-is
    ] in
    let same_store : seen run.store ≡ u =
    elim c.if-step.branch [
      | then-step x ↦ ap (λ r. seen r.store) x.run-is
      | else-step x ↦ ap (λ r. seen r.store) x.run-is
    ] in
    let same_arenas : with_blocks (framed b fs) after ≡ with_blocks (view_of run.arenas) after =
    ap (λ r. with_blocks r after) (arenas-framed b (view_of framed_run) same_blocks c.frame_behind.ensures.entries c.frame_behind.ensures.level c.frame_behind.ensures.collected)
    ∙ elim c.if-step.branch [
      | then-step x ↦ sym (ap (λ r. with_blocks (view_of r.arenas) after) x.run-is)
      | else-step x ↦ sym (ap (λ r. with_blocks (view_of r.arenas) after) x.run-is)
    ] in
    let pushed : after.slots ≡ run.arenas.blocks.slots ++ map (λ r. Some r) parts =
    c.in_ok-push_terms.ensures.ok ∙ ap (λ (qs : List Ref). run.arenas.blocks.slots ++ map (λ r. Some r) qs) (c.deref-2.ensures.value ∙ same_parts) in
    let stands_there : StandsAfter (world l u order (with_blocks (framed b fs) after)) (Now.Going (named_point c.in-Some-goal_named.place (length run.arenas.blocks.slots) c.in_ok-frame.frame)) (goal_step view l.preds goal e v.now.state (with_rest gs k es)) =
    found-runs w u b fs run.arenas.blocks after p s operands arity rs parts c.in_ok-name.field-0 n c.in-Some-goal_named.place c.in_ok-frame.frame view goal gs e k es node at stands evaluates some calls there c.in_ok-frame.ensures.ok gives pushed c.push_terms.ensures.keeps
    c.push_terms.ensures.kept in
    subst (λ m. StandsAfter (world l (seen run.store) order (with_blocks (view_of run.arenas) after)) (Now.Going (named_point c.in-Some-goal_named.place m c.in_ok-frame.frame)) (goal_step view l.preds goal e v.now.state (with_rest gs k es))) (sym c.count-base.ensures)
    (subst (λ r. StandsAfter (world l (seen run.store) order r) (Now.Going (named_point c.in-Some-goal_named.place (length run.arenas.blocks.slots) c.in_ok-frame.frame)) (goal_step view l.preds goal e v.now.state (with_rest gs k es))) same_arenas
    (subst (λ r. StandsAfter (world l r order (with_blocks (framed b fs) after)) (Now.Going (named_point c.in-Some-goal_named.place (length run.arenas.blocks.slots) c.in_ok-frame.frame)) (goal_step view l.preds goal e v.now.state (with_rest gs k es))) (sym same_store) stands_there))
