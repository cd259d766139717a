use Rattle.std.proofs.Common.{◌≡◌, ◌∙◌, ◌^◌, ◌+◌, ◌<◌, true, Some, sym, ap, subst, length, arith}
use Rattle.std.specs.Prelude.{slice_index_or}
use Rattle.pi_terms.specs.Tree.{trees_of, tree_count}
use Rattle.pi_constraints.specs.State.{IsState}
use Rattle.pi_constraints.specs.Evaluation.{evaluated_all}
use Rattle.pi_constraints.specs.Store.{AreTerms}
use Rattle.pi_unify.proofs.KeepsLemmas.{keeps_then}
use Rattle.pi_settling.specs.Goals.{constraint_effect, is_constraint_goal}
use Rattle.pi_engine_settle.specs.Due.{SinceIs}
use Rattle.pi_engine_steps.specs.Done.{Leaves}
use Rattle.pi_lib.proofs.RunLemmas.{terms-count}
use Rattle.pi_lib_constraints.specs.Names.{goal_name, goal_arity}
use Rattle.pi_engine_code.specs.declared.code.Node.{Node}
use Rattle.pi_engine_code.specs.Code.{tables_of, operand_trees}
use Rattle.pi_engine_arenas.specs.Arenas.{view_of, between}
use Rattle.pi_engine_arenas.specs.Frames.{point_behind, slot_number}
use Rattle.pi_engine_settle.proofs.MarkLemmas.{since-stays}
use Rattle.pi_engine_stands.specs.Here.{AreReadable}
use Rattle.pi_engine_stands.specs.Rests.{Rests}
use Rattle.pi_engine_stands.specs.Stands.{tables_in, world}
use Rattle.pi_engine_stands.specs.Evaluates.{EvaluatesAll}
use Rattle.pi_engine_stands.specs.Does.{ComesAfter}
use Rattle.pi_engine_stands.proofs.FramesStand.{going-of, going-size}
use Rattle.pi_engine_stands.proofs.CallRuns.{args-count}
use Rattle.pi_engine_stands.proofs.EqualStands.{first-slot-of, node-readable}
use Rattle.pi_engine_stands.proofs.RestLemmas.{evaluated-all-rests}
use Rattle.pi_engine_stands.proofs.ConstraintNames.{goal-effect}
use Rattle.pi_engine_stands.proofs.BuiltInStands.{all-many, goal-there}
use Rattle.pi_engine_stands.proofs.ConstraintsStand.{constrain-step}
use Rattle.pi_engine_steps.proofs.GoalsLeave.{goal-leaves, terms-stay}
use Rattle.pi_engine_steps.proofs.constraints.constrain.Goals as goal

pub returns : goal.returns
returns g c = λ name node l is_code view goal gs e k es at stands.
    let v = g.S.StateStore.seen c.args.run.now.store in
    let v1 = g.S.StateStore.seen c.take_arguments.new.run.store in
    let v2 = g.S.StateStore.seen c.begin.new.store in
    let u = g.S.StateStore.seen c.call_constraint-outcome.new.s in
    let a = view_of c.args.run.now.arenas in
    let a1 = view_of c.take_arguments.new.run.arenas in
    let w = world l v g.S.StateStore.order a in
    let p = c.args.point in
    let s = c.args.step in
    let T = tables_in l in
    let is = going-of w p _ e v.now.state k stands.runs in
    let b = is.block in
    let first = c.args.operands in
    let count = c.args.count in
    let args = operand_trees T first count in
    let all = evaluated_all (trees_of args) e v.now.state in
    let word = slice_index_or T.names name _ in
    let rs = c.take_arguments.new.run.terms.items in
    let posted = c.args.goal in
    let tables : T ≡ tables_of l.terms c.args.code.now = ap (tables_of l.terms) is_code in
    let readable = node-readable w p s goal gs e k (Node.Constrain posted name first count) at is node in
    let begins : c.first_slot.result ≡ slot_number b.base b.first = first-slot-of w p s goal gs e k c.first_slot.result at is c.first_slot.ensures in
    let evaluates : EvaluatesAll b (between v v1 a a1) all rs =
    subst (λ t. EvaluatesAll b (between v v1 a a1) (evaluated_all (trees_of (operand_trees t first count)) e v.now.state) rs) (sym tables)
    (c.in_ok-take_arguments.ensures.ok l.terms b e begins (subst (λ t. AreReadable t b first count) tables readable.0) stands.entries.tables is.behind.slots) in
    let state1 : Rests v1.now.state = subst Rests (sym evaluates.writes.state) (evaluated-all-rests (trees_of args) e v.now.state stands.entries.state) in
    let stays = c.begin.ensures.stays in
    let state2 : Rests v2.now.state = subst Rests (sym stays.state) state1 in
    let here : v2.now.state ≡ all.state = stays.state ∙ evaluates.writes.state in
    let many : length args ≡ count = args-count T first count readable.0.0 in
    let trees : tree_count all.trees ≡ count = all-many args e v.now.state count many in
    let arity : tree_count all.trees ≡ goal_arity posted = trees ∙ sym readable.1.takes in
    let does = goal-there word count args e v.now.state many readable.1.known in
    let known = subst (λ n. is_constraint_goal word n ≡ true) (sym trees) readable.1.known in
    let done : constraint_effect (goal_name posted) all.trees v2.now.state ≡ Some does.0 =
    ap (constraint_effect (goal_name posted) all.trees) here ∙ sym (readable.1.same all.trees all.state trees) ∙ sym (goal-effect word all.trees all.state known) ∙ does.1 in
    let terms1 : AreTerms v1 rs all.trees = evaluates.terms in
    let terms2 : AreTerms v2 rs all.trees = terms-stay v1 v2 rs all.trees stays.keeps terms1 in
    let shown : AreTerms v2 c.deref.result.now all.trees = subst (λ qs. AreTerms v2 qs all.trees) (sym c.deref.ensures.value) terms2 in
    let long : length c.deref.result.now ≡ goal_arity posted = ap length c.deref.ensures.value ∙ terms-count v1 rs all.trees terms1 ∙ arity in
    let leaves = subst (λ r. Leaves r does.0) (sym stays.state) (goal-leaves v1 posted rs all.trees does.0 arity state1 c.see_terms.ensures terms1 (ap (constraint_effect (goal_name posted) all.trees) (sym stays.state) ∙ done)) in
    let shows = c.call_constraint-outcome.ensures.shows all.trees does.0 state2.calm.state shown long done in
    let since = since-stays v2 u v2.now.state c.in_ok-since.since c.call_constraint-outcome.ensures.keeps (subst (λ r. SinceIs v2 r c.in_ok-since.since) (sym stays.state) c.in_ok-since.ensures.since) in
    let size = going-size w p s goal gs e k at is in
    let fit : p.place + s.size < 2 ^ 32 = omega (arith, size.0, size.1) in
    let next = subst (λ q. ComesAfter v2.now.state q does.0 u.now.state c.in_ok-next.next) (c.behind.ensures fit) (c.in_ok-next.ensures v2 does.0 state2.calm.state since shows leaves) in
    constrain-step w v1 u a1 p s posted name first count rs does.0 c.in_ok-next.next view goal gs e k es node at stands evaluates (keeps_then v1 v2 u stays.keeps c.call_constraint-outcome.ensures.keeps) does.1
    (subst (λ r. ComesAfter r (point_behind p s) does.0 u.now.state c.in_ok-next.next) here next)
