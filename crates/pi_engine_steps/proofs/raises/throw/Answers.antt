use Rattle.std.proofs.Common.{◌≡◌, sym, ap, subst}
use Rattle.pi_constraints.specs.Evaluation.{evaluated}
use Rattle.pi_constraints.specs.State.{bindings}
use Rattle.pi_engine_stands.specs.Rests.{Rests}
use Rattle.pi_constraints.specs.Value.{value}
use Rattle.pi_engine_code.specs.declared.code.Node.{Node}
use Rattle.pi_engine_arenas.specs.Arenas.{view_of, between}
use Rattle.pi_engine_code.specs.Code.{tables_of, operand_tree}
use Rattle.pi_engine_stands.specs.Here.{IsReadable}
use Rattle.pi_engine_stands.specs.Makes.{raised_for}
use Rattle.pi_engine_stands.specs.Stands.{tables_in, world}
use Rattle.pi_engine_arenas.specs.Frames.{slot_number}
use Rattle.pi_engine_stands.specs.Evaluates.{Evaluates}
use Rattle.pi_engine_stands.proofs.FramesStand.{going-of}
use Rattle.pi_engine_stands.proofs.EqualStands.{first-slot-of, node-readable, throw-step}
use Rattle.pi_engine_steps.proofs.raises.throw.Goals as goal
use Rattle.pi_engine_stands.proofs.RestLemmas.{evaluated-rests}

pub returns : goal.returns
returns g c = λ node l is_code view goal gs e k es at stands.
    let v = g.S.StateStore.seen c.args.run.now.store in
    let v1 = g.S.StateStore.seen c.value.new.run.store in
    let a = view_of c.args.run.now.arenas in
    let a1 = view_of c.value.new.run.arenas in
    let w = world l v g.S.StateStore.order a in
    let p = c.args.point in
    let s = c.args.step in
    let T = tables_in l in
    let is = going-of w p _ e v.now.state k stands.runs in
    let b = is.block in
    let x = evaluated (operand_tree T c.args.operand) e v.now.state in
    let q = c.in_ok-term.term in
    let tables : T ≡ tables_of l.terms c.args.code.now = ap (tables_of l.terms) is_code in
    let readable = node-readable w p s goal gs e k (Node.Throw c.args.operand) at is node in
    let first : c.first_slot.result ≡ slot_number b.base b.first = first-slot-of w p s goal gs e k c.first_slot.result at is c.first_slot.ensures in
    let one : Evaluates b (between v v1 a a1) x q =
    subst (λ t. Evaluates b (between v v1 a a1) (evaluated (operand_tree t c.args.operand) e v.now.state) q) (sym tables)
    (c.in_ok-term.ensures.ok l.terms b e first (subst (λ t. IsReadable t b c.args.operand) tables readable) stands.entries.tables is.behind.slots) in
    let state : Rests v1.now.state = subst Rests (sym one.writes.state) (evaluated-rests (operand_tree T c.args.operand) e v.now.state stands.entries.state) in
    let raised = subst (λ r. c.in_ok-ball.ball ≡ raised_for (value (bindings r) x.tree)) one.writes.state (c.in_ok-ball.ensures x.tree one.term state.calm.state.acyclic) in
    throw-step w v1 a1 p s c.args.operand q c.in_ok-ball.ball view goal gs e k es node at stands one raised
