use Rattle.std.proofs.Common.{◌≡◌, ◌+◌, ◌^◌, ◌<◌, true, sym, ap, subst, arith}
use Rattle.pi_constraints.specs.Evaluation.{evaluated}
use Rattle.pi_engine_stands.specs.Rests.{Rests}
use Rattle.pi_constraints.specs.Store.{IsTerm}
use Rattle.pi_constraints.specs.Unify.{unified}
use Rattle.pi_unify.specs.Answers.{Answers}
use Rattle.pi_engine_code.specs.declared.code.Node.{Node}
use Rattle.pi_engine_arenas.specs.Arenas.{view_of, between}
use Rattle.pi_engine_code.specs.Code.{tables_of, operand_tree}
use Rattle.pi_engine_arenas.specs.Frames.{point_behind, slot_number}
use Rattle.pi_engine_stands.specs.Here.{IsReadable}
use Rattle.pi_engine_stands.specs.Stands.{tables_in, world}
use Rattle.pi_engine_stands.specs.Evaluates.{Evaluates}
use Rattle.pi_engine_stands.proofs.FramesStand.{going-of, going-size}
use Rattle.pi_constraints.proofs.StateLemmas.{extends}
use Rattle.pi_engine_stands.proofs.EqualStands.{first-slot-of, node-readable, both-evaluated, equal-step}
use Rattle.pi_engine_steps.proofs.calls.make_equal.Goals as goal
use Rattle.pi_engine_stands.proofs.RestLemmas.{evaluated-rests}
use Rattle.pi_constraints.specs.State.{IsState, SpeaksBelow, next}
use Rattle.pi_unify.proofs.KeepsLemmas.{keeps_then}
use Rattle.pi_engine_settle.specs.Settles.{LeftBy}
use Rattle.pi_engine_settle.proofs.LeftLemmas.{left-by, left-answered}
use Rattle.pi_engine_settle.proofs.MarkLemmas.{since-stays}
use Rattle.pi_engine_stands.specs.Settling.{NextAfter}

pub returns : goal.returns
returns g c = λ node l is_code view goal gs e k es at stands.
    let v = g.S.StateStore.seen c.args.run.now.store in
    let v1 = g.S.StateStore.seen c.value.new.run.store in
    let v2 = g.S.StateStore.seen c.value-2.new.run.store in
    let a = view_of c.args.run.now.arenas in
    let a1 = view_of c.value.new.run.arenas in
    let a2 = view_of c.value-2.new.run.arenas in
    let w = world l v g.S.StateStore.order a in
    let p = c.args.point in
    let s = c.args.step in
    let T = tables_in l in
    let is = going-of w p _ e v.now.state k stands.runs in
    let b = is.block in
    let L = operand_tree T c.args.left in
    let R = operand_tree T c.args.right in
    let x = evaluated L e v.now.state in
    let y = evaluated R x.slots x.state in
    let tables : T ≡ tables_of l.terms c.args.code.now = ap (tables_of l.terms) is_code in
    let readable = node-readable w p s goal gs e k (Node.Unify c.args.left c.args.right) at is node in
    let first : c.first_slot-first.result ≡ slot_number b.base b.first = first-slot-of w p s goal gs e k c.first_slot-first.result at is c.first_slot-first.ensures in
    let one_is : Evaluates b (between v v1 a a1) x c.in_ok-a.a =
    subst (λ t. Evaluates b (between v v1 a a1) (evaluated (operand_tree t c.args.left) e v.now.state) c.in_ok-a.a) (sym tables)
    (c.in_ok-a.ensures.ok l.terms b e first (subst (λ t. IsReadable t b c.args.left) tables readable.0) stands.entries.tables is.behind.slots) in
    let two_is : Evaluates b (between v1 v2 a1 a2) (evaluated R x.slots v1.now.state) c.in_ok-b.b =
    subst (λ t. Evaluates b (between v1 v2 a1 a2) (evaluated (operand_tree t c.args.right) x.slots v1.now.state) c.in_ok-b.b) (sym tables)
    (c.in_ok-b.ensures.ok l.terms b x.slots first (subst (λ t. IsReadable t b c.args.right) tables readable.1)
    (λ n q has. extends v v1 one_is.writes.keeps n q (stands.entries.tables n q has)) one_is.writes.holds) in
    let both : Evaluates b (between v v2 a a2) y c.in_ok-b.b = both-evaluated b v v1 v2 a a1 a2 L R e c.in_ok-a.a c.in_ok-b.b one_is two_is in
    let state : Rests v2.now.state = subst Rests (sym both.writes.state) (evaluated-rests R x.slots x.state (evaluated-rests L e v.now.state stands.entries.state)) in
    let here : IsTerm v2 c.in_ok-a.a x.tree = two_is.writes.keeps.terms c.in_ok-a.a x.tree one_is.term in
    let below = c.look-root.ensures.below in
    let v3 = g.S.StateStore.seen c.begin.new.store in
    let u = g.S.StateStore.seen c.unify.new.s in
    let stays = c.begin.ensures.stays in
    let left_there : SpeaksBelow (next v2.now.state) x.tree = below c.in_ok-a.a x.tree here in
    let right_there : SpeaksBelow (next v2.now.state) y.tree = below c.in_ok-b.b y.tree both.term in
    let answers2 : Answers (unified v2.now.state x.tree y.tree) c.in_ok-one.one u.now.state =
    subst (λ q. IsState q → SpeaksBelow (next q) x.tree → SpeaksBelow (next q) y.tree → Answers (unified q x.tree y.tree) c.in_ok-one.one u.now.state) stays.state
    (λ is_one a_below b_below. c.in_ok-one.ensures.unifies x.tree y.tree is_one (stays.keeps.terms c.in_ok-a.a x.tree here) (stays.keeps.terms c.in_ok-b.b y.tree both.term) a_below b_below)
    state.calm.state left_there right_there in
    let answers : Answers (unified y.state x.tree y.tree) c.in_ok-one.one u.now.state = subst (λ q. Answers (unified q x.tree y.tree) c.in_ok-one.one u.now.state) both.writes.state answers2 in
    let left2 : c.in_ok-one.one ≡ true → LeftBy v2.now.state u.now.state = λ so. left-by v2.now.state u.now.state state.calm state.none_made
    (left-answered v2.now.state u.now.state x.tree y.tree c.in_ok-one.one state.calm.state state.calm.settles left_there right_there answers2 so) in
    let since = since-stays v3 u v2.now.state c.in_ok-since.since c.in_ok-one.ensures.keeps c.in_ok-since.ensures.since in
    let size = going-size w p s goal gs e k at is in
    let fits : p.place + s.size < 2 ^ 32 = omega (arith, size.0, size.1) in
    let next2 : NextAfter c.in_ok-one.one v2.now.state u.now.state (point_behind p s) c.in_ok-next.next =
    subst (λ q. NextAfter c.in_ok-one.one v2.now.state u.now.state q c.in_ok-next.next) (c.behind.ensures fits) (c.in_ok-next.ensures v2.now.state since left2) in
    equal-step w v2 u a2 p s c.args.left c.args.right c.in_ok-b.b c.in_ok-one.one c.in_ok-next.next view goal gs e k es node at stands both (keeps_then v2 v3 u stays.keeps c.in_ok-one.ensures.keeps) answers
    (λ so. subst (λ q. LeftBy q u.now.state) both.writes.state (left2 so)) (subst (λ q. NextAfter c.in_ok-one.one q u.now.state (point_behind p s) c.in_ok-next.next) both.writes.state next2)
