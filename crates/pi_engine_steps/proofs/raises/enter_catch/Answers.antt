use Rattle.std.proofs.Common.{◌≡◌, refl, sym, ap, subst}
use Rattle.std.proofs.lemmas.Result.{IfOk-weaker}
use Rattle.pi_constraints.specs.Evaluation.{evaluated}
use Rattle.pi_engine_code.specs.declared.code.Node.{Node}
use Rattle.pi_engine_arenas.specs.Arenas.{view_of, between}
use Rattle.pi_engine_code.specs.Code.{tables_of, operand_tree}
use Rattle.pi_engine_stands.specs.Here.{IsReadable}
use Rattle.pi_engine_stands.specs.Stands.{tables_in, world}
use Rattle.pi_engine_arenas.specs.Frames.{slot_number}
use Rattle.pi_engine_stands.specs.Evaluates.{Evaluates}
use Rattle.pi_engine_stands.proofs.FramesStand.{going-of}
use Rattle.pi_engine_stands.proofs.EqualStands.{first-slot-of, node-readable}
use Rattle.pi_engine_stands.proofs.CatchStands.{catch-enters}
use Rattle.pi_engine_steps.proofs.raises.enter_catch.Goals as goal

pub returns : goal.returns
returns g c = IfOk-weaker c.enter_level.result _ _ (λ _ so node l is_code view goal gs e k es at stands.
    let v = g.S.StateStore.seen c.args.run.now.store in
    let v1 = g.S.StateStore.seen c.value.new.run.store in
    let a = view_of c.args.run.now.arenas in
    let a1 = view_of c.value.new.run.arenas in
    let w = world l v g.S.StateStore.order a in
    let after = world l (g.S.StateStore.seen c.enter_level.new.run.store) g.S.StateStore.order (view_of c.enter_level.new.run.arenas) in
    let p = c.args.point in
    let s = c.args.step in
    let T = tables_in l in
    let is = going-of w p _ e v.now.state k stands.runs in
    let b = is.block in
    let q = c.in_ok-_wanted._wanted in
    let tables : T ≡ tables_of l.terms c.args.code.now = ap (tables_of l.terms) is_code in
    let readable = node-readable w p s goal gs e k (Node.Catch c.args.ball) at is node in
    let first : c.first_slot.result ≡ slot_number b.base b.first = first-slot-of w p s goal gs e k c.first_slot.result at is c.first_slot.ensures in
    let one : Evaluates b (between v v1 a a1) (evaluated (operand_tree T c.args.ball) e v.now.state) q =
    subst (λ t. Evaluates b (between v v1 a a1) (evaluated (operand_tree t c.args.ball) e v.now.state) q) (sym tables)
    (c.in_ok-_wanted.ensures.ok l.terms b e first (subst (λ t. IsReadable t b c.args.ball) tables readable) stands.entries.tables is.behind.slots) in
    catch-enters w after v1 a1 p s c.args.ball q c.enter_level.new.run.now view goal gs e k es node at stands readable one (so refl l is_code)) c.enter_level.ensures.catches
