use Rattle.std.proofs.Common.{◌≡◌, ◌∙◌, Bool, true, false, sym, ap, subst}
use Rattle.pi_terms.specs.Copy.{copy, new_variables}
use Rattle.pi_constraints.specs.State.{next}
use Rattle.pi_constraints.specs.Store.{StoreView, Extend}
use Rattle.pi_constraints.specs.Unify.{unified}
use Rattle.pi_constraints.specs.Evaluation.{evaluated, with_new_variables}
use Rattle.pi_constraints.proofs.StateLemmas.{extends}
use Rattle.pi_unify.proofs.KeepsLemmas.{keeps_then}
use Rattle.pi_engine_settle.proofs.MarkLemmas.{since-stays}
use Rattle.pi_engine_arenas.specs.Arenas.{view_of, between}
use Rattle.pi_engine_code.specs.Code.{tables_of, operand_tree}
use Rattle.pi_engine_stands.specs.Here.{IsReadable, NodeIsReadable}
use Rattle.pi_engine_stands.specs.Stands.{tables_in, world, block_at}
use Rattle.pi_engine_arenas.specs.Frames.{slot_number}
use Rattle.pi_engine_stands.specs.Evaluates.{Evaluates}
use Rattle.pi_engine_stands.proofs.HereLemmas.{holds-extends}
use Rattle.pi_engine_stands.proofs.WrittenGoals.{own-block, own-slots}
use Rattle.pi_engine_stands.proofs.CaughtStand.{catch-at, same-operand, TriesToCatch, caught-told, next-caught, none-caught}
use Rattle.pi_engine_steps.proofs.raises.catch_ball.Goals as goal

pub returns-in_default : goal.returns-in_default
returns-in_default g c = λ l is_code place inner handler wanted e k at own again state tables.
    let w = world l (g.S.StateStore.seen c.args.run.now.store) g.S.StateStore.order (view_of c.args.run.now.arenas) in
    let it = catch-at w c.args.back.base place c.args.back.frame inner handler wanted e k c.args.step own at in
    absurd (c.in_default.not-Catch it.0 it.1)

pub returns-then-not-branch : goal.returns-then-not-branch
returns-then-not-branch g c = λ l is_code place inner handler wanted e k at own again rests tables.
    let v = g.S.StateStore.seen c.args.run.now.store in
    let v0 = g.S.StateStore.seen c.begin.new.store in
    let v1 = g.S.StateStore.seen c.value.new.run.store in
    let v2 = g.S.StateStore.seen c.place.new.s in
    let u = g.S.StateStore.seen c.unify.new.s in
    let a = view_of c.args.run.now.arenas in
    let a1 = view_of c.value.new.run.arenas in
    let w = world l v g.S.StateStore.order a in
    let back = c.args.back in
    let s = c.args.step in
    let operand = c.in-Catch.operand in
    let b = block_at l place back.base in
    let it = catch-at w back.base place back.frame inner handler wanted e k s own at in
    let same : it.0 ≡ operand = same-operand s.node it.0 operand it.1 c.in-Catch.is in
    let tables_are : tables_in l ≡ tables_of l.terms c.args.code.now = ap (tables_of l.terms) is_code in
    let wanted_is : wanted ≡ operand_tree (tables_of l.terms c.args.code.now) operand = it.2 ∙ ap (operand_tree (tables_in l)) same ∙ ap (λ t. operand_tree t operand) tables_are in
    let readable : IsReadable (tables_of l.terms c.args.code.now) b operand =
    subst (λ t. IsReadable t b operand) tables_are (subst (λ n. NodeIsReadable (tables_in l) b n) c.in-Catch.is (own-block w back.base place back.frame _ e k s own at).readable) in
    let first : c.first_slot.result ≡ slot_number b.base b.first =
    own-slots w back.base place back.frame c.first_slot.result _ e k s own at (c.first_slot.ensures ∙ ap (λ p. slot_number p.base s.first_slot) c.behind_level.ensures) in
    let stays = c.begin.ensures.stays in
    let seen : Evaluates b (between v0 v1 a a1) (evaluated wanted e v0.now.state) c.in_ok-wanted.wanted =
    subst (λ t. Evaluates b (between v0 v1 a a1) (evaluated t e v0.now.state) c.in_ok-wanted.wanted) (sym wanted_is)
    (c.in_ok-wanted.ensures.ok l.terms b e first readable (λ n t has. extends v v0 stays.keeps n t (tables n t has)) (holds-extends v.now.terms v0.now.terms a.blocks.slots b e (extends v v0 stays.keeps) own.behind.slots)) in
    let told : TriesToCatch b v u a a1 wanted c.args.ball.now e c.in_ok-unify.field-0 =
    caught-told b v v0 v1 v2 u a a1 wanted c.args.ball.now e c.in_ok-wanted.wanted c.in_ok-raised.raised c.in_ok-unify.field-0 again rests stays own.behind.slots seen c.in_ok-raised.ensures.ok c.look-root.ensures.below c.unify.ensures.keeps
    c.in_ok-unify.ensures.unifies in
    let fails : c.in_ok-unify.field-0 ≡ false = c.if-not-branch.true in
    (told.writes, none-caught v.now.state u.now.state _ c.args.handler c.in_ok-unify.field-0 fails told.answers)

pub returns : goal.returns
returns g c = λ l is_code place inner handler wanted e k at own again rests tables.
    let v = g.S.StateStore.seen c.args.run.now.store in
    let v0 = g.S.StateStore.seen c.begin.new.store in
    let v1 = g.S.StateStore.seen c.value.new.run.store in
    let v2 = g.S.StateStore.seen c.place.new.s in
    let u = g.S.StateStore.seen c.unify.new.s in
    let a = view_of c.args.run.now.arenas in
    let a1 = view_of c.value.new.run.arenas in
    let w = world l v g.S.StateStore.order a in
    let back = c.args.back in
    let s = c.args.step in
    let operand = c.in-Catch.operand in
    let b = block_at l place back.base in
    let it = catch-at w back.base place back.frame inner handler wanted e k s own at in
    let same : it.0 ≡ operand = same-operand s.node it.0 operand it.1 c.in-Catch.is in
    let tables_are : tables_in l ≡ tables_of l.terms c.args.code.now = ap (tables_of l.terms) is_code in
    let wanted_is : wanted ≡ operand_tree (tables_of l.terms c.args.code.now) operand = it.2 ∙ ap (operand_tree (tables_in l)) same ∙ ap (λ t. operand_tree t operand) tables_are in
    let readable : IsReadable (tables_of l.terms c.args.code.now) b operand =
    subst (λ t. IsReadable t b operand) tables_are (subst (λ n. NodeIsReadable (tables_in l) b n) c.in-Catch.is (own-block w back.base place back.frame _ e k s own at).readable) in
    let first : c.first_slot.result ≡ slot_number b.base b.first =
    own-slots w back.base place back.frame c.first_slot.result _ e k s own at (c.first_slot.ensures ∙ ap (λ p. slot_number p.base s.first_slot) c.behind_level.ensures) in
    let stays = c.begin.ensures.stays in
    let seen : Evaluates b (between v0 v1 a a1) (evaluated wanted e v0.now.state) c.in_ok-wanted.wanted =
    subst (λ t. Evaluates b (between v0 v1 a a1) (evaluated t e v0.now.state) c.in_ok-wanted.wanted) (sym wanted_is)
    (c.in_ok-wanted.ensures.ok l.terms b e first readable (λ n t has. extends v v0 stays.keeps n t (tables n t has)) (holds-extends v.now.terms v0.now.terms a.blocks.slots b e (extends v v0 stays.keeps) own.behind.slots)) in
    let told : TriesToCatch b v u a a1 wanted c.args.ball.now e c.in_ok-unify.field-0 =
    caught-told b v v0 v1 v2 u a a1 wanted c.args.ball.now e c.in_ok-wanted.wanted c.in_ok-raised.raised c.in_ok-unify.field-0 again rests stays own.behind.slots seen c.in_ok-raised.ensures.ok c.look-root.ensures.below c.unify.ensures.keeps
    c.in_ok-unify.ensures.unifies in
    let so : c.in_ok-unify.field-0 ≡ true = c.if-not-branch.false in
    let kept = keeps_then v0 v1 u seen.writes.keeps (keeps_then v1 v2 u c.in_ok-raised.ensures.ok.changes.keeps c.unify.ensures.keeps) in
    let since = since-stays v0 u v.now.state c.in_ok-since.since kept c.in_ok-since.ensures.since in
    let goes = c.in_ok-next.ensures v.now.state since (λ _. told.left so) in
    (told.writes, next-caught v.now.state u.now.state _ c.args.handler c.in_ok-next.next c.in_ok-unify.field-0 so told.answers told.left goes)
