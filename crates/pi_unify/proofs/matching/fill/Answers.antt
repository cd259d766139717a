use Rattle.std.proofs.Common.{◌≡◌, ◌<◌, length, Some, None, get_or, sym, ◌∙◌, refl, arith}
use Rattle.std.proofs.lemmas.List.{get_or_default}
use Rattle.pi_unify.specs.Terms.{IsGiven}
use Rattle.pi_unify.proofs.SlotLemmas.{given_at, given_set, fills_one, filled_told, empty_told, fills_none}
use Rattle.pi_unify.proofs.BindLemmas.{if_err}
use Rattle.pi_unify.proofs.matching.fill.Goals as goal

pub returns-in_ok-compare-in-Some-clause-found : goal.returns-in_ok-compare-in-Some-clause-found
returns-in_ok-compare-in-Some-clause-found g c = λ term a all.
    let v = g.S.StateStore.seen c.args.s.now in
    let slots = c.args.slots.now.items in
    let within : c.args.k < length slots = omega (arith, c.if-k-len.false, c.len.ensures, c.args.slots.now.ok.0) in
    let holds : get_or slots c.args.k None ≡ Some c.in-Some.held = get_or_default slots c.args.k None c.index.result.now within ∙ (sym c.index.ensures ∙ c.in-Some.is) in
    let given : IsGiven v c.in-Some.held = given_at v slots c.args.k c.in-Some.held all holds in
    filled_told v slots c.args.k c.in-Some.held c.args.term c.is_eq.result _ holds given term c.is_eq.ensures (λ t u is_t is_u. c.in_ok-compare-in-Some.ensures t u is_t is_u a)

pub returns-in-None-clause-fills : goal.returns-in-None-clause-fills
returns-in-None-clause-fills g c =
    let slots = c.args.slots.now.items in
    let within : c.args.k < length slots = omega (arith, c.if-k-len.false, c.len.ensures, c.args.slots.now.ok.0) in
    fills_one slots _ c.args.k c.args.term refl (get_or_default slots c.args.k None c.index.result.now within ∙ (sym c.index.ensures ∙ c.in-None.is))

pub returns-in-None-clause-given : goal.returns-in-None-clause-given
returns-in-None-clause-given g c = λ term all. given_set (g.S.StateStore.seen c.args.s.now) c.args.slots.now.items c.args.k c.args.term all term

pub returns-in-None-clause-found : goal.returns-in-None-clause-found
returns-in-None-clause-found g c = λ term a all.
    let slots = c.args.slots.now.items in
    let within : c.args.k < length slots = omega (arith, c.if-k-len.false, c.len.ensures, c.args.slots.now.ok.0) in
    empty_told (g.S.StateStore.seen c.args.s.now) slots _ c.args.k c.args.term (get_or_default slots c.args.k None c.index.result.now within ∙ (sym c.index.ensures ∙ c.in-None.is)) within term refl

pub returns-then-k-len-clause-fills : goal.returns-then-k-len-clause-fills
returns-then-k-len-clause-fills g c = fills_none c.args.slots.now.items

pub returns-then-k-len-clause-given : goal.returns-then-k-len-clause-given
returns-then-k-len-clause-given g c = λ term all. all

pub returns-in_err-compare-in-Some-clause-fills : goal.returns-in_err-compare-in-Some-clause-fills
returns-in_err-compare-in-Some-clause-fills g c = fills_none c.args.slots.now.items

pub returns-in_err-compare-in-Some-clause-given : goal.returns-in_err-compare-in-Some-clause-given
returns-in_err-compare-in-Some-clause-given g c = λ term all. all

pub returns-in_err-compare-in-Some-clause-found : goal.returns-in_err-compare-in-Some-clause-found
returns-in_err-compare-in-Some-clause-found g c = if_err c.from_residual.result _ c.from_residual.ensures.0

pub returns-in_ok-compare-in-Some-clause-fills : goal.returns-in_ok-compare-in-Some-clause-fills
returns-in_ok-compare-in-Some-clause-fills g c = fills_none c.args.slots.now.items

pub returns-in_ok-compare-in-Some-clause-given : goal.returns-in_ok-compare-in-Some-clause-given
returns-in_ok-compare-in-Some-clause-given g c = λ term all. all
