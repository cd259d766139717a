use Rattle.std.proofs.Common.{arith, ◌≡◌, List, [], ap, sym, ◌∙◌, subst, refl, to_z, of_z, w64, get_or, Vec, Global}
use Rattle.std.specs.Prelude.{ℤ, pos, ◌+ℤ◌, ◌≤ℤ◌, ◌<ℤ◌, int_lt, true, false}
use Rattle.std.proofs.lemmas.Int.{ints}
use Rattle.std.proofs.lemmas.List.{nil_from_length}
use Rattle.std.proofs.lemmas.Bool.Decides.{nat_tests}
use Rattle.pi_constraints.specs.declared.domain.Span.{Span}
use Rattle.pi_constraints.specs.Domain.{AscendFrom, IsDomain, has_value}
use Rattle.pi_prop_filters.proofs.JoinLemmas.{JoinedBefore-first, JoinedBefore-further, JoinedBefore-longer, last_within, is_span, span_within, joined_domain, joined_values}
use Rattle.pi_prop_filters.proofs.BitLemmas.{value_back_64, next_back_64, max_back_64, max_same_64}
use Rattle.std.proofs.lemmas.Result.{IfOk-from_err}
use Rattle.pi_prop_filters.proofs.joins.joined.Goals as goal
use Rattle.pi_prop_filters.proofs.joins.joined.Goals.{then-span-last+in_ok-push, else-span-last}

pub returns-then-is_empty-clause-domain : goal.returns-then-is_empty-clause-domain
unfolding AscendFrom
returns-then-is_empty-clause-domain c = subst IsDomain (sym c.new-done.ensures.items) tt

pub returns-then-is_empty-clause-values : goal.returns-then-is_empty-clause-values
returns-then-is_empty-clause-values c n =
    let none : c.args.spans.now ≡ [] = nil_from_length c.args.spans.now (grind (arith, nat_tests, c.is_empty.ensures, c.if-is_empty.true)) in
    ap (λ (ss : List Span). has_value ss n) (c.new-done.ensures.items ∙ sym none)

pub loop-i-init : goal.loop-i-init
loop-i-init c = JoinedBefore-first c.args.spans.now c.new-done.result.items _ c.requires.spans (grind (arith, c.is_empty.ensures, c.if-is_empty.false)) refl c.new-done.ensures.items

pub overflow_add-last : goal.overflow_add-last
overflow_add-last c =
    let within = last_within c.args.spans.now c.loop-i.i c.loop-i.done.items c.loop-i.last c.loop-i.invariant in
    let back = value_back_64 c.loop-i.last.hi within in
    omega (arith, ints, within.0, within.1, back)

above : (a b x y : ℤ) → int_lt a b ≡ true → a ≡ x → b ≡ y → x <ℤ y
above a b x y t e f = grind (arith, ints)

not_above : (a b x y : ℤ) → int_lt a b ≡ false → a ≡ x → b ≡ y → y ≤ℤ x
not_above a b x y t e f = grind (arith, ints)

pub loop-i-preserved : goal.loop-i-preserved
loop-i-preserved c =
    let ss = c.args.spans.now in
    let i = c.loop-i.i in
    let s : Span = get_or ss i (record { lo = pos 0; hi = pos 0 }) in
    let span = is_span ss i s c.requires.spans c.loop-i-test.true refl in
    let inside = span_within s span in
    let within = last_within ss i c.loop-i.done.items c.loop-i.last c.loop-i.invariant in
    let max = c.max.ensures.value in
    elim c.if-span-last.branch [
      | then-span-last+in_ok-push w ↦
          let top = ap (λ (x : Span). x.hi) w.last-is in
          JoinedBefore-further ss i c.loop-i.done.items c.if-span-last.done.items c.loop-i.last s c.if-span-last.last.lo (to_z w64 (of_z w64 c.max.result)) c.requires.spans c.loop-i-test.true c.loop-i.invariant refl
          (above (to_z w64 (of_z w64 (to_z w64 (of_z w64 c.loop-i.last.hi) +ℤ pos 1))) (to_z w64 (of_z w64 s.lo)) (c.loop-i.last.hi +ℤ pos 1) s.lo w.if-span-last.true (next_back_64 c.loop-i.last.hi within) (value_back_64 s.lo inside.0))
          (ap (λ (v : Vec Span Global). v.items) w.done-is ∙ w.in_ok-push.ensures.items) (ap (λ (x : Span). x.lo) w.last-is) (max_same_64 c.max.result _ s.hi max top inside.1)
      | else-span-last w ↦
          let top = ap (λ (x : Span). x.hi) w.last-is in
          JoinedBefore-longer ss i c.loop-i.done.items c.if-span-last.done.items c.loop-i.last s c.if-span-last.last.lo (to_z w64 (of_z w64 c.max.result)) c.requires.ascend c.requires.spans (omega arith) c.loop-i-test.true c.loop-i.invariant refl
          (not_above (to_z w64 (of_z w64 (to_z w64 (of_z w64 c.loop-i.last.hi) +ℤ pos 1))) (to_z w64 (of_z w64 s.lo)) (c.loop-i.last.hi +ℤ pos 1) s.lo w.if-span-last.false (next_back_64 c.loop-i.last.hi within) (value_back_64 s.lo inside.0))
          (ap (λ (v : Vec Span Global). v.items) w.done-is) (ap (λ (x : Span). x.lo) w.last-is) (max_back_64 c.max.result _ c.loop-i.last.hi s.hi max top within inside.1)
    ]

pub returns-in_err-push-clause-domain : goal.returns-in_err-push-clause-domain
returns-in_err-push-clause-domain c = IfOk-from_err c.from_residual.result _ c.from_residual.ensures.0

pub returns-in_err-push-clause-values : goal.returns-in_err-push-clause-values
returns-in_err-push-clause-values c = IfOk-from_err c.from_residual.result _ c.from_residual.ensures.0

pub returns-in_err-push-2-clause-domain : goal.returns-in_err-push-2-clause-domain
returns-in_err-push-2-clause-domain c = IfOk-from_err c.from_residual-in_err-push-2.result _ c.from_residual-in_err-push-2.ensures.0

pub returns-in_err-push-2-clause-values : goal.returns-in_err-push-2-clause-values
returns-in_err-push-2-clause-values c = IfOk-from_err c.from_residual-in_err-push-2.result _ c.from_residual-in_err-push-2.ensures.0

pub returns-clause-domain : goal.returns-clause-domain
returns-clause-domain c = joined_domain c.args.spans.now c.loop-i.i c.loop-i.done.items _ c.loop-i.last c.loop-i.invariant c.in_ok-push-2.ensures.items

pub returns-clause-values : goal.returns-clause-values
returns-clause-values c n = joined_values c.args.spans.now c.loop-i.i c.loop-i.done.items _ c.loop-i.last n c.loop-i-test.false c.loop-i.invariant c.in_ok-push-2.ensures.items
