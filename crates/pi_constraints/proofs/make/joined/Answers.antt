use Rattle.std.proofs.Common.{arith, ◌≡◌, List, [], ap, sym, ◌∙◌, subst, refl, to_z, of_z, w64, get_or, Vec, Global}
use Rattle.std.specs.Prelude.{ℤ, pos, ◌+ℤ◌, ◌≤ℤ◌, ◌<ℤ◌, int_lt, true, false}
use Rattle.std.specs.Ordering.{int_eq}
use Rattle.std.specs.List.{list_any}
use Rattle.std.proofs.lemmas.Int.{ints}
use Rattle.std.proofs.lemmas.List.{nil_from_length, take_all}
use Rattle.std.proofs.lemmas.Bool.Decides.{nat_tests}
use Rattle.std.proofs.lemmas.List.Elements.{All-get_or}
use Rattle.pi_constraints.specs.declared.domain.Span.{Span}
use Rattle.pi_constraints.specs.Domain.{AscendFrom, IsDomain, IsWithinBounds, has_value}
use Rattle.pi_constraints.proofs.JoinLemmas.{JoinsBefore-first, JoinsBefore-further, JoinsBefore-longer, last_within}
use Rattle.std.proofs.lemmas.Result.{IfOk-from_err}
use Rattle.pi_constraints.proofs.make.joined.Goals as goal
use Rattle.pi_constraints.proofs.make.joined.Goals.{then-value-last+in_ok-push, else-value-last}

pub returns-then-is_empty-clause-domain : goal.returns-then-is_empty-clause-domain
unfolding AscendFrom
returns-then-is_empty-clause-domain c = subst IsDomain (sym c.new-spans.ensures.items) tt

pub returns-then-is_empty-clause-values : goal.returns-then-is_empty-clause-values
unfolding has_value
returns-then-is_empty-clause-values c n =
    let none : c.args.values.now ≡ [] = nil_from_length c.args.values.now (grind (arith, nat_tests, c.is_empty.ensures, c.if-is_empty.true)) in
    ap (λ (ss : List Span). has_value ss n) c.new-spans.ensures.items ∙ ap (λ (xs : List ℤ). list_any (λ m. int_eq n m) xs) (sym none)

pub loop-i-init : goal.loop-i-init
loop-i-init c = JoinsBefore-first c.args.values.now c.new-spans.result.items _ c.requires.within (grind (arith, c.is_empty.ensures, c.if-is_empty.false)) (omega (arith, ints)) c.new-spans.ensures.items

pub overflow_add-last : goal.overflow_add-last
overflow_add-last c =
    let within = last_within c.args.values.now c.loop-i.i c.loop-i.spans.items c.loop-i.last c.requires.within c.loop-i-test.true c.loop-i.invariant in
    omega (arith, ints, within.0, within.1)

above : (a b x y : ℤ) → int_lt a b ≡ true → a ≡ x → b ≡ y → x <ℤ y
above a b x y t e f = grind (arith, ints)

not_above : (a b x y : ℤ) → int_lt a b ≡ false → a ≡ x → b ≡ y → y ≤ℤ x
not_above a b x y t e f = grind (arith, ints)

pub loop-i-preserved : goal.loop-i-preserved
loop-i-preserved c =
    let number = All-get_or IsWithinBounds c.args.values.now c.loop-i.i (pos 0) c.loop-i-test.true c.requires.within in
    let within = last_within c.args.values.now c.loop-i.i c.loop-i.spans.items c.loop-i.last c.requires.within c.loop-i-test.true c.loop-i.invariant in
    let value : to_z w64 (of_z w64 c.narrowed-value.result) ≡ get_or c.args.values.now c.loop-i.i (pos 0) = omega (arith, ints, number.0, number.1) in
    elim c.if-value-last.branch [
      | then-value-last+in_ok-push w ↦ JoinsBefore-further c.args.values.now c.loop-i.i c.loop-i.spans.items c.if-value-last.spans.items c.loop-i.last c.if-value-last.last.lo _ c.requires.within c.loop-i-test.true c.loop-i.invariant
          value (above (to_z w64 (of_z w64 (to_z w64 (of_z w64 c.loop-i.last.hi) +ℤ pos 1))) (to_z w64 (of_z w64 c.narrowed-value.result)) (c.loop-i.last.hi +ℤ pos 1) (to_z w64 (of_z w64 c.narrowed-value.result)) w.if-value-last.true (omega (arith, ints, within.0, within.1)) refl) (ap (λ (v : Vec Span Global). v.items) w.spans-is ∙ w.in_ok-push.ensures.items) (ap (λ (x : Span). x.lo) w.last-is)
      | else-value-last w ↦ JoinsBefore-longer c.args.values.now c.loop-i.i c.loop-i.spans.items c.if-value-last.spans.items c.loop-i.last c.if-value-last.last.lo _ c.requires.ascending c.requires.within (omega arith) c.loop-i-test.true c.loop-i.invariant
          value (not_above (to_z w64 (of_z w64 (to_z w64 (of_z w64 c.loop-i.last.hi) +ℤ pos 1))) (to_z w64 (of_z w64 c.narrowed-value.result)) (c.loop-i.last.hi +ℤ pos 1) (to_z w64 (of_z w64 c.narrowed-value.result)) w.if-value-last.false (omega (arith, ints, within.0, within.1)) refl) (ap (λ (v : Vec Span Global). v.items) w.spans-is) (ap (λ (x : Span). x.lo) w.last-is)
    ]

pub returns-in_err-push-clause-domain : goal.returns-in_err-push-clause-domain
returns-in_err-push-clause-domain c = IfOk-from_err c.from_residual.result _ c.from_residual.ensures.0

pub returns-in_err-push-clause-values : goal.returns-in_err-push-clause-values
returns-in_err-push-clause-values c = IfOk-from_err c.from_residual.result _ c.from_residual.ensures.0

pub returns-in_err-push-2-clause-domain : goal.returns-in_err-push-2-clause-domain
returns-in_err-push-2-clause-domain c = IfOk-from_err c.from_residual-in_err-push-2.result _ c.from_residual-in_err-push-2.ensures.0

pub returns-in_err-push-2-clause-values : goal.returns-in_err-push-2-clause-values
returns-in_err-push-2-clause-values c = IfOk-from_err c.from_residual-in_err-push-2.result _ c.from_residual-in_err-push-2.ensures.0

pub returns-clause-domain : goal.returns-clause-domain
returns-clause-domain c = subst IsDomain (sym c.in_ok-push-2.ensures.items) c.loop-i.invariant.joins.domain

pub returns-clause-values : goal.returns-clause-values
returns-clause-values c n = ap (λ (ss : List Span). has_value ss n) c.in_ok-push-2.ensures.items ∙ (c.loop-i.invariant.joins.values n ∙ ap (λ (xs : List ℤ). list_any (λ m. int_eq n m) xs) (take_all c.loop-i.i c.args.values.now (omega (arith, c.loop-i-test.false))))
