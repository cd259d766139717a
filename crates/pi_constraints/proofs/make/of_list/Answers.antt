use Rattle.std.proofs.Common.{rules, arith, ◌≡◌, true, Bool, List, ap, sym, ◌∙◌, subst}
use Rattle.std.specs.Prelude.{ℤ, IsTrue, All}
use Rattle.std.specs.Ordering.{int_eq, int_cmp}
use Rattle.std.specs.List.Sorted.{IsSorted}
use Rattle.std.specs.List.{list_any}
use Rattle.std.proofs.lemmas.Grind.{common_steps}
use Rattle.std.proofs.lemmas.List.Sorted.{All-permutation, list_any-IsPermutation}
use Rattle.pi_constraints.specs.declared.domain.Span.{Span}
use Rattle.pi_constraints.specs.Domain.{IsWithinBounds, has_value}
use Rattle.pi_constraints.proofs.FaultLemmas.{no_memory, made, none_too_wide}
use Rattle.pi_constraints.proofs.JoinLemmas.{listed, from_listed}
use Rattle.std.proofs.lemmas.Result.{IfOk-from_err}
use Rattle.pi_constraints.proofs.make.of_list.Goals as goal

is_true : (b : Bool) → IsTrue b → b ≡ true
is_true b h = search rules

pub joined-requires-clause-within : goal.joined-requires-clause-within
joined-requires-clause-within c =
    let all : All IsWithinBounds c.args.values.now = λ k d h. grind (arith, common_steps) in
    let copied : c.in_ok-ascending.ascending.items ≡ c.args.values.now = search rules in
    subst (All IsWithinBounds) (sym c.as_slice.ensures.value) (All-permutation IsWithinBounds _ _ c.in_ok-sort.ensures.permutation (subst (All IsWithinBounds) (sym copied) all))

pub returns-clause-values : goal.returns-clause-values
returns-clause-values c n =
    let copied : c.in_ok-ascending.ascending.items ≡ c.args.values.now = search rules in
    let same : has_value c.new.result n ≡ list_any (λ m. int_eq n m) c.args.values.now =
    ap (λ (d : List Span). has_value d n) c.new.ensures ∙ (c.in_ok-spans.ensures.values n
    ∙ (ap (λ (xs : List ℤ). list_any (λ m. int_eq n m) xs) c.as_slice.ensures.value
    ∙ (sym (list_any-IsPermutation (λ m. int_eq n m) _ _ c.in_ok-sort.ensures.permutation)
    ∙ ap (λ (xs : List ℤ). list_any (λ m. int_eq n m) xs) copied))) in
    (λ h. listed c.args.values.now n (sym same ∙ is_true _ h), λ h. subst (λ (b : Bool). IsTrue b) (sym (same ∙ from_listed c.args.values.now n h)) (search rules))

pub returns-then-not-all-clause-values : goal.returns-then-not-all-clause-values
returns-then-not-all-clause-values c = tt

pub returns-in_err-ascending-clause-values : goal.returns-in_err-ascending-clause-values
returns-in_err-ascending-clause-values c = IfOk-from_err c.from_residual.result _ c.from_residual.ensures.0

pub returns-in_err-ascending-clause-too_wide : goal.returns-in_err-ascending-clause-too_wide
returns-in_err-ascending-clause-too_wide c =
    let all : All IsWithinBounds c.args.values.now = λ k d h. grind (arith, common_steps) in
    none_too_wide c.from_residual.result c.args.values.now all (no_memory c.from_residual.result c.from_residual.ensures.1)

pub returns-in_err-sort-clause-values : goal.returns-in_err-sort-clause-values
returns-in_err-sort-clause-values c = IfOk-from_err c.from_residual-in_err-sort.result _ c.from_residual-in_err-sort.ensures.0

pub returns-in_err-sort-clause-too_wide : goal.returns-in_err-sort-clause-too_wide
returns-in_err-sort-clause-too_wide c =
    let all : All IsWithinBounds c.args.values.now = λ k d h. grind (arith, common_steps) in
    none_too_wide c.from_residual-in_err-sort.result c.args.values.now all (no_memory c.from_residual-in_err-sort.result c.from_residual-in_err-sort.ensures.1)

pub returns-in_err-spans-clause-values : goal.returns-in_err-spans-clause-values
returns-in_err-spans-clause-values c = IfOk-from_err c.from_residual-in_err-spans.result _ c.from_residual-in_err-spans.ensures.0

pub returns-in_err-spans-clause-too_wide : goal.returns-in_err-spans-clause-too_wide
returns-in_err-spans-clause-too_wide c =
    let all : All IsWithinBounds c.args.values.now = λ k d h. grind (arith, common_steps) in
    none_too_wide c.from_residual-in_err-spans.result c.args.values.now all (no_memory c.from_residual-in_err-spans.result c.from_residual-in_err-spans.ensures.1)

pub joined-requires-clause-ascending : goal.joined-requires-clause-ascending
joined-requires-clause-ascending c = subst (IsSorted int_cmp) (sym c.as_slice.ensures.value) c.in_ok-sort.ensures.sorted

pub new-requires : goal.new-requires
new-requires c = c.in_ok-spans.ensures.domain

pub returns-clause-too_wide : goal.returns-clause-too_wide
returns-clause-too_wide c =
    let all : All IsWithinBounds c.args.values.now = λ k d h. grind (arith, common_steps) in
    none_too_wide _ c.args.values.now all (made c.new.result)
