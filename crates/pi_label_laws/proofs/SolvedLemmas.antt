-- A stable state in which all items of posted constraints come to integers has a solution.
use Rattle.std.specs.Prelude.{◌≡◌, ℕ, ◌≤◌, ℤ, IsTrue, List, Some, Contains}
use Rattle.std.proofs.Common.{arith, sym, ◌∙◌, ap, subst}
use Rattle.pi_constraints.specs.declared.constraint.Constraint.{Constraint}
use Rattle.pi_constraints.specs.declared.constraint.Item.{Item}
use Rattle.pi_constraints.specs.declared.domain.Span.{Span}
use Rattle.pi_constraints.specs.Domain.{IsWithinBounds, IsDomain, has_value, values_of, size_of}
use Rattle.pi_constraints.proofs.DomainLemmas.{values_are_within_bounds}
use Rattle.pi_constraints.proofs.StateLemmas.{held_is, domain_unbound, domain_good}
use Rattle.pi_constraints.specs.State.{State, domain_of}
use Rattle.pi_prop_spec.specs.Ends.{least_of}
use Rattle.pi_prop_spec.specs.Places.{places_of}
use Rattle.pi_prop_spec.specs.Solutions.{value_of}
use Rattle.pi_prop_spec.proofs.EndLemmas.{least-has}
use Rattle.pi_settling.specs.Roots.{root_item, domain_or_all, given, Counts, by_domain, by_place}
use Rattle.pi_settling.specs.Solves.{Solves}
use Rattle.pi_settling.proofs.StableLemmas.{only-has}
use Rattle.pi_settling.proofs.TwiceLemmas.{unbound-root, has_in}
use Rattle.pi_label_laws.proofs.RestLemmas.{Rests, IsTold, valued, valued-item, valued-root, told-bounds, all_told-holds}

-- the least value of each unbound variable
pub least_values : State → ℕ → ℤ
least_values r n = least_of (given r (Item.Var n))

pub least_solution : State → ℕ → ℤ
least_solution r = valued r (least_values r)

Fits : State → Item → Type 0
Fits r x = IsTrue (has_value (given r x) (value_of (least_solution r) x)) × IsWithinBounds (value_of (least_solution r) x)

some-value : (d : List Span) → IsDomain d → 2 ≤ size_of d → IsTrue (has_value d (least_of d))
unfolding values_of
some-value d up two = least-has d up (λ e. let none : size_of d ≡ 0 = ap size_of e in omega arith)

domain-root : (r : State) (n : ℕ) (d : List Span) → domain_of r n ≡ Some d → root_item r (Item.Var n) ≡ Item.Var n
domain-root r n d has = unbound-root r n (sym (held_is r n) ∙ domain_unbound r n d has)

variable-fits : (r : State) (n : ℕ) (d : List Span) → Rests r → domain_of r n ≡ Some d → Fits r (Item.Var n)
unfolding Fits least_solution least_values
variable-fits r n d w has =
    let good = domain_good r n d w.state has in
    let given_is : given r (Item.Var n) ≡ d = ap domain_or_all has in
    let value : value_of (least_solution r) (Item.Var n) ≡ least_of d = valued-item r (least_values r) (Item.Var n) ∙ (ap (value_of (least_values r)) (domain-root r n d has) ∙ ap least_of given_is) in
    let inside : IsTrue (has_value d (value_of (least_solution r) (Item.Var n))) = subst (λ (i : ℤ). IsTrue (has_value d i)) (sym value) (some-value d good.0 good.1) in
    (has_in d (given r (Item.Var n)) (value_of (least_solution r) (Item.Var n)) (sym given_is) inside, values_are_within_bounds d (value_of (least_solution r) (Item.Var n)) good.0 inside)

integer-fits : (r : State) (i : ℤ) → IsWithinBounds i → Fits r (Item.Int i)
unfolding Fits
integer-fits r i b = (only-has i, b)

fits : (r : State) → Rests r → ((c : Constraint) (y : Item) → Contains r.constraints c → Contains (places_of c) y → IsTold r y) → (x : Item) → Counts r x → Fits r x
fits r w told x (by_domain n d same has) = subst (Fits r) (sym same) (variable-fits r n d w has)
fits r w told x (by_place c y posted at same) =
    let there = told c y posted at in
    subst (Fits r) (sym (same ∙ there.1)) (integer-fits r there.0 (told-bounds r c y there.0 w.may posted at there.1))

pub told-solved : (r : State) → Rests r → ((c : Constraint) (y : Item) → Contains r.constraints c → Contains (places_of c) y → IsTold r y) → Solves r (least_solution r)
unfolding Fits least_solution
told-solved r w told = record {
  follows = λ n. valued-root r (least_values r) w (Item.Var n) ∙ sym (valued-item r (least_values r) (Item.Var n));
  values = λ x counts. (fits r w told x counts).0;
  bounded = λ x counts. (fits r w told x counts).1;
  holds = λ c posted. all_told-holds r (least_values r) c w posted (λ y at. told c y posted at);
}
