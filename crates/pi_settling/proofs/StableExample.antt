-- X :: 1..5, X #> 2, worked through the definitions: the stable domain of X is 3..5, and what the second goal comes to.
use Rattle.std.specs.Prelude.{◌≡◌, ◌≢◌, ℕ, zero, suc, ◌<◌, ℤ, pos, ◌≤ℤ◌, IsTrue, List, [], ◌∷◌, length, get_or, Contains, refl}
use Rattle.std.proofs.Common.{arith, sym, ◌∙◌, ap, subst, inl, inr}
use Rattle.std.proofs.lemmas.Int.{ints}
use Rattle.pi_constraints.specs.declared.constraint.Constraint.{Constraint}
use Rattle.pi_constraints.specs.declared.constraint.Item.{Item}
use Rattle.pi_constraints.specs.declared.domain.Span.{Span}
use Rattle.pi_constraints.specs.Domain.{AscendFrom, IsDomain, numbers_from, has_value, values_of}
use Rattle.pi_prop_spec.specs.Places.{sum_places, places_of, domain_at}
use Rattle.pi_prop_spec.specs.Sums.{least_of_all, least_of_others}
use Rattle.pi_prop_spec.specs.Filter.{PlaceKeeps, Leaves}
use Rattle.pi_traces.specs.Trace.{note, Load, one}
use Rattle.pi_constraints.specs.State.{State, free, followed_for, followed}
use Rattle.pi_settling.specs.Roots.{root_item, given, Counts, by_domain, by_place}
use Rattle.pi_settling.specs.Stable.{Domains, at_places, NoFilterChanges, Stays, Narrows, some_stay, IsStable}
use Rattle.pi_settling.specs.Load.{same_domain, count_due, roots_of}
use Rattle.pi_settling.specs.Settled.{loaded, with_events, IsSettled}
use Rattle.pi_settling.proofs.SettlingExamples.{span, from_to, state, at_least_three}

abbrev before : State
before = state (from_to 1 5 ∷ []) [] []

abbrev posted : State
posted = state (from_to 1 5 ∷ []) (at_least_three ∷ []) []

abbrev stable : State
stable = state (from_to 3 5 ∷ []) (at_least_three ∷ []) []

abbrev three_to_five : List Span
three_to_five = span 3 5 ∷ []

abbrev domains : Domains
domains (Item.Var zero) = three_to_five
domains (Item.Var (suc n)) = []
domains (Item.Int i) = []

-- ---- these domains lie below, and the filter leaves them

is_domain : IsDomain three_to_five
unfolding AscendFrom
is_domain = (omega (arith, ints), omega (arith, ints), omega (arith, ints), tt)

are_domains : (x : Item) → IsDomain (domains x)
unfolding AscendFrom
are_domains (Item.Var zero) = is_domain
are_domains (Item.Var (suc n)) = tt
are_domains (Item.Int i) = tt

lies_below : (x : Item) (i : ℤ) → IsTrue (has_value (domains x) i) → IsTrue (has_value (given posted x) i)
unfolding has_value
lies_below (Item.Var zero) i h = grind (arith, ints)
lies_below (Item.Var (suc n)) i h = absurd (cc)
lies_below (Item.Int j) i h = absurd (cc)

from_three : (i : ℤ) → IsTrue (has_value three_to_five i) → pos 3 ≤ℤ i
unfolding has_value
from_three i h = grind (arith, ints)

has_values : (k : ℕ) → k < 1 → domain_at (three_to_five ∷ []) k ≢ []
has_values zero m = λ e. absurd (cc)
has_values (suc k) m = absurd (omega arith)

keeps : (j : ℕ) (i : ℤ) → j < 1 → IsTrue (has_value three_to_five i) → PlaceKeeps at_least_three (three_to_five ∷ []) j i
unfolding least_of_all least_of_others
keeps zero i l h = record { values = λ k m. has_values k (omega arith); given = h; rule = let low : pos 3 ≤ℤ i = from_three i h in omega (arith, ints) }
keeps (suc j) i l h = absurd (omega arith)

the_one : (c : Constraint) → Contains posted.constraints c → at_least_three ≡ c
the_one c (zero, l, e) = e
the_one c (suc k, l, e) = absurd (omega arith)

whole : (i : ℤ) (k : ℕ) → k < length (places_of at_least_three) → IsTrue (has_value (domain_at (at_places posted domains at_least_three) k) i) → Leaves at_least_three (at_places posted domains at_least_three) k i
unfolding sum_places followed followed_for
whole i zero m g = λ j b same. keeps j i (omega arith) g
whole i (suc k) m g = absurd (omega arith)

left_whole : NoFilterChanges posted domains
left_whole c k i at l h = subst
    (λ (d : Constraint). (k : ℕ) → k < length (places_of d) → IsTrue (has_value (domain_at (at_places posted domains d) k) i) → Leaves d (at_places posted domains d) k i)
    (the_one c at) (whole i) k l h

stays : (i : ℤ) → IsTrue (has_value three_to_five i) → Stays posted (Item.Var 0) i
stays i h = record { domains = domains; below = record { domains = are_domains; below = lies_below }; unchanged = left_whole; has = h }

-- ---- and no other value stays

between : (i : ℤ) → pos 3 ≤ℤ i → IsTrue (has_value (span 1 5 ∷ []) i) → IsTrue (has_value three_to_five i)
unfolding has_value
between i low h = grind (arith, ints, low)

no_other : (i : ℤ) → Stays posted (Item.Var 0) i → IsTrue (has_value three_to_five i)
unfolding sum_places followed followed_for least_of_all least_of_others
no_other i st =
    let kept : PlaceKeeps at_least_three (st.domains (Item.Var 0) ∷ []) 0 i = st.unchanged at_least_three 0 i (0, omega arith, refl) (omega arith) st.has 0 (omega arith) (inl refl) in
    let low : pos 3 ≤ℤ i = let rule = kept.rule in omega (arith, ints, rule) in
    between i low (st.below.below (Item.Var 0) i st.has)

-- ---- the stable state

only_place : (z x : Item) → x ≡ root_item posted z → Contains (places_of at_least_three) z → x ≡ Item.Var 0
unfolding sum_places followed followed_for
only_place z x f (zero, l, g) = f ∙ ap (root_item posted) (sym g)
only_place z x f (suc k, l, g) = absurd (omega arith)

one_item : (x : Item) → Counts posted x → x ≡ Item.Var 0
one_item x (by_domain zero d e is) = e
one_item x (by_domain (suc n) d e is) = absurd (cc)
one_item x (by_place c y at there e) = only_place y x e (subst (λ (d : Constraint). Contains (places_of d) y) (sym (the_one c at)) there)

three : IsTrue (has_value three_to_five (pos 3))
unfolding has_value
three = refl

the_variable : (n : ℕ) → n < 1 → Narrows posted n (get_or posted.variables n free) (get_or stable.variables n free)
unfolding values_of numbers_from
the_variable zero l = some_stay (span 1 5 ∷ []) three_to_five is_domain (omega arith) (λ i. (stays i, no_other i))
the_variable (suc n) l = absurd (omega arith)

is_stable : IsStable posted stable
is_stable = record {
  kept = λ x counts. (pos 3, subst (λ (y : Item). Stays posted y (pos 3)) (sym (one_item x counts)) (stays (pos 3) three));
  count = refl;
  variables = λ n l. the_variable n (omega arith);
  constraints = refl;
  agents = refl;
  waiting = refl;
}

-- so X #> 2 comes to this: its load, and the stable state with the events of what X lost
posting-settled : IsSettled before posted (note (Load 3) (one (with_events before stable)))
unfolding loaded count_due roots_of same_domain sum_places values_of numbers_from followed followed_for
posting-settled = inr (stable, is_stable, refl)
