-- Small logs, worked through the definitions.
use Rattle.std.specs.Prelude.{slice_get, take, Some}
use Rattle.std.proofs.lemmas.Option.{get_or_from_slice_get}
use Rattle.pi_prop_spec.specs.Ends.{greatest_of}
use Rattle.pi_prop_spec.specs.Laws.{AreDomainsOf, HaveValuesOf, AreFixedBy}
use Rattle.pi_prop_spec.proofs.FilterLemmas.{filters_are_decisive}
use Rattle.std.specs.Prelude.{◌≡◌, ◌≢◌, ℕ, zero, suc, ◌<◌, true, false, IsTrue, List, [], ◌∷◌, length, ℤ, pos, negsuc, Contains, refl}
use Rattle.std.proofs.Common.{arith, subst, inr}
use Rattle.std.proofs.lemmas.Int.{ints}
use Rattle.std.proofs.lemmas.List.Elements.{All-nil, All-cons}
use Rattle.pi_constraints.specs.declared.constraint.Rel.{Rel}
use Rattle.pi_constraints.specs.declared.constraint.Item.{Item}
use Rattle.pi_constraints.specs.declared.constraint.Constraint.{Constraint}
use Rattle.pi_constraints.specs.declared.var_domain.VarDomain.{VarDomain}
use Rattle.pi_constraints.specs.Domain.{IsDomain, AscendFrom, has_value, overlap, common, shared}
use Rattle.pi_constraints.specs.Constraint.{IsSum, IsWithinLimits}
use Rattle.pi_prop_spec.specs.Places.{sum_places, places_of, domain_at}
use Rattle.pi_prop_spec.specs.Solutions.{sum_of, Holds}
use Rattle.pi_sat_spec.specs.declared.entry.SatEntry.{SatEntry}
use Rattle.pi_sat_spec.specs.declared.literal.Literal.{Literal}
use Rattle.pi_sat_spec.specs.Literals.{left_by}
use Rattle.pi_sat_spec.specs.Domains.{AreDomains, IsLemma, at_places, cut, domain_of, has_empty, refuted}
use Rattle.pi_sat_spec.specs.Solutions.{MaySearch, IsSolution}
use Rattle.pi_sat_spec.specs.Logs.{IsRightEntry, IsRightLog, Refutes, leads_on}
use Rattle.pi_sat_spec.proofs.LogLemmas.{none_over_right_log}

abbrev from_to : ℕ → ℕ → ℕ → VarDomain
from_to n lo hi = record { var = n; domain = record { lo = pos lo; hi = pos hi } ∷ [] }

abbrev at_most : ℕ → ℕ → Literal
at_most n b = record { var = n; bound = pos b; above = false }

abbrev above : ℕ → ℕ → Literal
above n b = record { var = n; bound = pos b; above = true }

abbrev given : List Literal → SatEntry
given lemma = SatEntry.FromConstraint lemma 0

-- X, Y :: 0..1
abbrev two : List VarDomain
two = from_to 0 0 1 ∷ from_to 1 0 1 ∷ []

-- X <= 0 or Y <= 0, and X > 0 or Y <= 0
abbrev both : List SatEntry
both = given (at_most 0 0 ∷ at_most 1 0 ∷ []) ∷ given (above 0 0 ∷ at_most 1 0 ∷ []) ∷ []

-- what is left where Y isn't at most 0
abbrev cut_two : List VarDomain
cut_two = refuted two (at_most 1 0 ∷ [])

-- Y <= 0 follows from both in any order, from neither alone, and not without hints. No literal of the empty lemma is allowed.
hints-worked :
    (leads_on both cut_two (0 ∷ 1 ∷ []) ≡ true)
    × (leads_on both cut_two (1 ∷ 0 ∷ []) ≡ true)
    × (leads_on both cut_two (0 ∷ []) ≡ false)
    × (leads_on both cut_two (1 ∷ []) ≡ false)
    × (leads_on both cut_two [] ≡ false)
    × (leads_on both two (0 ∷ 1 ∷ []) ≡ false)
    × (leads_on (given [] ∷ []) two (0 ∷ []) ≡ true)
unfolding leads_on refuted cut left_by domain_of common shared overlap
hints-worked = (refl, refl, refl, refl, refl, refl, refl)

-- a bound that cuts a domain, one that leaves it nothing, and one of a variable without a domain, which cuts none
cuts-worked :
    (cut two (above 0 0) ≡ from_to 0 1 1 ∷ from_to 1 0 1 ∷ [])
    × (has_empty (cut two (above 1 1)) ≡ true)
    × (cut two (above 2 0) ≡ two)
unfolding cut left_by common shared overlap
cuts-worked = (refl, refl, refl)

-- X in 1..2 and X - 2 <= 0: the log that holds only the empty lemma from that constraint isn't right
abbrev one : List VarDomain
one = from_to 0 1 2 ∷ []

abbrev at_most_two : Constraint
at_most_two = Constraint.Linear Rel.AtMost ((pos 1, 0) ∷ []) (negsuc 1)

one-domains : AreDomains one
unfolding AscendFrom
one-domains = All-cons (λ (x : VarDomain). IsDomain x.domain) (from_to 0 1 2) [] (omega (arith, ints), omega (arith, ints), omega (arith, ints), tt) (All-nil (λ (x : VarDomain). IsDomain x.domain))

one-limits : IsWithinLimits at_most_two
unfolding IsSum
one-limits = (λ e. cc, omega arith, (λ e. cc, omega arith, omega arith, tt), omega arith)

one-known : (n : ℕ) → Contains (places_of at_most_two) (Item.Var n) → domain_of one n ≢ []
unfolding domain_of sum_places
one-known zero h e = cc
one-known (suc n) (zero, l, e) f = cc
one-known (suc n) (suc k, l, e) f = omega arith

one-searched : MaySearch one (at_most_two ∷ [])
one-searched = record {
  limits = All-cons IsWithinLimits at_most_two [] one-limits (All-nil IsWithinLimits);
  values = All-cons (λ (c : Constraint). (n : ℕ) → Contains (places_of c) (Item.Var n) → domain_of one n ≢ []) at_most_two [] one-known
      (All-nil (λ (c : Constraint). (n : ℕ) → Contains (places_of c) (Item.Var n) → domain_of one n ≢ []));
}

always_one : ℕ → ℤ
always_one n = pos 1

one-solved : IsSolution one (at_most_two ∷ []) always_one
unfolding always_one has_value sum_of
one-solved = record {
  within = All-cons (λ (x : VarDomain). IsTrue (has_value x.domain (always_one x.var))) (from_to 0 1 2) [] refl (All-nil (λ (x : VarDomain). IsTrue (has_value x.domain (always_one x.var))));
  holds = All-cons (λ (c : Constraint). Holds c always_one) at_most_two [] (omega (arith, ints)) (All-nil (λ (c : Constraint). Holds c always_one));
}

empty-lemma-alone : IsRightLog one (at_most_two ∷ []) (given [] ∷ []) → ⊥
empty-lemma-alone right = none_over_right_log one (at_most_two ∷ []) (given [] ∷ []) always_one one-domains one-searched right one-solved

-- X in 1..1 and X <= 0: that log is right
abbrev fixed : List VarDomain
fixed = from_to 0 1 1 ∷ []

abbrev at_most_zero : Constraint
at_most_zero = Constraint.Linear Rel.AtMost ((pos 1, 0) ∷ []) (pos 0)

zero-limits : IsWithinLimits at_most_zero
unfolding IsSum
zero-limits = (λ e. cc, omega arith, (λ e. cc, omega arith, omega arith, tt), omega arith)

fixed-domain : (k : ℕ) → k < length (at_places fixed at_most_zero) → IsDomain (domain_at (at_places fixed at_most_zero) k)
unfolding AscendFrom domain_of sum_places
fixed-domain zero l = (omega (arith, ints), omega (arith, ints), omega (arith, ints), tt)
fixed-domain (suc k) l = absurd (omega arith)

fixed-places : AreDomainsOf at_most_zero (at_places fixed at_most_zero)
unfolding AscendFrom domain_of sum_places
fixed-places = record { count = refl; domains = fixed-domain }

fixed-values : HaveValuesOf at_most_zero always_one (at_places fixed at_most_zero)
unfolding always_one has_value domain_of sum_places
fixed-values zero l = refl
fixed-values (suc k) l = absurd (omega arith)

fixed-alone : AreFixedBy at_most_zero always_one (at_places fixed at_most_zero)
unfolding always_one domain_of sum_places greatest_of
fixed-alone zero l = (refl, refl)
fixed-alone (suc k) l = absurd (omega arith)

one-is-more : Holds at_most_zero always_one → ⊥
unfolding always_one sum_of
one-is-more h = omega (arith, ints, h)

fixed-refuted : Refutes at_most_zero (refuted fixed [])
unfolding refuted
fixed-refuted = inr ((filters_are_decisive at_most_zero (at_places fixed at_most_zero) always_one zero-limits fixed-places fixed-values fixed-alone).1 one-is-more)

no-bounds : IsLemma fixed []
no-bounds = record { ascends = λ k other l. absurd (omega arith); bounds = All-nil (λ (l : Literal). IsTrue (has_value (domain_of fixed l.var) l.bound)) }

right-entry : (k : ℕ) (e : SatEntry) → slice_get (given [] ∷ []) k ≡ Some e → IsRightEntry fixed (at_most_zero ∷ []) (take k (given [] ∷ [])) e
right-entry zero e is = subst (λ (x : SatEntry). IsRightEntry fixed (at_most_zero ∷ []) [] x) (get_or_from_slice_get (given [] ∷ []) 0 e (given []) is) (no-bounds, (at_most_zero, refl, fixed-refuted))
right-entry (suc k) e is = absurd (cc)

empty-lemma-right : IsRightLog fixed (at_most_zero ∷ []) (given [] ∷ [])
empty-lemma-right = record {
  entries = right-entry;
  last = (given [], refl, refl);
}
