-- The laws of plans.
use Rattle.std.proofs.Common.{ℕ, ◌≤◌, List, Bool, true, false, inl, inr, subst, arith}
use Rattle.std.proofs.lemmas.Bool.{cases_lt}
use Rattle.pi_terms.specs.Tree.{Tree}
use Rattle.pi_plan.specs.Plan.{Bodies, Valid, IsBest, NoneAs, FoundAs}
use Rattle.pi_plan.specs.Given.{over}
use Rattle.pi_plan.specs.PlanLaws.{CostsAtMostItsRest, ValidFromItsCostOn, NoneIsCheaper, BestCostIsItsNumber, BestNumberIsOne, NoneWhereThereIsNone, FoundOrNone, SmallerIsExhausted}
use Rattle.pi_plan.proofs.PlanLemmas.{RestFree, cost_within, valid_at, smaller_is_exhausted}
use Rattle.pi_plan.proofs.GivenLemmas.{over_is_free}

pub costs_at_most_its_rest : CostsAtMostItsRest
costs_at_most_its_rest given by_rest s r plan cost v = cost_within (over given by_rest) s r plan cost v

pub valid_from_its_cost_on : ValidFromItsCostOn
valid_from_its_cost_on given s r m plan cost v h = valid_at (over given false) (over_is_free given) s r m plan cost v h

cheapest : (b : Bodies) → RestFree b → (start : Tree) (limit n : ℕ) (plan other : List Tree) (m cost else_cost : ℕ) → IsBest b start limit plan cost m →
    Valid b start n other else_cost → m ≤ else_cost
cheapest b free start limit n plan other m cost else_cost best v = elim (cases_lt else_cost m) [
  | inl less ↦ absurd ((best.least else_cost less).none other else_cost (valid_at b free start n else_cost other else_cost v (omega arith)))
  | inr more ↦ more
]

pub none_is_cheaper : NoneIsCheaper
none_is_cheaper given start limit n plan other m cost else_cost best v =
    let bound : cost ≤ m = cost_within (over given false) start m plan cost best.valid in
    let above : m ≤ else_cost = cheapest (over given false) (over_is_free given) start limit n plan other m cost else_cost best v in
    omega arith

pub best_cost_is_its_number : BestCostIsItsNumber
best_cost_is_its_number given start limit plan m cost best =
    let bound : cost ≤ m = cost_within (over given false) start m plan cost best.valid in
    let above : m ≤ cost = cheapest (over given false) (over_is_free given) start limit m plan plan m cost cost best best.valid in
    omega arith

not_less : (b : Bodies) (start : Tree) (limit : ℕ) (plan other : List Tree) (m cost n else_cost : ℕ) → IsBest b start limit plan cost m → IsBest b start limit other else_cost n → m ≤ n
not_less b start limit plan other m cost n else_cost one two = elim (cases_lt n m) [
  | inl less ↦ absurd ((one.least n less).none other else_cost two.valid)
  | inr more ↦ more
]

pub best_number_is_one : BestNumberIsOne
best_number_is_one given by_rest start limit plan other m cost n else_cost one two =
    let up : m ≤ n = not_less (over given by_rest) start limit plan other m cost n else_cost one two in
    let down : n ≤ m = not_less (over given by_rest) start limit other plan n else_cost m cost two one in
    omega arith

pub none_where_there_is_none : NoneWhereThereIsNone
none_where_there_is_none given by_rest false start limit m plan cost h tried v = h.none plan cost (subst (λ (n : ℕ). Valid (over given by_rest) start n plan cost) tried v)
none_where_there_is_none given by_rest true start limit m plan cost h tried v = (h m tried).none plan cost v

found_or_none : (b : Bodies) (best : Bool) (start : Tree) (limit : ℕ) (plan : List Tree) (cost : ℕ) → NoneAs best b start limit → FoundAs best b start limit plan cost → ⊥
found_or_none b false start limit plan cost h found = h.none plan cost found
found_or_none b true start limit plan cost h (m, best) = (h m best.within).none plan cost best.valid

pub found_or_none_of_wanted : FoundOrNone
found_or_none_of_wanted given by_rest w plan cost h found = found_or_none (over given by_rest) w.best w.start w.limit plan cost h found

pub smaller_is_exhausted_too : SmallerIsExhausted
smaller_is_exhausted_too given start m n ex h = smaller_is_exhausted (over given false) (over_is_free given) start m n ex h
