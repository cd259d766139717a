-- What valid and best plans are, in a user's words, whatever was given.
use Rattle.std.specs.Prelude.{◌≡◌, ℕ, ◌≤◌, Bool, true, false, List}
use Rattle.pi_terms.specs.Tree.{Tree}
use Rattle.pi_plan.specs.declared.given.GivenState.{GivenState}
use Rattle.pi_plan.specs.Plan.{Valid, Exhausted, IsBest, Wanted, IsFound, HasNoPlan}
use Rattle.pi_plan.specs.Given.{over}

-- a plan costs no more than the rest under which it is valid
abbrev pub CostsAtMostItsRest : Type 0
CostsAtMostItsRest = (given : List GivenState) (by_rest : Bool) (s : Tree) (r : ℕ) (plan : List Tree) (cost : ℕ) →
    Valid (over given by_rest) s r plan cost → cost ≤ r

-- not by rests, a plan is valid under its own cost and under each number from there on
abbrev pub ValidFromItsCostOn : Type 0
ValidFromItsCostOn = (given : List GivenState) (s : Tree) (r m : ℕ) (plan : List Tree) (cost : ℕ) →
    Valid (over given false) s r plan cost → cost ≤ m → Valid (over given false) s m plan cost

-- not by rests, no plan is cheaper than a best plan, under whatever number it is valid
abbrev pub NoneIsCheaper : Type 0
NoneIsCheaper = (given : List GivenState) (start : Tree) (limit n : ℕ) (plan other : List Tree) (m cost else_cost : ℕ) →
    IsBest (over given false) start limit plan cost m → Valid (over given false) start n other else_cost → cost ≤ else_cost

-- and its cost is the number under which it is best
abbrev pub BestCostIsItsNumber : Type 0
BestCostIsItsNumber = (given : List GivenState) (start : Tree) (limit : ℕ) (plan : List Tree) (m cost : ℕ) →
    IsBest (over given false) start limit plan cost m → cost ≡ m

-- two best plans are best under one number, by rests too
abbrev pub BestNumberIsOne : Type 0
BestNumberIsOne = (given : List GivenState) (by_rest : Bool) (start : Tree) (limit : ℕ) (plan other : List Tree) (m cost n else_cost : ℕ) →
    IsBest (over given by_rest) start limit plan cost m → IsBest (over given by_rest) start limit other else_cost n → m ≡ n

-- the numbers under which a call looks for a plan: its limit, or each up to it where a best one is wanted
abbrev pub IsTried : Bool → ℕ → ℕ → Type 0
IsTried false limit m = m ≡ limit
IsTried true limit m = m ≤ limit

-- where a call has no plan, none is valid under its limit; a best plan under no number up to it
abbrev pub NoneWhereThereIsNone : Type 0
NoneWhereThereIsNone = (given : List GivenState) (by_rest best : Bool) (start : Tree) (limit m : ℕ) (plan : List Tree) (cost : ℕ) →
    HasNoPlan (over given by_rest) (record { best = best; start = start; limit = limit }) → IsTried best limit m → Valid (over given by_rest) start m plan cost → ⊥

-- so no call has both a plan and none
abbrev pub FoundOrNone : Type 0
FoundOrNone = (given : List GivenState) (by_rest : Bool) (w : Wanted) (plan : List Tree) (cost : ℕ) →
    HasNoPlan (over given by_rest) w → IsFound (over given by_rest) w plan cost → ⊥

-- not by rests, a number is exhausted where a greater one is, so `best_plan` has no plan exactly where `plan` has none
abbrev pub SmallerIsExhausted : Type 0
SmallerIsExhausted = (given : List GivenState) (start : Tree) (m n : ℕ) → Exhausted (over given false) start m → n ≤ m →
    Exhausted (over given false) start n
