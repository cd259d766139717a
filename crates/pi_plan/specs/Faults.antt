-- The first fault among answers of `action`: a state or an action that isn't ground, or a cost that is no integer from 0; of an
-- answer its state, its action and then its cost.
use Rattle.std.specs.Prelude.{◌≡◌, ℕ, ℤ, pos, negsuc, Bool, true, false, cond, List, [], ◌∷◌, Option, Some, None}
use Rattle.pi_terms.specs.Tree.{Tree, var, int, atom, comp}
use Rattle.pi_terms.specs.Variables.{variables}
use Rattle.pi_plan.specs.declared.given.Successor.{Successor}
use Rattle.pi_plan.specs.declared.checks.PlanFault.{PlanFault}

abbrev pub is_none_left : List ℕ → Bool
is_none_left [] = true
is_none_left (n ∷ ns) = false

abbrev pub ground_fault : Tree → Option PlanFault
ground_fault t = cond (is_none_left (variables t)) None (Some (PlanFault.NotGround t))

abbrev pub cost_fault : Tree → Option PlanFault
cost_fault (int (pos n)) = None
cost_fault (int (negsuc n)) = Some (PlanFault.BadCost (int (negsuc n)))
cost_fault (var n) = Some (PlanFault.BadCost (var n))
cost_fault (atom name) = Some (PlanFault.BadCost (atom name))
cost_fault (comp name ts) = Some (PlanFault.BadCost (comp name ts))

-- the first of two faults
abbrev pub first_of_two : Option PlanFault → Option PlanFault → Option PlanFault
first_of_two None o = o
first_of_two (Some f) o = Some f

abbrev pub successor_fault : Successor → Option PlanFault
successor_fault n = first_of_two (ground_fault n.state) (first_of_two (ground_fault n.action) (cost_fault n.cost))

abbrev pub first_fault : List Successor → Option PlanFault
first_fault [] = None
first_fault (n ∷ ns) = first_of_two (successor_fault n) (first_fault ns)

-- a refusal names that fault, or it is for want of memory
abbrev pub Refuses : Option PlanFault → PlanFault → Type 0
Refuses o PlanFault.Memory = Unit {0}
Refuses o (PlanFault.NotGround t) = o ≡ Some (PlanFault.NotGround t)
Refuses o (PlanFault.BadCost t) = o ≡ Some (PlanFault.BadCost t)

-- the fault of a call: its start is judged before its limit
abbrev pub start_fault : Tree → ℤ → Option PlanFault
start_fault start limit = first_of_two (ground_fault start) (cost_fault (int limit))
