-- What goals leave of the state in which they began. (Own.)
use Rattle.std.specs.Prelude.{◌≡◌, ℕ, ◌≤◌, List, ◌++◌, Some}
use Rattle.pi_terms.specs.Tree.{Tree}
use Rattle.pi_terms.specs.Places.{held}
use Rattle.pi_constraints.specs.declared.constraint.Constraint.{Constraint}
use Rattle.pi_constraints.specs.State.{State, bindings, next}

-- what a goal that began in the first state may leave: constraints are only posted, variables only made, and bindings stay
pub record Follows (before s : State) : Type 0 where
  pub posted : List Constraint
  pub constraints : s.constraints ≡ before.constraints ++ posted
  pub count : next before ≤ next s
  pub bound : (n : ℕ) (t : Tree) → held (bindings before) n ≡ Some t → held (bindings s) n ≡ Some t
