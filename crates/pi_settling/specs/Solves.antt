-- Solutions of a state: values for its variables under which all constraints that were posted hold. (Own.)
use Rattle.std.specs.Prelude.{◌≡◌, ℕ, ℤ, IsTrue, Contains}
use Rattle.pi_constraints.specs.declared.constraint.Constraint.{Constraint}
use Rattle.pi_constraints.specs.declared.constraint.Item.{Item}
use Rattle.pi_constraints.specs.Domain.{IsWithinBounds, has_value}
use Rattle.pi_prop_spec.specs.Solutions.{value_of, Holds}
use Rattle.pi_constraints.specs.State.{State}
use Rattle.pi_settling.specs.Roots.{root_item, given, Counts}

-- values for variables that go by a state's bindings, lie in its domains, and under which its constraints hold
pub record Solves (s : State) (a : ℕ → ℤ) : Type 0 where
  pub follows : (n : ℕ) → value_of a (root_item s (Item.Var n)) ≡ a n
  pub values : (x : Item) → Counts s x → IsTrue (has_value (given s x) (value_of a x))
  pub bounded : (x : Item) → Counts s x → IsWithinBounds (value_of a x)
  pub holds : (c : Constraint) → Contains s.constraints c → Holds c a
