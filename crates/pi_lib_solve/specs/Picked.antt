-- Which variable is picked, by its number. (Own.)
use Rattle.std.specs.Prelude.{◌≡◌, ℕ, cond, nat_lt, Option, Some, None}
use Rattle.pi_constraints.specs.State.{State, domain_of}
use Rattle.pi_constraints.specs.Stored.{stored}
use Rattle.pi_settling.specs.Choices.{Pending}
use Rattle.pi_lib_solve.specs.declared.picking.Smallest.{Smallest}

-- a variable with the domain that it has in a state
abbrev pub pending_in : State → ℕ → Pending
pending_in s n = record { variable = n; domain = stored s n }

-- a number tells the variable that is picked, which has a domain; there is none exactly where none is picked
abbrev pub ShowsPicked : State → Option ℕ → Option Pending → Type 0
ShowsPicked s None p = p ≡ None
ShowsPicked s (Some n) p = (p ≡ Some (pending_in s n)) × (domain_of s n ≡ Some (stored s n))

-- the one of two variables that has fewer values, and the first where they have as many
abbrev pub smaller_of : Option Smallest → Smallest → Smallest
smaller_of None next = next
smaller_of (Some found) next = cond (nat_lt next.count found.count) next found
