-- How much is left to do in a state of the machine.
use Rattle.std.specs.Prelude.{ℕ, ◌+◌, ◌*◌, length}
use Rattle.pi_expr_phrases.specs.Machine.{State, operand, value}

abbrev pub size : State → ℕ
size (operand fs ts) = 2 * length ts + length fs
size (value fs k indexable e ts) = 2 * length ts + length fs
