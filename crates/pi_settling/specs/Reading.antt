-- How constraints are read, which isn't defined here: what a reading gives, and all that a run of `solve` takes. (A User's Guide to Picat, 'Constraints'.)
use Rattle.std.specs.Prelude.{ℕ, ℤ, List, [], ◌∷◌, Option, Some, None}
use Rattle.pi_terms.specs.Tree.{Tree}
use Rattle.pi_constraints.specs.declared.constraint.Item.{Item}
use Rattle.pi_traces.specs.Trace.{Trace}
use Rattle.pi_constraints.specs.State.{State}
use Rattle.pi_settling.specs.Options.{Options}
use Rattle.pi_settling.specs.Label.{Settling}

-- a sum of variables with coefficients, and a constant
pub record Sum : Type 0 where
  pub terms : List (ℤ × ℕ)
  pub constant : ℤ

-- What an operand reads to in a state: the state in which all is posted that its reading posts, where the variables of that have domains, and the sum that it stands for; or what is raised.
pub data Operand : Type 0 where
  reads : State → Sum → Operand
  refuses : Tree → Operand

-- how operands are read, and what a sign between two operands comes to as a goal, before it is settled
pub record Reading : Type 0 where
  pub operand : Tree → State → Operand
  pub relation : List ℕ → Tree → Tree → State → Trace State

-- the value of an operand that is an integer: it reads to a constant
abbrev pub constant_of : List (ℤ × ℕ) → ℤ → Option ℤ
constant_of [] c = Some c
constant_of (t ∷ ts) c = None

abbrev pub operand_value : Operand → Option ℤ
operand_value (reads r sum) = constant_of sum.terms sum.constant
operand_value (refuses ball) = None

-- a run of `solve`: how states are settled, what runs what waits at a depth, how constraints are read; the options and the variables
pub record Solving : Type 0 where
  pub settle : Settling
  pub drains : ℕ → State → Trace State
  pub reading : Reading
  pub chosen_options : Options
  pub items : List Item
