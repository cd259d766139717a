-- What a built-in does, as a value: what comes of its arguments is said before any trace or machine. (Own.)
use Rattle.std.specs.Prelude.{ℕ, List, Option, None, Some}
use Rattle.pi_terms.specs.Tree.{Tree}
use Rattle.pi_constraints.specs.State.{State}

-- a predicate has one answer, in a state; or none; or writes a text and has one answer in a state; or raises a term
pub data Effect : Type 0 where
  Succeeds : State → Effect
  Fails : Effect
  Writes : List ℕ → State → Effect
  Raises : Tree → Effect

-- a function gives a value, with a state after it, or raises a term in its place
pub data FunctionEffect : Type 0 where
  Gives : Tree → State → FunctionEffect
  Refuses : Tree → FunctionEffect

-- an answer in the state that there is, or no answer
abbrev pub succeeds_in : Option State → Effect
succeeds_in None = Fails
succeeds_in (Some s) = Succeeds s
