-- Exceptions as the ends of traces: what is raised is a term of `pi_effects`.
use Rattle.std.specs.Prelude.{ℕ, nat_lt, cond, List}
use Rattle.pi_terms.specs.Tree.{Tree, cells, most_cells}
use Rattle.pi_constraints.specs.State.{State}
use Rattle.pi_effects.specs.Exception.{term_too_large, exception_with}
use Rattle.pi_traces.specs.Trace.{Trace, end, End, Raise}

abbrev pub too_large : End
too_large = Raise term_too_large

-- what is made of a term that is copied, where it has no more than the most cells
abbrev pub within_limit : {A : Type 0} → Tree → Trace A → Trace A
within_limit t u = cond (nat_lt most_cells (cells t)) (end too_large) u

-- an exception of this name that tells a term
unfoldable pub raised_with : {A : Type 0} → List ℕ → Tree → State → Trace A
raised_with name t s = end (Raise (exception_with name t s))
