-- Which calls label, and what each asks for: `solve` with its variables, and maybe options before them. (A User's Guide to Picat, 'Constraints'.)
use Rattle.std.specs.Prelude.{◌≡◌, ℕ, Bool, List, [], ◌∷◌, Option, is_some, codes}
use Rattle.pi_terms.specs.Tree.{Trees, tree_count}
use Rattle.pi_constraints.specs.State.{State}
use Rattle.pi_effects.specs.Rows.{Row, line, of_one, of_two, done_by, has_line}
use Rattle.pi_settling.specs.Asked.{Asked, asked, asked_plainly}

unfoldable pub solve_calls : List (Row Asked)
solve_calls = line (codes "solve") (of_one asked_plainly) ∷ line (codes "solve") (of_two asked) ∷ []

-- what a call asks for; None where it is none of `solve`
abbrev pub solve_asked : List ℕ → Trees → State → Option Asked
solve_asked name ts s = done_by solve_calls name ts s

-- which names are those of such calls, with which numbers of arguments
abbrev pub is_solve : List ℕ → ℕ → Bool
is_solve name k = has_line solve_calls name k

-- just these ask for something
abbrev pub SolveCallsAreListed : Type 0
SolveCallsAreListed = (name : List ℕ) (ts : Trees) (s : State) → is_some (solve_asked name ts s) ≡ is_solve name (tree_count ts)
