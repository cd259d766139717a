-- The variables at the cells of a term, and cells with other variables in place of them (own).
use Rattle.std.specs.Prelude.{ℕ, List, [], ◌∷◌, Contains}
use Rattle.pi_terms.specs.Numbers.{noted}
use Rattle.pi_terms.specs.declared.term.TermCell.{TermCell}
use Rattle.pi_terms.specs.declared.term.TermCell.TheVariants.{Var, Int, Atom, Comp}

-- the numbers at the cells of variables, from the left
abbrev pub variables_at : List TermCell → List ℕ
variables_at [] = []
variables_at (Var n ∷ cs) = n ∷ variables_at cs
variables_at (Int n ∷ cs) = variables_at cs
variables_at (Atom name ∷ cs) = variables_at cs
variables_at (Comp name k size ∷ cs) = variables_at cs

-- numbers, each once, and that of the variable at a cell
abbrev pub noted_cell : List ℕ → TermCell → List ℕ
noted_cell ns (Var n) = noted ns n
noted_cell ns (Int n) = ns
noted_cell ns (Atom name) = ns
noted_cell ns (Comp name k size) = ns

-- the variable at a cell, where one is there, is one of these
abbrev pub IsKnown : List ℕ → TermCell → Type 0
IsKnown ns (Var n) = Contains ns n
IsKnown ns (Int n) = Unit {0}
IsKnown ns (Atom name) = Unit {0}
IsKnown ns (Comp name k size) = Unit {0}

-- a cell with another variable in place of its own
abbrev pub renamed_cell : (ℕ → ℕ) → TermCell → TermCell
renamed_cell r (Var n) = Var (r n)
renamed_cell r (Int n) = Int n
renamed_cell r (Atom name) = Atom name
renamed_cell r (Comp name k size) = Comp name k size
