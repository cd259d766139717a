-- The variables of terms, met one after another.
use Rattle.std.specs.Prelude.{ℕ, List, [], ◌∷◌}
use Rattle.pi_terms.specs.Numbers.{noted}
use Rattle.pi_terms.specs.declared.term.TermHead.{TermHead}

-- more variables, one after another
unfoldable pub noted_all : List ℕ → List ℕ → List ℕ
noted_all vars [] = vars
noted_all vars (n ∷ ns) = noted_all (noted vars n) ns

-- the variable that a root is, if it is one
abbrev pub variables_at : TermHead → List ℕ
variables_at (TermHead.Var n) = n ∷ []
variables_at (TermHead.Int n) = []
variables_at (TermHead.Atom name) = []
variables_at (TermHead.Comp name count) = []
