-- What is told of the literals of a lemma that domains allow. The definition is own.
use Rattle.std.specs.Prelude.{◌≡◌, ◌≤◌, List, [], ◌∷◌, length}
use Rattle.pi_sat_spec.specs.declared.literal.Literal.{Literal}
use Rattle.pi_sat_check.specs.declared.hints.Found.{Found}

abbrev pub ShowsAllowed : Found → List Literal → Type 0
ShowsAllowed Found.Nothing ls = ls ≡ []
ShowsAllowed (Found.One l) ls = ls ≡ l ∷ []
ShowsAllowed Found.More ls = 2 ≤ length ls
