-- What domains leave of a lemma. The definition is own.
use Rattle.std.specs.Prelude.{◌≡◌, ◌≤◌, List, [], ◌∷◌, length}
use Rattle.pi_sat_spec.specs.declared.literal.Literal.{Literal}
use Rattle.pi_sat_search.specs.declared.hints.LemmaState.{LemmaState}

abbrev pub ShowsState : LemmaState → List Literal → Type 0
ShowsState LemmaState.Refuted ls = ls ≡ []
ShowsState (LemmaState.Unit l) ls = ls ≡ l ∷ []
ShowsState LemmaState.Open ls = 2 ≤ length ls
