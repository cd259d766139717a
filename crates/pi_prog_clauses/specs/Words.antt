-- The words of a table of the code.
use Rattle.std.specs.Prelude.{ℕ, List, map}
use Rattle.std.specs.Borrow.{Bor}

abbrev pub words_shown : List (Bor (List ℕ)) → List (List ℕ)
words_shown words = map (λ (w : Bor (List ℕ)). w.now) words
