-- Steps that may go wrong.
use Rattle.std.specs.Prelude.{Result, Ok, Err, ⊤}

-- a step went well
abbrev pub Went : {A E : Type 0} → Result A E → Type 0
Went (Ok x) = ⊤
Went (Err e) = ⊥
