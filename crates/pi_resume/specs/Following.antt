-- What a guide knows: whether there is a path to follow at all, the choices that are still to follow, and those that were made. (Own.)
use Rattle.std.specs.Prelude.{ℕ, Bool, List, [], Option, unwrap_or}

pub record Following : Type 0 where
  pub resumes : Bool
  pub ahead : List ℕ
  pub made : List ℕ

abbrev pub path_of : Option (List ℕ) → List ℕ
path_of follow = unwrap_or follow []
