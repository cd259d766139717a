-- Numbers that are met one after another (own).
use Rattle.std.specs.Prelude.{ℕ, List, [], ◌∷◌, ◌++◌, cond, nat_eq}
use Rattle.std.specs.List.{list_any}

-- numbers, each once, and one more where it is none of them
abbrev pub noted : List ℕ → ℕ → List ℕ
noted ns n = cond (list_any (nat_eq n) ns) ns (ns ++ n ∷ [])
