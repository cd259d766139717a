-- What is true of each stack that a run reaches: each mark of a `catch` that was left has its `catch` below it, with
-- nothing but choices and such pairs between them.
use Rattle.std.specs.Prelude.{ℕ, zero, suc, List, [], ◌∷◌, length, ⊤}
use Rattle.pi_meaning.specs.Machine.Configuration.{Entry, choice, strict, catch_level, left, Config}

-- so many marks above are still to meet their `catch`
unfoldable pub IsBalanced : ℕ → List Entry → Type 0
IsBalanced zero [] = ⊤
IsBalanced (suc n) [] = ⊥
IsBalanced n (choice c b ∷ es) = IsBalanced n es
IsBalanced zero (strict s b ∷ es) = IsBalanced zero es
IsBalanced (suc n) (strict s b ∷ es) = ⊥
IsBalanced zero (catch_level ball handler b ∷ es) = IsBalanced zero es
IsBalanced (suc n) (catch_level ball handler b ∷ es) = IsBalanced n es
IsBalanced n (left ∷ es) = IsBalanced (suc n) es

pub record IsGood (c : Config) : Type 0 where
  pub balanced : IsBalanced zero c.stack

-- the number of the newest open level, entries counted from the oldest from 1 on, behind so many marks; 0 for none
unfoldable pub open_level : ℕ → List Entry → ℕ
open_level n [] = 0
open_level n (choice c b ∷ es) = open_level n es
open_level zero (strict s b ∷ es) = suc (length es)
open_level (suc n) (strict s b ∷ es) = open_level (suc n) es
open_level zero (catch_level ball handler b ∷ es) = suc (length es)
open_level (suc n) (catch_level ball handler b ∷ es) = open_level n es
open_level n (left ∷ es) = open_level (suc n) es
