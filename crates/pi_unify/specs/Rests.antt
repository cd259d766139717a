-- What a walk leaves to be looked at: arguments, each from one number on. The newest rest stands last.
use Rattle.std.specs.Prelude.{◌≡◌, ℕ, ◌+◌, nat_lt, cond, List, [], ◌∷◌, ◌++◌, Option, Some, None}
use Rattle.pi_unify.specs.declared.ahead.Rest.{Rest}

-- all arguments are left too, so many
abbrev pub with_all : {T : Type 0} → List (Rest T) → T → ℕ → List (Rest T)
with_all fs of count = cond (nat_lt 0 count) (fs ++ record { of = of; next = 0; count = count } ∷ []) fs

abbrev pub after : {T : Type 0} → Rest T → Rest T
after f = record { of = f.of; next = f.next + 1; count = f.count }

-- what is behind the next argument of a rest is left too, where there is any
abbrev pub with_after : {T : Type 0} → List (Rest T) → Rest T → List (Rest T)
with_after fs f = cond (nat_lt (f.next + 1) f.count) (fs ++ after f ∷ []) fs

-- the newest rest was taken, and what is behind its next argument is left
pub record Taken {T : Type 0} (old new : List (Rest T)) (f : Rest T) : Type 0 where
  pub older : List (Rest T)
  pub was : old ≡ older ++ f ∷ []
  pub is : new ≡ with_after older f

abbrev pub TakesRest : {T : Type 0} → List (Rest T) → List (Rest T) → Option (Rest T) → Type 0
TakesRest old new None = old ≡ []
TakesRest old new (Some f) = Taken old new f
