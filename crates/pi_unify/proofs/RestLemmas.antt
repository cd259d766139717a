-- What is on the stack of a walk when arguments are put on it and when one is taken off it.
use Rattle.std.proofs.Common.{◌≡◌, ◌⊎◌, ℕ, zero, suc, ◌+◌, ◌<◌, ◌≤◌, nat_lt, List, [], ◌∷◌, ◌++◌, refl, ap, ◌∙◌, inl, inr, arith}
use Rattle.std.proofs.lemmas.Bool.{cases_Bool, ltb-true, ltb-false}
use Rattle.pi_unify.specs.Rests.{with_all, after, Taken}
use Rattle.pi_unify.specs.declared.ahead.Rest.{Rest}

zero_or_more : (n : ℕ) → (n ≡ 0) ⊎ (0 < n)
zero_or_more zero = inl refl
zero_or_more (suc n) = inr (omega arith)

abbrev first : {T : Type 0} → T → ℕ → Rest T
first of count = record { of = of; next = 0; count = count }

-- all arguments were put on the stack, where there are any
abbrev pub IsPut : {T : Type 0} → T → ℕ → List (Rest T) → List (Rest T) → Type 0
IsPut of count fs gs = ((count ≡ 0) × (gs ≡ fs)) ⊎ ((0 < count) × (gs ≡ fs ++ first of count ∷ []))

pub some_put : {T : Type 0} (fs : List (Rest T)) (of : T) (count : ℕ) → 0 < count → with_all fs of count ≡ fs ++ first of count ∷ []
some_put fs of count h = elim (cases_Bool (nat_lt 0 count)) [
  | inl hit ↦ rw hit refl
  | inr miss ↦ absurd (omega (arith, ltb-false 0 count miss))
]

pub put : {T : Type 0} (fs gs : List (Rest T)) (of : T) (count : ℕ) → gs ≡ with_all fs of count → IsPut of count fs gs
put fs gs of count e = elim (zero_or_more count) [
  | inl none ↦ inl (none, e ∙ ap (with_all fs of) none)
  | inr some ↦ inr (some, e ∙ some_put fs of count some)
]

-- what is behind the next argument of a rest is left, where there is any
abbrev pub IsBehind : {T : Type 0} → Rest T → List (Rest T) → List (Rest T) → Type 0
IsBehind f older new = ((f.next + 1 < f.count) × (new ≡ older ++ after f ∷ [])) ⊎ ((f.count ≤ f.next + 1) × (new ≡ older))

pub behind : {T : Type 0} (old new : List (Rest T)) (f : Rest T) (t : Taken old new f) → IsBehind f t.older new
behind old new f t = elim (cases_Bool (nat_lt (f.next + 1) f.count)) [
  | inl hit ↦ inl (ltb-true (f.next + 1) f.count hit, t.is ∙ rw hit refl)
  | inr miss ↦ inr (ltb-false (f.next + 1) f.count miss, t.is ∙ rw miss refl)
]
