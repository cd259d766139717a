-- Numbers that are met one after another are the first ones of a list.
use Rattle.std.proofs.Common.{◌≡◌, ℕ, suc, Bool, true, false, ◌||◌, refl, List, [], ◌∷◌, ◌++◌, inl, inr, sym, arith, eqb-true, eq-eqb}
use Rattle.std.specs.Prelude.{Contains, nat_eq}
use Rattle.std.specs.List.{list_any}
use Rattle.std.proofs.lemmas.Bool.{cases_Bool}
use Rattle.pi_terms.specs.Variables.{firsts}
use Rattle.pi_terms.specs.Numbers.{noted}
use Rattle.pi_terms.proofs.CopyLemmas.{firsts-new, firsts-known}
use Rattle.pi_terms.proofs.VariableLemmas.{Has, Has-firsts, Has-from_firsts}

rest_any : (a b : Bool) → a ≡ false → (a || b) ≡ true → b ≡ true
rest_any true b miss h = cc
rest_any false b miss h = h

none_any : (a b : Bool) → (a || b) ≡ false → (a ≡ false) × (b ≡ false)
none_any true b h = cc
none_any false b h = (refl, h)

any_has : (ns : List ℕ) (n : ℕ) → list_any (nat_eq n) ns ≡ true → Has ns n
any_has [] n h = cc
any_has (m ∷ ns) n h = elim (cases_Bool (nat_eq n m)) [
  | inl hit ↦ inl (sym (eqb-true n m hit))
  | inr miss ↦ inr (any_has ns n (rest_any (nat_eq n m) (list_any (nat_eq n) ns) miss h))
]

has_any : (ns : List ℕ) (n : ℕ) → list_any (nat_eq n) ns ≡ false → Has ns n → ⊥
has_any [] n miss h = h
has_any (m ∷ ns) n miss (inl same) = let other : nat_eq n m ≡ false = (none_any (nat_eq n m) (list_any (nat_eq n) ns) miss).0 in cc (eq-eqb n m (sym same))
has_any (m ∷ ns) n miss (inr h) = has_any ns n (none_any (nat_eq n m) (list_any (nat_eq n) ns) miss).1 h

pub noted-firsts : (ns : List ℕ) (n : ℕ) → noted (firsts ns) n ≡ firsts (ns ++ n ∷ [])
noted-firsts ns n = elim (cases_Bool (list_any (nat_eq n) (firsts ns))) [
  | inl hit ↦ rw hit (sym (firsts-known ns n (Has-from_firsts ns n (any_has (firsts ns) n hit))))
  | inr miss ↦ rw miss (sym (firsts-new ns n (λ h. has_any (firsts ns) n miss (Has-firsts ns n h))))
]

pub contains_from : (xs : List ℕ) (n : ℕ) → Has xs n → Contains xs n
contains_from [] n h = absurd h
contains_from (x ∷ xs) n (inl e) = (0, omega arith, e)
contains_from (x ∷ xs) n (inr h) = let r : Contains xs n = contains_from xs n h in let within = r.1 in (suc r.0, omega arith, r.2)
