-- Calls of `solve` are known by a test of the name and of the number of arguments.
use Rattle.std.proofs.Common.{◌≡◌, ◌⊎◌, inl, inr, ℕ, zero, suc, Bool, true, false, List, refl, sym, subst}
use Rattle.std.specs.Prelude.{◌==◌, ◌&&◌, ◌||◌, codes}
use Rattle.std.specs.Str.{bytes_eq}
use Rattle.std.proofs.lemmas.Bool.{and_parts, or_cases, eqb-true}
use Rattle.std.proofs.lemmas.Slice.Eq.{bytes_eq-Decides}
use Rattle.pi_effects.specs.Rows.{has_line}
use Rattle.pi_settling.specs.SolveCalls.{solve_calls, is_solve}

abbrev is_named : List ℕ → ℕ → Bool
is_named name k = (k == 1 || k == 2) && bytes_eq name (codes "solve")

-- ---- what is named so stands in the table

spelled : (k : ℕ) → ((k == 1) ≡ true) ⊎ ((k == 2) ≡ true) → is_solve (codes "solve") k ≡ true
unfolding has_line solve_calls
spelled k (inl one) = subst (λ (j : ℕ). is_solve (codes "solve") j ≡ true) (sym (eqb-true k 1 one)) refl
spelled k (inr two) = subst (λ (j : ℕ). is_solve (codes "solve") j ≡ true) (sym (eqb-true k 2 two)) refl

listed : (name : List ℕ) (k : ℕ) → is_named name k ≡ true → is_solve name k ≡ true
listed name k named =
    let parts = and_parts (k == 1 || k == 2) (bytes_eq name (codes "solve")) named in
    subst (λ (n : List ℕ). is_solve n k ≡ true) (sym ((bytes_eq-Decides name (codes "solve")).0 parts.1)) (spelled k (or_cases (k == 1) (k == 2) parts.0))

-- ---- and nothing else does

first : (b : Bool) → ((b && true) || ((b && false) || false)) ≡ true → b ≡ true
first true is = refl
first false is = absurd cc

second : (b : Bool) → ((b && false) || ((b && true) || false)) ≡ true → b ≡ true
second true is = refl
second false is = absurd cc

never : (b : Bool) → ((b && false) || ((b && false) || false)) ≡ true → ⊥
never true is = cc
never false is = cc

same : (name : List ℕ) → bytes_eq (codes "solve") name ≡ true → bytes_eq name (codes "solve") ≡ true
same name is = subst (λ (n : List ℕ). bytes_eq n (codes "solve") ≡ true) ((bytes_eq-Decides (codes "solve") name).0 is) refl

named : (name : List ℕ) (k : ℕ) → is_solve name k ≡ true → is_named name k ≡ true
unfolding has_line solve_calls
named name zero is = absurd (never (bytes_eq (codes "solve") name) is)
named name (suc zero) is = same name (first (bytes_eq (codes "solve") name) is)
named name (suc (suc zero)) is = same name (second (bytes_eq (codes "solve") name) is)
named name (suc (suc (suc k))) is = absurd (never (bytes_eq (codes "solve") name) is)

either-way : (a b : Bool) → (a ≡ true → b ≡ true) → (b ≡ true → a ≡ true) → a ≡ b
either-way true b f g = sym (f refl)
either-way false true f g = g refl
either-way false false f g = refl

pub solve_named : (name : List ℕ) (k : ℕ) → is_named name k ≡ is_solve name k
solve_named name k = either-way (is_named name k) (is_solve name k) (listed name k) (named name k)
