-- Numbers that are found one after another.
use Rattle.std.proofs.Common.{◌≡◌, ℕ, zero, suc, ◌+◌, ◌<◌, ◌≤◌, Bool, true, false, List, [], ◌∷◌, ◌++◌, refl, sym, subst, ◌∙◌, ◌⊎◌, inl, inr, ⊎_elim, arith, cond}
use Rattle.std.proofs.lemmas.Bool.{cases_lt}
use Rattle.std.proofs.lemmas.Bool.Decides.{nat_tests}
use Rattle.std.specs.Prelude.{nat_lt, IsTrue, ◌↔◌, Contains}
use Rattle.std.proofs.lemmas.List.Elements.{Contains-append_left, Contains-append_right, Contains-append_cases}
use Rattle.pi_constraints.specs.Store.{AscendAbove, Lists}
use Rattle.pi_store.specs.Posted.{ListsBelow}

pub lists_none : (P : ℕ → Type 0) → ListsBelow P 0 []
unfolding AscendAbove
lists_none P = record { ascend = tt; has = λ n. (λ h. let l : h.0 < 0 = h.1 in absurd (omega arith), λ h. let l : n < 0 = h.0 in absurd (omega arith)) }

ascend_more : (least i : ℕ) (ns : List ℕ) → AscendAbove least ns → least ≤ i → ((n : ℕ) → Contains ns n → n < i) → AscendAbove least (ns ++ i ∷ [])
unfolding AscendAbove
ascend_more least i [] h l below = (l, tt)
ascend_more least i (m ∷ ns) h l below =
    let first : m < i = below m (0, omega arith, refl) in
    (h.0, ascend_more (suc m) i ns h.1 (omega arith) (λ n c. below n (Contains-append_right (m ∷ []) ns n c)))

pub one_is : (i n : ℕ) → Contains (i ∷ []) n → i ≡ n
one_is i n (zero, l, e) = e
one_is i n (suc k, l, e) = absurd (omega arith)

pub has_one : (i : ℕ) → Contains (i ∷ []) i
has_one i = (0, omega arith, refl)

last_by : (n i : ℕ) (b : Bool) → nat_lt n i ≡ b → n < i + 1 → (n < i) ⊎ (n ≡ i)
last_by n i true e h = inl (grind (arith, nat_tests))
last_by n i false e h = inr (grind (arith, nat_tests))

last_or_less : (n i : ℕ) → n < i + 1 → (n < i) ⊎ (n ≡ i)
last_or_less n i h = last_by n i (nat_lt n i) refl h

step_true : (P : ℕ → Type 0) (i : ℕ) (ns : List ℕ) → ListsBelow P i ns → P i → ListsBelow P (i + 1) (ns ++ i ∷ [])
step_true P i ns h p = record {
  ascend = ascend_more 0 i ns h.ascend (omega arith) (λ n c. ((h.has n).0 c).0);
  has = λ n. (
    λ c. elim (Contains-append_cases ns (i ∷ []) n c) [
      | inl d ↦ let q = (h.has n).0 d in let l : n < i = q.0 in (omega arith, q.1)
      | inr d ↦ let e : i ≡ n = one_is i n d in (omega arith, subst P e p)
    ],
    λ q. let l : n < i + 1 = q.0 in elim (last_or_less n i l) [
      | inl g ↦ Contains-append_left ns (i ∷ []) n ((h.has n).1 (g, q.1))
      | inr e ↦ let Q : ℕ → Type 0 = λ x. Contains (ns ++ i ∷ []) x in subst Q (sym e) (Contains-append_right ns (i ∷ []) i (has_one i))
    ],
  );
}

step_false : (P : ℕ → Type 0) (i : ℕ) (ns : List ℕ) → ListsBelow P i ns → (P i → ⊥) → ListsBelow P (i + 1) ns
step_false P i ns h p = record {
  ascend = h.ascend;
  has = λ n. (
    λ c. let q = (h.has n).0 c in let l : n < i = q.0 in (omega arith, q.1),
    λ q. let l : n < i + 1 = q.0 in elim (last_or_less n i l) [
      | inl g ↦ (h.has n).1 (g, q.1)
      | inr e ↦ absurd (p (subst P e q.1))
    ],
  );
}

pub lists_more : (P : ℕ → Type 0) (i : ℕ) (ns ms : List ℕ) (b : Bool) → ListsBelow P i ns → IsTrue b ↔ P i → ms ≡ cond b (ns ++ i ∷ []) ns → ListsBelow P (i + 1) ms
lists_more P i ns ms true h p e = let Q : List ℕ → Type 0 = λ x. ListsBelow P (i + 1) x in subst Q (sym e) (step_true P i ns h (p.0 refl))
lists_more P i ns ms false h p e = let Q : List ℕ → Type 0 = λ x. ListsBelow P (i + 1) x in subst Q (sym e) (step_false P i ns h (λ x. let f : IsTrue false = p.1 x in cc))

pub lists_all : (P Q : ℕ → Type 0) (bound : ℕ) (ns : List ℕ) → ListsBelow P bound ns → ((n : ℕ) → n < bound → P n → Q n) → ((n : ℕ) → Q n → (n < bound) × P n) → Lists Q ns
lists_all P Q bound ns h f g = record { ascend = h.ascend; has = λ n. (λ c. let q = (h.has n).0 c in f n q.0 q.1, λ q. (h.has n).1 (g n q)) }

pub lists_start : (P : ℕ → Type 0) (ns : List ℕ) → ns ≡ [] → ListsBelow P 0 ns
lists_start P ns e = let Q : List ℕ → Type 0 = λ x. ListsBelow P 0 x in subst Q (sym e) (lists_none P)

pub lists_end : (P : ℕ → Type 0) (i n : ℕ) (ns : List ℕ) → i ≡ n → ListsBelow P i ns → ListsBelow P n ns
lists_end P i n ns e h = let Q : ℕ → Type 0 = λ x. ListsBelow P x ns in subst Q e h

pub same_truth : (a b : Bool) → a ≡ b → IsTrue a ↔ IsTrue b
same_truth a b e = (λ h. sym e ∙ h, λ h. e ∙ h)

-- numbers are passed over that aren't such
pub lists_jump : (P : ℕ → Type 0) (i n : ℕ) (ns : List ℕ) → ListsBelow P i ns → i ≤ n → ((m : ℕ) → i ≤ m → m < n → P m → ⊥) → ListsBelow P n ns
lists_jump P i n ns h le none = record {
  ascend = h.ascend;
  has = λ m. (
    λ c. let q = (h.has m).0 c in let l : m < i = q.0 in (omega arith, q.1),
    λ q. ⊎_elim (λ less. (h.has m).1 (less, q.1)) (λ more. absurd (none m more q.0 q.1)) (cases_lt m i),
  );
}
