-- Products of whole numbers: signs and brackets.
use Rattle.std.proofs.Common.{◌≡◌, ℕ, zero, suc, ◌*◌, ℤ, pos, negsuc, ◌*ℤ◌, neg_ℤ, refl, sym, ap, ◌∙◌}
use Rattle.std.proofs.Math.IntN.{*ℤ_comm, neg_ℤ-neg_ℤ}
use Rattle.std.proofs.Math.Nat.{mul_assoc, zero-mul}

neg-pos-*ℤ : (m : ℕ) (y : ℤ) → neg_ℤ (pos m) *ℤ y ≡ neg_ℤ (pos m *ℤ y)
neg-pos-*ℤ zero (pos n) = ap (λ (x : ℕ). pos x) (zero-mul n) ∙ sym (ap (λ (x : ℕ). neg_ℤ (pos x)) (zero-mul n))
neg-pos-*ℤ zero (negsuc n) = ap (λ (x : ℕ). neg_ℤ (pos x)) (zero-mul (suc n)) ∙ sym (ap (λ (x : ℕ). neg_ℤ (neg_ℤ (pos x))) (zero-mul (suc n)))
neg-pos-*ℤ (suc m) (pos n) = refl
neg-pos-*ℤ (suc m) (negsuc n) = sym (neg_ℤ-neg_ℤ (pos (suc m * suc n)))

pub neg-*ℤ : (x y : ℤ) → neg_ℤ x *ℤ y ≡ neg_ℤ (x *ℤ y)
neg-*ℤ (pos m) y = neg-pos-*ℤ m y
neg-*ℤ (negsuc m) y = sym (ap neg_ℤ (neg-pos-*ℤ (suc m) y) ∙ neg_ℤ-neg_ℤ (pos (suc m) *ℤ y))

pub *ℤ-neg : (x y : ℤ) → x *ℤ neg_ℤ y ≡ neg_ℤ (x *ℤ y)
*ℤ-neg x y = *ℤ_comm x (neg_ℤ y) ∙ neg-*ℤ y x ∙ ap neg_ℤ (*ℤ_comm y x)

-- two factors of three aren't negative
assoc_pos_pos : (l m : ℕ) (z : ℤ) → (pos l *ℤ pos m) *ℤ z ≡ pos l *ℤ (pos m *ℤ z)
assoc_pos_pos l m (pos n) = ap pos (mul_assoc l m n)
assoc_pos_pos l m (negsuc n) = ap (λ (x : ℕ). neg_ℤ (pos x)) (mul_assoc l m (suc n)) ∙ sym (*ℤ-neg (pos l) (pos (m * suc n)))

assoc_pos : (l : ℕ) (y z : ℤ) → (pos l *ℤ y) *ℤ z ≡ pos l *ℤ (y *ℤ z)
assoc_pos l (pos m) z = assoc_pos_pos l m z
assoc_pos l (negsuc m) z =
    neg-*ℤ (pos l *ℤ pos (suc m)) z ∙ ap neg_ℤ (assoc_pos_pos l (suc m) z) ∙ sym (*ℤ-neg (pos l) (pos (suc m) *ℤ z))
    ∙ ap (λ (x : ℤ). pos l *ℤ x) (sym (neg-*ℤ (pos (suc m)) z))

pub *ℤ_assoc : (x y z : ℤ) → (x *ℤ y) *ℤ z ≡ x *ℤ (y *ℤ z)
*ℤ_assoc (pos l) y z = assoc_pos l y z
*ℤ_assoc (negsuc l) y z =
    ap (λ (x : ℤ). x *ℤ z) (neg-*ℤ (pos (suc l)) y) ∙ neg-*ℤ (pos (suc l) *ℤ y) z ∙ ap neg_ℤ (assoc_pos (suc l) y z)
    ∙ sym (neg-*ℤ (pos (suc l)) (y *ℤ z))
