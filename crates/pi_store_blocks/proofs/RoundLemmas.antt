-- Constraints read back from their numbers.
use Rattle.std.proofs.Common.{◌≡◌, inl, inr, ◌^◌, ◌≤◌, ℤ, pos, negsuc, nat_abs, refl, ap, ◌∙◌, arith}
use Rattle.pi_constraints.specs.declared.constraint.Constraint.{Constraint}
use Rattle.pi_constraints.specs.declared.constraint.Rel.{Rel}
use Rattle.pi_store_blocks.specs.Form.{wide_top, wide_mid, wide_low, wide_of}
use Rattle.pi_store_blocks.proofs.FormLemmas.{wide_of-parts}
use Rattle.pi_store_blocks.specs.Items.{item_number, item_of, item_numbers, items_of}
use Rattle.pi_store_blocks.specs.Terms.{term_numbers, terms_of}
use Rattle.pi_store_blocks.specs.Head.{rel_number, rel_of}
use Rattle.pi_store_blocks.specs.Constraint.{ConstraintsReadBack}
use Rattle.pi_store_blocks.proofs.ItemLemmas.{item_back, items_back}
use Rattle.pi_store_blocks.proofs.TermLemmas.{terms_back}

rel_back : (r : Rel) → rel_of (rel_number r) ≡ r
rel_back Rel.Equal = refl
rel_back Rel.Unequal = refl
rel_back Rel.AtMost = refl

constant_back : (z : ℤ) → nat_abs z ≤ 2 ^ 100 → wide_of (wide_top z) (wide_mid z) (wide_low z) ≡ z
constant_back (pos n) h = wide_of-parts (pos n) (omega arith)
constant_back (negsuc n) h = wide_of-parts (negsuc n) (omega arith)

pub back : ConstraintsReadBack
back (Constraint.Linear rel terms constant) l b =
    ap (λ r. Constraint.Linear r (terms_of (term_numbers terms)) (wide_of (wide_top constant) (wide_mid constant) (wide_low constant))) (rel_back rel)
    ∙ (ap (λ ts. Constraint.Linear rel ts (wide_of (wide_top constant) (wide_mid constant) (wide_low constant))) (terms_back 0 terms l.2 b)
    ∙ ap (λ k. Constraint.Linear rel terms k) (constant_back constant l.3))
back (Constraint.Product z x y) l b =
    ap (λ i. Constraint.Product i (item_of (item_number x)) (item_of (item_number y))) (item_back z l.0 (λ n v. b n (inl v)))
    ∙ (ap (λ i. Constraint.Product z i (item_of (item_number y))) (item_back x l.1 (λ n v. b n (inr (inl v))))
    ∙ ap (λ i. Constraint.Product z x i) (item_back y l.2 (λ n v. b n (inr (inr v)))))
back (Constraint.Absolute z x) l b =
    ap (λ i. Constraint.Absolute i (item_of (item_number x))) (item_back z l.0 (λ n v. b n (inl v)))
    ∙ ap (λ i. Constraint.Absolute z i) (item_back x l.1 (λ n v. b n (inr v)))
back (Constraint.Different items) l b = ap Constraint.Different (items_back items l.1 b)
back (Constraint.Element index items value) l b =
    ap (λ i. Constraint.Element i (items_of (item_numbers items)) (item_of (item_number value))) (item_back index l.1 (λ n v. b n (inl v)))
    ∙ (ap (λ is. Constraint.Element index is (item_of (item_number value))) (items_back items l.2 (λ n v. b n (inr (inl v))))
    ∙ ap (λ i. Constraint.Element index items i) (item_back value l.3 (λ n v. b n (inr (inr v)))))
back (Constraint.Reified truth rel terms constant) l b =
    ap (λ i. Constraint.Reified i (rel_of (rel_number rel)) (terms_of (term_numbers terms)) (wide_of (wide_top constant) (wide_mid constant) (wide_low constant))) (item_back truth l.0 (λ n v. b n (inl v)))
    ∙ (ap (λ r. Constraint.Reified truth r (terms_of (term_numbers terms)) (wide_of (wide_top constant) (wide_mid constant) (wide_low constant))) (rel_back rel)
    ∙ (ap (λ ts. Constraint.Reified truth rel ts (wide_of (wide_top constant) (wide_mid constant) (wide_low constant))) (terms_back 0 terms l.1.2 (λ n v. b n (inr v)))
    ∙ ap (λ k. Constraint.Reified truth rel terms k) (constant_back constant l.1.3)))
back (Constraint.Distinct items) l b = ap Constraint.Distinct (items_back items l.1 b)
