-- Sums that stand so to 0, by their terms.
use Rattle.std.specs.Prelude.{◌≡◌, ◌≢◌, ℕ, suc, ◌==◌, nat_lt, Bool, true, cond, List, [], ◌∷◌, length, Option, Some, None, Ok, ℤ, pos, negsuc, ◌+ℤ◌, refl}
use Rattle.std.proofs.Common.{arith, tests, ◌∙◌, ap, sym, subst}
use Rattle.pi_constraints.specs.declared.constraint.Rel.{Rel}
use Rattle.pi_constraints.specs.declared.constraint.Item.{Item}
use Rattle.pi_constraints.specs.declared.constraint.Constraint.{Constraint}
use Rattle.pi_prop_spec.specs.PostingSums.{Sum, in_front, with_term, with_terms, scaled_terms, Ascend}
use Rattle.pi_prop_spec.specs.Steps.{Made}
use Rattle.pi_prop_spec.specs.Limits.{are_narrow, are_values, refusal_of}
use Rattle.pi_prop_spec.specs.Relations.{stands, posts_never, posts_standing}
use Rattle.pi_prop_spec.specs.Truths.{bit, truth_variable_is, new_truth, truth_of_standing}
use Rattle.pi_prop_made.specs.declared.to_zero.ToZero.{ToZero}
use Rattle.pi_prop_made.specs.declared.making.Making.{Making}
use Rattle.pi_prop_made.specs.Making.{sum_refusal, IsNumber, Shows, Reads, with_constraint, with_variable}
use Rattle.pi_prop_made.specs.ToZero.{rel_of, constant_for, sum_for, posts_number, reified_by}
use Rattle.pi_prop_made.proofs.SideLemmas.{in_front_some}

-- ---- 1 more is a matter of the constant alone

first-term : (t : ℤ × ℕ) (ts : List (ℤ × ℕ)) → t.0 ≢ pos 0 → Ascend (suc t.1) ts → with_term t.0 t.1 ts ≡ t ∷ ts
unfolding with_term Ascend
first-term t [] h s = in_front_some t.0 t.1 [] h
first-term t (u ∷ us) h s =
    let less : nat_lt t.1 u.1 ≡ true = grind (arith, tests, s.1) in
    ap (λ (b : Bool). cond b (in_front t.0 t.1 (u ∷ us)) (cond (t.1 == u.1) (in_front (t.0 +ℤ u.0) t.1 us) (u ∷ with_term t.0 t.1 us))) less ∙ in_front_some t.0 t.1 (u ∷ us) h

none-behind : (least : ℕ) (ts : List (ℤ × ℕ)) → Ascend least ts → with_terms ts [] ≡ ts
unfolding with_terms Ascend
none-behind least [] s = refl
none-behind least (t ∷ ts) s = ap (with_term t.0 t.1) (none-behind (suc t.1) ts s.2) ∙ first-term t ts s.0 s.2

-- terms with a constant
abbrev with_constant : List (ℤ × ℕ) → ℤ → Sum
with_constant ts k = record { terms = ts; constant = k }

sum-for : (how : ToZero) (u : Sum) → Ascend 0 u.terms → sum_for how u ≡ with_constant u.terms (constant_for how u.constant)
sum-for ToZero.Equal u s = refl
sum-for ToZero.Unequal u s = refl
sum-for ToZero.AtMost u s = refl
sum-for ToZero.Below u s = ap (λ (ts : List (ℤ × ℕ)). with_constant ts (u.constant +ℤ pos 1)) (none-behind 0 u.terms s)

-- ---- what is posted

posts-none : (rel : Rel) (ts : List (ℤ × ℕ)) (k : ℤ) (m : Made) → length ts ≡ 0 → posts_standing rel (with_constant ts k) m ≡ posts_number rel k m
posts-none rel [] k m e = refl
posts-none rel (t ∷ ts) k m e = absurd (omega (arith, e))

posts-some : (rel : Rel) (ts : List (ℤ × ℕ)) (k : ℤ) (m : Made) → length ts ≢ 0 → posts_standing rel (with_constant ts k) m ≡ Ok (record { what = tt; made = with_constraint m (Constraint.Linear rel ts k) })
posts-some rel [] k m e = absurd (e refl)
posts-some rel (t ∷ ts) k m e = refl

pub number-posted : (how : ToZero) (u : Sum) (count : ℕ) (k : ℤ) (m : Made) (new : Making) → Ascend 0 u.terms → count ≡ length u.terms → count ≡ 0 → k ≡ u.constant → Reads (posts_number (rel_of how) (constant_for how k)) m tt new →
    Reads (posts_standing (rel_of how) (sum_for how u)) m tt new
number-posted how u count k m new s n none e r = record {
  made = r.made;
  is = ap (λ (v : Sum). posts_standing (rel_of how) v m) (sum-for how u s) ∙ (posts-none (rel_of how) u.terms (constant_for how u.constant) m (sym n ∙ none)
      ∙ (ap (λ (c : ℤ). posts_number (rel_of how) (constant_for how c) m) (sym e) ∙ r.is));
  shown = r.shown;
}

pub terms-posted : (how : ToZero) (u : Sum) (count : ℕ) (m : Made) (new : Making) → Ascend 0 u.terms → count ≡ length u.terms → count ≢ 0 → Shows new (with_constraint m (Constraint.Linear (rel_of how) u.terms (constant_for how u.constant))) →
    Reads (posts_standing (rel_of how) (sum_for how u)) m tt new
terms-posted how u count m new s n some shown = record {
  made = with_constraint m (Constraint.Linear (rel_of how) u.terms (constant_for how u.constant));
  is = ap (λ (v : Sum). posts_standing (rel_of how) v m) (sum-for how u s) ∙ posts-some (rel_of how) u.terms (constant_for how u.constant) m (λ e. some (n ∙ e));
  shown = shown;
}

-- ---- truths

truth-none : (rel : Rel) (ts : List (ℤ × ℕ)) (k : ℤ) (m : Made) → length ts ≡ 0 → truth_of_standing rel (with_constant ts k) m ≡ Ok (record { what = Item.Int (bit (stands rel k)); made = m })
truth-none rel [] k m e = refl
truth-none rel (t ∷ ts) k m e = absurd (omega (arith, e))

truth-some : (rel : Rel) (ts : List (ℤ × ℕ)) (k : ℤ) (m : Made) → length ts ≢ 0 → truth_of_standing rel (with_constant ts k) m ≡ reified_by rel ts k m
truth-some rel [] k m e = absurd (e refl)
truth-some rel (t ∷ ts) k m e = refl

pub number-truth : (how : ToZero) (u : Sum) (count : ℕ) (k : ℤ) (b : Bool) (x : Item) (m : Made) (new : Making) → Ascend 0 u.terms → count ≡ length u.terms → count ≡ 0 → k ≡ u.constant → b ≡ stands (rel_of how) (constant_for how k) → x ≡ Item.Int (bit b) → Shows new m →
    Reads (truth_of_standing (rel_of how) (sum_for how u)) m x new
number-truth how u count k b x m new s n none e test is shown = record {
  made = m;
  is = ap (λ (v : Sum). truth_of_standing (rel_of how) v m) (sum-for how u s) ∙ (truth-none (rel_of how) u.terms (constant_for how u.constant) m (sym n ∙ none)
      ∙ (ap (λ (c : ℤ). Ok (record { what = Item.Int (bit (stands (rel_of how) (constant_for how c))); made = m })) (sym e)
      ∙ (ap (λ (d : Bool). Ok (record { what = Item.Int (bit d); made = m })) (sym test) ∙ ap (λ (y : Item). Ok (record { what = y; made = m })) (sym is))));
  shown = shown;
}

pub terms-truth : (how : ToZero) (u : Sum) (count : ℕ) (x : Item) (m : Made) (new : Making) → Ascend 0 u.terms → count ≡ length u.terms → count ≢ 0 → Reads (reified_by (rel_of how) u.terms (constant_for how u.constant)) m x new →
    Reads (truth_of_standing (rel_of how) (sum_for how u)) m x new
terms-truth how u count x m new s n some r = record {
  made = r.made;
  is = ap (λ (v : Sum). truth_of_standing (rel_of how) v m) (sum-for how u s) ∙ (truth-some (rel_of how) u.terms (constant_for how u.constant) m (λ e. some (n ∙ e)) ∙ r.is);
  shown = r.shown;
}

-- ---- constraints over one variable

abbrev pub single : ℤ → ℕ → ℤ → Constraint
single c n k = Constraint.Linear Rel.AtMost ((c, n) ∷ []) k

pub one-keeps : (n : ℕ) → refusal_of (single (pos 1) n (negsuc 0)) ≡ None
unfolding are_narrow
one-keeps n = refl

pub opposite-keeps : (n : ℕ) → refusal_of (single (negsuc 0) n (pos 0)) ≡ None
unfolding are_narrow
opposite-keeps n = refl

pub itself-keeps : (n : ℕ) → refusal_of (single (pos 1) n (pos 0)) ≡ None
unfolding are_narrow
itself-keeps n = refl

pub without-keeps : (n : ℕ) → refusal_of (single (negsuc 0) n (pos 1)) ≡ None
unfolding are_narrow
without-keeps n = refl

pub truth-made : (n : ℕ) (m : Made) (new : Making) → Shows new (with_constraint (with_constraint m (single (pos 1) n (negsuc 0))) (single (negsuc 0) n (pos 0))) → Reads (truth_variable_is n) m (Item.Var n) new
unfolding with_term with_terms scaled_terms
truth-made n m new s = record { made = with_constraint (with_constraint m (single (pos 1) n (negsuc 0))) (single (negsuc 0) n (pos 0)); is = refl; shown = s }

pub never-made : (n : ℕ) (m : Made) (new : Making) → n ≡ m.unused → Shows new (with_constraint (with_constraint (with_variable m) (single (pos 1) n (pos 0))) (single (negsuc 0) n (pos 1))) → Reads posts_never m tt new
unfolding with_term with_terms scaled_terms
never-made n m new e s = record {
  made = with_constraint (with_constraint (with_variable m) (single (pos 1) n (pos 0))) (single (negsuc 0) n (pos 1));
  is = ap (λ (j : ℕ). Ok (record { what = tt; made = with_constraint (with_constraint (with_variable m) (single (pos 1) j (pos 0))) (single (negsuc 0) j (pos 1)) })) (sym e);
  shown = s;
}

pub new-truth : (n : ℕ) (m : Made) (new : Making) → n ≡ m.unused → Reads (truth_variable_is n) (with_variable m) (Item.Var n) new → Reads new_truth m (Item.Var n) new
new-truth n m new e r = record { made = r.made; is = ap (λ (j : ℕ). truth_variable_is j (with_variable m)) (sym e) ∙ r.is; shown = r.shown }

-- a truth variable has no limit of its own
pub reified-refusal : (rel : Rel) (ts : List (ℤ × ℕ)) (k : ℤ) (n : ℕ) → refusal_of (Constraint.Reified (Item.Var n) rel ts k) ≡ sum_refusal ts k
unfolding are_values
reified-refusal rel ts k n = refl

-- the constraint that is kept
pub reified-kept : (new : Making) (m : Made) (truth : ℕ) (how : ToZero) (rel : Rel) (ts us : List (ℤ × ℕ)) (k : ℤ) (o : Option ℤ) (c : ℤ) → rel ≡ rel_of how → us ≡ ts → o ≡ Some k → sum_refusal ts k ≡ None → IsNumber o (constant_for how c)
    → (refusal_of (Constraint.Reified (Item.Var truth) rel us k) ≡ None → Shows new (with_constraint m (Constraint.Reified (Item.Var truth) rel us k))) → Shows new (with_constraint m (Constraint.Reified (Item.Var truth) (rel_of how) ts (constant_for how c)))
reified-kept new m truth how rel ts us k o c r t is keeps number kept =
    let same : k ≡ constant_for how c = subst (λ (p : Option ℤ). IsNumber p (constant_for how c)) is number in
    let whole : Constraint.Reified (Item.Var truth) rel us k ≡ Constraint.Reified (Item.Var truth) (rel_of how) ts (constant_for how c) = (λ i. Constraint.Reified (Item.Var truth) (r i) (t i) (same i)) in
    let own : refusal_of (Constraint.Reified (Item.Var truth) rel us k) ≡ None = reified-refusal rel us k truth ∙ ((λ i. sum_refusal (t i) k) ∙ keeps) in
    subst (λ d. Shows new (with_constraint m d)) whole (kept own)
