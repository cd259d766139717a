-- Items are judged one after the other.
use Rattle.std.specs.Prelude.{◌≡◌, ℕ, suc, ◌+◌, nat_lt, Bool, true, false, ◌&&◌, cond, List, [], ◌∷◌, ◌++◌, length, Some, None, Option, refl}
use Rattle.std.proofs.Common.{arith, ◌∙◌, ap, sym, subst}
use Rattle.pi_constraints.specs.Constraint.{most_items}
use Rattle.pi_constraints.specs.declared.constraint.Item.{Item}
use Rattle.pi_constraints.specs.declared.constraint.Constraint.{Constraint}
use Rattle.pi_prop_spec.specs.Steps.{Refusal, too_many_terms, wide_coefficient, Made}
use Rattle.pi_prop_spec.specs.Limits.{is_value, are_values, refusal_of}
use Rattle.pi_prop_made.specs.declared.items.JudgedItems.{JudgedItems}
use Rattle.pi_prop_made.specs.declared.limits.Limit.{Limit}
use Rattle.pi_prop_made.specs.declared.making.Making.{Making}
use Rattle.pi_prop_made.specs.Making.{refusal_for, Shows, with_constraint}
use Rattle.pi_prop_made.specs.Items.{IsJudged, AreJudged, LimitIs}

pub none-judged : (items : List Item) → items ≡ [] → AreJudged (record { items = items; count = 0; narrow = true }) []
unfolding are_values
none-judged items e = record { count = refl; narrow = refl; items = λ f. e }

length-behind : (xs : List Item) (x : Item) → length (xs ++ x ∷ []) ≡ length xs + 1
length-behind [] x = refl
length-behind (y ∷ xs) x = let rest = length-behind xs x in omega (arith, rest)

values-behind : (xs : List Item) (x : Item) → are_values (xs ++ x ∷ []) ≡ are_values xs && is_value x
unfolding are_values
values-behind [] x = by (is_value x)
  where
    by : (b : Bool) → (b && true) ≡ b
    by true = refl
    by false = refl
values-behind (y ∷ xs) x = ap (λ (b : Bool). is_value y && b) (values-behind xs x) ∙ nested (is_value y) (are_values xs) (is_value x)
  where
    nested : (a b c : Bool) → (a && (b && c)) ≡ ((a && b) && c)
    nested true b c = refl
    nested false b c = refl

both-true : (b : Bool) → (b && true) ≡ b
both-true true = refl
both-true false = refl

never-both : (b : Bool) → (b && false) ≡ false
never-both true = refl
never-both false = refl

pub judged-more : (old : JudgedItems) (more : List Item) (count : ℕ) (y x : Item) (xs : List Item) → count ≡ old.count + 1 → more ≡ old.items ++ y ∷ [] → IsJudged (Some y) x → AreJudged old xs → AreJudged (record { items = more; count = count; narrow = old.narrow }) (xs ++ x ∷ [])
judged-more old more count y x xs n e (is, narrow) a = record {
  count = n ∙ (ap (λ (k : ℕ). k + 1) a.count ∙ sym (length-behind xs x));
  narrow = a.narrow ∙ (sym (both-true (are_values xs)) ∙ (ap (λ (b : Bool). are_values xs && b) (sym narrow) ∙ sym (values-behind xs x)));
  items = λ f. e ∙ (λ i. a.items f i ++ is i ∷ []);
}

pub judged-wide : (old : JudgedItems) (count : ℕ) (x : Item) (xs : List Item) → count ≡ old.count + 1 → IsJudged None x → AreJudged old xs → AreJudged (record { items = old.items; count = count; narrow = false }) (xs ++ x ∷ [])
judged-wide old count x xs n wide a = record {
  count = n ∙ (ap (λ (k : ℕ). k + 1) a.count ∙ sym (length-behind xs x));
  narrow = sym (never-both (are_values xs)) ∙ (ap (λ (b : Bool). are_values xs && b) (sym wide) ∙ sym (values-behind xs x));
  items = λ f. absurd cc;
}

-- ---- constraints over items

wide-by : (b p q narrow : Bool) (r : Refusal) → Some r ≡ cond b (Some too_many_terms) (cond narrow None (Some wide_coefficient)) → cond b (Some too_many_terms) (cond (p && (q && narrow)) None (Some wide_coefficient)) ≡ Some r
wide-by true p q narrow r e = sym e
wide-by false p q true r e = absurd cc
wide-by false true true false r e = sym e
wide-by false true false false r e = sym e
wide-by false false q false r e = sym e

pub element-limit : (limit : Limit) (i v : Item) (xs : List Item) → LimitIs (Some limit) xs → refusal_of (Constraint.Element i xs v) ≡ Some (refusal_for limit)
unfolding are_values
element-limit limit i v xs e = wide-by (nat_lt most_items (length xs)) (is_value i) (is_value v) (are_values xs) (refusal_for limit) e

narrow-by : (b p q narrow : Bool) → None ≡ cond b (Some too_many_terms) (cond narrow None (Some wide_coefficient)) → (p && q) ≡ false → cond b (Some too_many_terms) (cond (p && (q && narrow)) None (Some wide_coefficient)) ≡ Some wide_coefficient
narrow-by true p q narrow e f = absurd cc
narrow-by false p q false e f = absurd cc
narrow-by false true true true e f = absurd cc
narrow-by false true false true e f = refl
narrow-by false false q true e f = refl

pub index-wide : (i v : Item) (xs : List Item) → IsJudged None i → LimitIs None xs → refusal_of (Constraint.Element i xs v) ≡ Some (refusal_for Limit.Width)
unfolding are_values
index-wide i v xs wide e = narrow-by (nat_lt most_items (length xs)) (is_value i) (is_value v) (are_values xs) e (ap (λ (b : Bool). b && is_value v) wide)

pub value-wide : (i v : Item) (xs : List Item) → IsJudged None v → LimitIs None xs → refusal_of (Constraint.Element i xs v) ≡ Some (refusal_for Limit.Width)
unfolding are_values
value-wide i v xs wide e = narrow-by (nat_lt most_items (length xs)) (is_value i) (is_value v) (are_values xs) e (ap (λ (b : Bool). is_value i && b) wide ∙ never-both (is_value i))

kept-by : (b narrow : Bool) → None ≡ cond b (Some too_many_terms) (cond narrow None (Some wide_coefficient)) → (narrow ≡ true) × (cond b (Some too_many_terms) (cond (true && (true && narrow)) None (Some wide_coefficient)) ≡ None)
kept-by true narrow e = absurd cc
kept-by false false e = absurd cc
kept-by false true e = (refl, refl)

pub element-kept : (new : Making) (m : Made) (index i value v : Item) (items : JudgedItems) (xs : List Item) → IsJudged (Some index) i → IsJudged (Some value) v → AreJudged items xs → LimitIs None xs
    → (refusal_of (Constraint.Element index items.items value) ≡ None → Shows new (with_constraint m (Constraint.Element index items.items value))) → Shows new (with_constraint m (Constraint.Element i xs v))
unfolding are_values
element-kept new m index i value v items xs (is, narrow) (so, small) a e kept =
    let k = kept-by (nat_lt most_items (length xs)) (are_values xs) e in
    let own : items.items ≡ xs = a.items (a.narrow ∙ k.0) in
    let same : Constraint.Element index items.items value ≡ Constraint.Element i xs v = (λ j. Constraint.Element (is j) (own j) (so j)) in
    let keeps : refusal_of (Constraint.Element i xs v) ≡ None = (λ j. cond (nat_lt most_items (length xs)) (Some too_many_terms) (cond (narrow j && (small j && are_values xs)) None (Some wide_coefficient))) ∙ k.1 in
    subst (λ d. Shows new (with_constraint m d)) same (kept (ap refusal_of same ∙ keeps))
