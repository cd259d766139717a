-- What the reading of a whole Boolean expression gives: an item that is 1 or 0 by the truth of the expression, wherever all holds that was made.
use Rattle.std.specs.Prelude.{◌≡◌, ⊤, ℕ, zero, suc, ◌<◌, ◌≤◌, Bool, true, false, not, ℤ, pos, negsuc, ◌-ℤ◌, Option, Some, None, option_map, unwrap_or, Ok, refl}
use Rattle.std.proofs.Common.{arith, ◌∙◌, ap, sym, subst}
use Rattle.pi_constraints.specs.declared.constraint.Rel.{Rel}
use Rattle.pi_constraints.specs.declared.constraint.Item.{Item}
use Rattle.pi_prop_spec.specs.Solutions.{value_of}
use Rattle.pi_prop_spec.specs.Operands.{Boolean, truth_variable, truth_number, relation, negation, joined, no_boolean}
use Rattle.pi_prop_spec.specs.PostingSums.{of_number, of_item, difference, sum_value}
use Rattle.pi_prop_spec.specs.Steps.{Made, Known, then}
use Rattle.pi_prop_spec.specs.Relations.{read_relation, stands, posts_standing}
use Rattle.pi_prop_spec.specs.Truths.{bit, truth_variable_is, truth_number_is, truth_of_standing, truth_of_negation, truth_of_joined, read_truth, posts_truth}
use Rattle.pi_prop_spec.specs.Says.{operand_value, compares, truth_of_number, joins, both_truths, truth, AllHold, AgreeBelow}
use Rattle.pi_prop_spec.proofs.PostingSumLemmas.{value-of_number, value-of_item}
use Rattle.pi_prop_spec.proofs.FormLemmas.{joined-difference, joined-of_number, joined-of_item, ItemBelow}
use Rattle.pi_prop_spec.proofs.GrowLemmas.{Any, Grows, grows_for, agree_less, grows_none, grows_then, grows_posted, hold-added, with_all, after_is, is_known}
use Rattle.pi_prop_spec.proofs.OperandLemmas.{OperandBelow}
use Rattle.pi_prop_spec.proofs.RelationLemmas.{StandingRead, relation-read, relations_agree, Posts, standing-posts}
use Rattle.pi_prop_spec.proofs.TruthLemmas.{diff, bits-known, truth-bit, bounds, bounds-formed, bounds-hold, bounds-only, NewTruth, Bits, said, said-bits, standing-truth}
use Rattle.pi_prop_spec.proofs.TableLemmas.{negation-truth, joined-truth}

-- ---- the variables of a Boolean expression

unfoldable pub BooleanBelow : ℕ → Boolean → Type 0
BooleanBelow n (truth_variable m) = m < n
BooleanBelow n (truth_number i) = ⊤
BooleanBelow n (relation c x y) = OperandBelow n x × OperandBelow n y
BooleanBelow n (negation b) = BooleanBelow n b
BooleanBelow n (joined k b c) = BooleanBelow n b × BooleanBelow n c
BooleanBelow n (no_boolean t) = ⊤

pub truths_agree : (n : ℕ) (b : Boolean) (a d : ℕ → ℤ) → BooleanBelow n b → AgreeBelow n a d → truth d b ≡ truth a b
unfolding BooleanBelow truth
truths_agree n (truth_variable m) a d s g = ap truth_of_number (g m s)
truths_agree n (truth_number i) a d s g = refl
truths_agree n (relation c x y) a d s g = ap {B = Option Bool} (λ p. Some p) (relations_agree n c x y a d s.0 s.1 g)
truths_agree n (negation b) a d s g = ap (option_map not) (truths_agree n b a d s g)
truths_agree n (joined k b c) a d s g = let p = truths_agree n b a d s.0 g in let q = truths_agree n c a d s.1 g in (λ i. both_truths (joins k) (p i) (q i))
truths_agree n (no_boolean t) a d s g = refl

-- ---- an expression that was read

-- the expression is so or isn't
abbrev pub IsTruth : Option Bool → Type 0
IsTruth o = (p : Bool) × (o ≡ Some p)

pub record TruthRead (m : Made) (l : Known Item) (t : (ℕ → ℤ) → Option Bool) : Type 0 where
  pub grows : Grows (λ a. IsTruth (t a)) m l.made
  pub below : ItemBelow l.made.unused l.what
  pub value : (a : ℕ → ℤ) → AllHold l.made.constraints a → (p : Bool) × (t a ≡ Some p) × (value_of a l.what ≡ bit p)

bits_of : (m : Made) (l : Known Item) (t : (ℕ → ℤ) → Option Bool) → TruthRead m l t → Bits l.made.constraints l.what
bits_of m l t r a h = let v : (p : Bool) × (t a ≡ Some p) × (value_of a l.what ≡ bit p) = r.value a h in (v.0, v.2)

variable-truth : (v : ℕ) (m : Made) (l : Known Item) → v < m.unused → truth_variable_is v m ≡ Ok l → TruthRead m l (λ a. truth_of_number (a v))
unfolding bounds
variable-truth v m l s e = subst (λ k. TruthRead m k (λ a. truth_of_number (a v))) (is_known (record { what = Item.Var v; made = record { unused = m.unused; constraints = with_all m.constraints (bounds v) } }) l e) (record {
  grows = grows_posted (λ a. IsTruth (truth_of_number (a v))) m (bounds v) (bounds-formed m.unused v s) (λ a p. bounds-hold a v p.0 (bits-known (a v) p.0 p.1));
  below = λ k f. subst (λ (w : ℕ). w < m.unused) f s;
  value = λ a h. let p : (p : Bool) × (a v ≡ bit p) = bounds-only a v (hold-added m.constraints (bounds v) a h) in (p.0, ap truth_of_number p.1 ∙ truth-bit p.0, p.1);
})

-- an integer, which adds nothing
integer-truth : (i : ℤ) (p : Bool) (m : Made) (l : Known Item) → truth_of_number i ≡ Some p → record { what = Item.Int (bit p); made = m } ≡ l → TruthRead m l (λ a. truth_of_number i)
integer-truth i p m l f e = subst (λ k. TruthRead m k (λ a. truth_of_number i)) e (record {
  grows = grows_none (λ a. IsTruth (truth_of_number i)) m;
  below = λ k f. absurd f;
  value = λ a h. (p, f, refl);
})

number-truth : (i : ℤ) (m : Made) (l : Known Item) → truth_number_is i m ≡ Ok l → TruthRead m l (λ a. truth_of_number i)
number-truth (pos zero) m l e = integer-truth (pos 0) false m l refl (is_known (record { what = Item.Int (pos 0); made = m }) l e)
number-truth (pos (suc zero)) m l e = integer-truth (pos 1) true m l refl (is_known (record { what = Item.Int (pos 1); made = m }) l e)
number-truth (pos (suc (suc n))) m l e = absurd cc
number-truth (negsuc n) m l e = absurd cc

-- ---- truths of parts

inner : (p : Option Bool) → IsTruth (option_map not p) → IsTruth p
inner None h = absurd (let f = h.1 in cc)
inner (Some p) h = (p, refl)

left : (f : Bool → Bool → Bool) (p q : Option Bool) → IsTruth (both_truths f p q) → IsTruth p
left f None q h = absurd (let e = h.1 in cc)
left f (Some p) q h = (p, refl)

right : (f : Bool → Bool → Bool) (p q : Option Bool) → IsTruth (both_truths f p q) → IsTruth q
right f None q h = absurd (let e = h.1 in cc)
right f (Some p) None h = absurd (let e = h.1 in cc)
right f (Some p) (Some q) h = (q, refl)

pub truth-read : (n : ℕ) (b : Boolean) (m : Made) (l : Known Item) → BooleanBelow n b → n ≤ m.unused → read_truth b m ≡ Ok l → TruthRead m l (λ a. truth a b)
unfolding read_truth BooleanBelow truth
truth-read n (truth_variable v) m l s b e = variable-truth v m l (omega (arith, s, b)) e
truth-read n (truth_number i) m l s b e = number-truth i m l e
truth-read n (relation c x y) m l s b e =
    let first = after_is (read_relation c x y m) (λ w. truth_of_standing w.rel w.sum) l e in
    let w : StandingRead m first.0 (λ a. compares c (operand_value a x) (operand_value a y)) = relation-read n c x y m first.0 s.0 s.1 b first.1 in
    let t : NewTruth first.0.made l (λ a. stands first.0.what.rel (sum_value a first.0.what.sum)) = standing-truth first.0.made first.0.what.rel first.0.what.sum l w.joined first.2 in
    record {
      grows = grows_for Any (λ a. IsTruth (Some (compares c (operand_value a x) (operand_value a y)))) m l.made (λ a p. tt) (grows_then Any Any m first.0.made l.made w.grows t.grows (λ a b p g h. tt));
      below = t.below;
      value = λ a h. (compares c (operand_value a x) (operand_value a y), refl, t.value a h ∙ ap bit (w.value a (t.grows.keeps a h)));
    }
truth-read n (negation c) m l s b e =
    let first = after_is (read_truth c m) truth_of_negation l e in
    let r : TruthRead m first.0 (λ a. truth a c) = truth-read n c m first.0 s b first.1 in
    let t : NewTruth first.0.made l (said (λ p q. not p) first.0.what first.0.what) = negation-truth first.0.made first.0.what l r.below (bits_of m first.0 (λ a. truth a c) r) first.2 in
    record {
      grows = grows_then (λ a. IsTruth (option_map not (truth a c))) Any m first.0.made l.made
          (grows_for (λ a. IsTruth (truth a c)) (λ a. IsTruth (option_map not (truth a c))) m first.0.made (λ a p. inner (truth a c) p) r.grows) t.grows (λ a b p g h. tt);
      below = t.below;
      value = λ a h.
          let v : (p : Bool) × (truth a c ≡ Some p) × (value_of a first.0.what ≡ bit p) = r.value a (t.grows.keeps a h) in
          (not v.0, ap (option_map not) v.1, t.value a h ∙ ap bit (said-bits (λ p q. not p) first.0.what first.0.what a v.0 v.0 v.2 v.2));
    }
truth-read n (joined k c d) m l s b e =
    let first = after_is (read_truth c m) (λ x. then (read_truth d) (λ y. truth_of_joined k x y)) l e in
    let second = after_is (read_truth d first.0.made) (λ y. truth_of_joined k first.0.what y) l first.2 in
    let r : TruthRead m first.0 (λ a. truth a c) = truth-read n c m first.0 s.0 b first.1 in
    let q : TruthRead first.0.made second.0 (λ a. truth a d) = truth-read n d first.0.made second.0 s.1 (omega (arith, b, r.grows.more)) second.1 in
    let t : NewTruth second.0.made l (said (joins k) first.0.what second.0.what) =
    joined-truth k second.0.made first.0.what second.0.what l (λ i f. omega (arith, r.below i f, q.grows.more)) q.below (λ a h. bits_of m first.0 (λ a. truth a c) r a (q.grows.keeps a h)) (bits_of first.0.made second.0 (λ a. truth a d) q) second.2 in
    let whole : (ℕ → ℤ) → Type 0 = λ a. IsTruth (both_truths (joins k) (truth a c) (truth a d)) in
    record {
      grows = grows_then whole Any m second.0.made l.made
          (grows_then whole (λ a. IsTruth (truth a d)) m first.0.made second.0.made (grows_for (λ a. IsTruth (truth a c)) whole m first.0.made (λ a p. left (joins k) (truth a c) (truth a d) p) r.grows) q.grows
          (λ a f p g h. let there : IsTruth (truth a d) = right (joins k) (truth a c) (truth a d) p in (there.0, truths_agree n d a f s.1 (agree_less n m.unused a f b g) ∙ there.1)))
          t.grows (λ a b p g h. tt);
      below = t.below;
      value = λ a h.
          let before = t.grows.keeps a h in
          let v : (p : Bool) × (truth a c ≡ Some p) × (value_of a first.0.what ≡ bit p) = r.value a (q.grows.keeps a before) in
          let w : (p : Bool) × (truth a d ≡ Some p) × (value_of a second.0.what ≡ bit p) = q.value a before in
          (joins k v.0 w.0, (λ i. both_truths (joins k) (v.1 i) (w.1 i)), t.value a h ∙ ap bit (said-bits (joins k) first.0.what second.0.what a v.0 w.0 v.2 w.2));
    }
truth-read n (no_boolean t) m l s b e = absurd cc

-- ---- as a goal

-- T - 1 = 0
one_is_so : (p : Bool) → stands Rel.Equal (bit p -ℤ pos 1) ≡ p
one_is_so true = refl
one_is_so false = refl

pub truth-posts : (n : ℕ) (b : Boolean) (m : Made) (l : Known (Unit {0})) → BooleanBelow n b → n ≤ m.unused → posts_truth b m ≡ Ok l → Posts m l (λ a. truth a b ≡ Some true)
truth-posts n b m l s c e =
    let first = after_is (read_truth b m) (λ t. posts_standing Rel.Equal (difference (of_item t) (of_number (pos 1)))) l e in
    let r : TruthRead m first.0 (λ a. truth a b) = truth-read n b m first.0 s c first.1 in
    let p : Posts first.0.made l (λ a. stands Rel.Equal (sum_value a (difference (of_item first.0.what) (of_number (pos 1)))) ≡ true) =
    standing-posts Rel.Equal (difference (of_item first.0.what) (of_number (pos 1))) first.0.made l
    (joined-difference first.0.made.unused (of_item first.0.what) (of_number (pos 1)) (joined-of_item first.0.made.unused first.0.what r.below) (joined-of_number first.0.made.unused (pos 1))) first.2 in
    let is_so : (a : ℕ → ℤ) (p : Bool) → value_of a first.0.what ≡ bit p → stands Rel.Equal (sum_value a (difference (of_item first.0.what) (of_number (pos 1)))) ≡ p = λ a p f.
    ap (stands Rel.Equal) (diff a (of_item first.0.what) (of_number (pos 1)) (bit p) (pos 1) (value-of_item a first.0.what ∙ f) (value-of_number a (pos 1))) ∙ one_is_so p in
    record {
      grows = grows_then (λ a. truth a b ≡ Some true) (λ a. stands Rel.Equal (sum_value a (difference (of_item first.0.what) (of_number (pos 1)))) ≡ true) m first.0.made l.made
          (grows_for (λ a. IsTruth (truth a b)) (λ a. truth a b ≡ Some true) m first.0.made (λ a q. (true, q)) r.grows) p.grows
          (λ a d q g h.
          let v : (p : Bool) × (truth d b ≡ Some p) × (value_of d first.0.what ≡ bit p) = r.value d h in
          is_so d v.0 v.2 ∙ same v.0 true (sym v.1 ∙ (truths_agree n b a d s (agree_less n m.unused a d c g) ∙ q)));
      says = λ a h.
          let v : (p : Bool) × (truth a b ≡ Some p) × (value_of a first.0.what ≡ bit p) = r.value a (p.grows.keeps a h) in
          v.1 ∙ ap {B = Option Bool} (λ p. Some p) (sym (is_so a v.0 v.2) ∙ p.says a h);
    }
  where
    same : (p q : Bool) → Some p ≡ Some q → p ≡ q
    same p q e = ap {A = Option Bool} (λ o. unwrap_or o p) e
