-- The filters of products and of absolute values: they are monotone, lose no solution, and are decisive.
use Rattle.std.specs.Prelude.{◌≡◌, ℕ, List, length, ℤ, ◌*ℤ◌, neg_ℤ, ◌≤ℤ◌, refl}
use Rattle.std.specs.Int.{int_min, int_max}
use Rattle.std.proofs.Common.{arith, sym, ◌∙◌, ap, subst}
use Rattle.std.proofs.lemmas.Int.{ints}
use Rattle.std.proofs.Math.IntN.{*ℤ_comm}
use Rattle.pi_constraints.specs.declared.domain.Span.{Span}
use Rattle.pi_prop_spec.specs.Ends.{least_of, greatest_of, IsBetween, IsFixedTo}
use Rattle.pi_prop_spec.specs.Places.{domain_at}
use Rattle.pi_prop_spec.specs.Rules.{least_corner, greatest_corner, FactorKeeps, ProductKeeps, magnitude, AbsoluteKeeps}
use Rattle.pi_prop_spec.proofs.EndLemmas.{EndsWithin, fixed_to_within}
use Rattle.pi_prop_spec.proofs.NumberLemmas.{below_min, above_max, min_same, max_same, trans, above_corners, below_corners}
use Rattle.pi_prop_spec.proofs.PlaceLemmas.{Given, Decided, Narrowed, given_between, given_only, narrowed_ends, wider_between}

-- ---- products

product-solution : (ds : List (List Span)) (v : ℕ → ℤ) (n : ℤ) → Given v ds → length ds ≡ 3 → v 0 ≡ v 1 *ℤ v 2 → n ≡ v 0 → (least_corner (domain_at ds 1) (domain_at ds 2) ≤ℤ n) × (n ≤ℤ greatest_corner (domain_at ds 1) (domain_at ds 2))
product-solution ds v n g c s e =
    let x = domain_at ds 1 in
    let y = domain_at ds 2 in
    let u : IsBetween x (v 1) = given_between v ds 1 g (omega arith) in
    let w : IsBetween y (v 2) = given_between v ds 2 g (omega arith) in
    let same : v 1 *ℤ v 2 ≡ n = sym (e ∙ s) in (
      subst (λ (z : ℤ). least_corner x y ≤ℤ z) same (above_corners (least_of x) (greatest_of x) (least_of y) (greatest_of y) (v 1) (v 2) u.0 u.1 w.0 w.1),
      subst (λ (z : ℤ). z ≤ℤ greatest_corner x y) same (below_corners (least_of x) (greatest_of x) (least_of y) (greatest_of y) (v 1) (v 2) u.0 u.1 w.0 w.1),
    )

pub products-keep_solutions : (ds : List (List Span)) (v : ℕ → ℤ) (k : ℕ) (n : ℤ) → Given v ds → length ds ≡ 3 → v 0 ≡ v 1 *ℤ v 2 → n ≡ v k → ProductKeeps ds k n
products-keep_solutions ds v k n g c s e = record {
  product = λ at. product-solution ds v n g c s (e ∙ ap v at);
  first = λ at m fixed other.
      let factor : v 2 ≡ m = given_only v ds 2 m g (omega arith) fixed in
      let same : v 0 ≡ m *ℤ n = s ∙ (*ℤ_comm (v 1) (v 2) ∙ (λ i. factor i *ℤ (sym (e ∙ ap v at)) i)) in
      subst (λ (z : ℤ). IsBetween (domain_at ds 0) z) same (given_between v ds 0 g (omega arith));
  second = λ at m fixed other.
      let factor : v 1 ≡ m = given_only v ds 1 m g (omega arith) fixed in
      let same : v 0 ≡ m *ℤ n = s ∙ (λ i. factor i *ℤ (sym (e ∙ ap v at)) i) in
      subst (λ (z : ℤ). IsBetween (domain_at ds 0) z) same (given_between v ds 0 g (omega arith));
}

min_of_four : (p : ℤ) → int_min (int_min p p) (int_min p p) ≡ p
min_of_four p = (λ i. int_min (min_same p i) (min_same p i)) ∙ min_same p

max_of_four : (p : ℤ) → int_max (int_max p p) (int_max p p) ≡ p
max_of_four p = (λ i. int_max (max_same p i) (max_same p i)) ∙ max_same p

least_corner-fixed : (d e : List Span) (u v : ℤ) → IsFixedTo d u → IsFixedTo e v → least_corner d e ≡ u *ℤ v
least_corner-fixed d e u v f g =
    (λ i. int_min (int_min (f.0 i *ℤ g.0 i) (f.0 i *ℤ g.1 i)) (int_min (f.1 i *ℤ g.0 i) (f.1 i *ℤ g.1 i))) ∙ min_of_four (u *ℤ v)

greatest_corner-fixed : (d e : List Span) (u v : ℤ) → IsFixedTo d u → IsFixedTo e v → greatest_corner d e ≡ u *ℤ v
greatest_corner-fixed d e u v f g =
    (λ i. int_max (int_max (f.0 i *ℤ g.0 i) (f.0 i *ℤ g.1 i)) (int_max (f.1 i *ℤ g.0 i) (f.1 i *ℤ g.1 i))) ∙ max_of_four (u *ℤ v)

between_same : (lo hi n p : ℤ) → lo ≡ p → hi ≡ p → lo ≤ℤ n → n ≤ℤ hi → n ≡ p
between_same lo hi n p d e h k = omega (arith, ints)

pub products-decide : (ds : List (List Span)) (v : ℕ → ℤ) → Decided v ds → length ds ≡ 3 → ProductKeeps ds 0 (v 0) → v 0 ≡ v 1 *ℤ v 2
products-decide ds v d c h =
    let inside = h.product refl in
    let x : IsFixedTo (domain_at ds 1) (v 1) = d.fixed 1 (omega arith) in
    let y : IsFixedTo (domain_at ds 2) (v 2) = d.fixed 2 (omega arith) in
    between_same (least_corner (domain_at ds 1) (domain_at ds 2)) (greatest_corner (domain_at ds 1) (domain_at ds 2)) (v 0) (v 1 *ℤ v 2)
    (least_corner-fixed (domain_at ds 1) (domain_at ds 2) (v 1) (v 2) x y) (greatest_corner-fixed (domain_at ds 1) (domain_at ds 2) (v 1) (v 2) x y) inside.0 inside.1

record Inner (d e : List Span) : Type 0 where
  low : IsBetween d (least_of e)
  high : IsBetween d (greatest_of e)

inner : (d e : List Span) → EndsWithin d e → Inner d e
inner d e w = record { low = (w.low, omega (arith, ints, w.ordered, w.high)); high = (omega (arith, ints, w.low, w.ordered), w.high) }

least_corner-within : (d e x y : List Span) → EndsWithin d x → EndsWithin e y → least_corner d e ≤ℤ least_corner x y
least_corner-within d e x y w z =
    let a = inner d x w in
    let b = inner e y z in
    let corner : (u v : ℤ) → IsBetween d u → IsBetween e v → least_corner d e ≤ℤ (u *ℤ v) =
    λ u v p q. above_corners (least_of d) (greatest_of d) (least_of e) (greatest_of e) u v p.0 p.1 q.0 q.1 in
    below_min (int_min (least_of x *ℤ least_of y) (least_of x *ℤ greatest_of y)) (int_min (greatest_of x *ℤ least_of y) (greatest_of x *ℤ greatest_of y)) (least_corner d e)
    (below_min (least_of x *ℤ least_of y) (least_of x *ℤ greatest_of y) (least_corner d e) (corner (least_of x) (least_of y) a.low b.low) (corner (least_of x) (greatest_of y) a.low b.high))
    (below_min (greatest_of x *ℤ least_of y) (greatest_of x *ℤ greatest_of y) (least_corner d e) (corner (greatest_of x) (least_of y) a.high b.low) (corner (greatest_of x) (greatest_of y) a.high b.high))

greatest_corner-within : (d e x y : List Span) → EndsWithin d x → EndsWithin e y → greatest_corner x y ≤ℤ greatest_corner d e
greatest_corner-within d e x y w z =
    let a = inner d x w in
    let b = inner e y z in
    let corner : (u v : ℤ) → IsBetween d u → IsBetween e v → (u *ℤ v) ≤ℤ greatest_corner d e =
    λ u v p q. below_corners (least_of d) (greatest_of d) (least_of e) (greatest_of e) u v p.0 p.1 q.0 q.1 in
    above_max (int_max (least_of x *ℤ least_of y) (least_of x *ℤ greatest_of y)) (int_max (greatest_of x *ℤ least_of y) (greatest_of x *ℤ greatest_of y)) (greatest_corner d e)
    (above_max (least_of x *ℤ least_of y) (least_of x *ℤ greatest_of y) (greatest_corner d e) (corner (least_of x) (least_of y) a.low b.low) (corner (least_of x) (greatest_of y) a.low b.high))
    (above_max (greatest_of x *ℤ least_of y) (greatest_of x *ℤ greatest_of y) (greatest_corner d e) (corner (greatest_of x) (least_of y) a.high b.low) (corner (greatest_of x) (greatest_of y) a.high b.high))

factor-monotone : (z d x e : List Span) (n : ℤ) → EndsWithin z x → EndsWithin d e → FactorKeeps x e n → FactorKeeps z d n
factor-monotone z d x e n w y h = λ c fixed other. wider_between z x (c *ℤ n) w (h c (fixed_to_within d e c y fixed) other)

pub products-are_monotone : (ds es : List (List Span)) (k : ℕ) (n : ℤ) → Narrowed ds es → length ds ≡ 3 → ProductKeeps es k n → ProductKeeps ds k n
products-are_monotone ds es k n w c h =
    let z : EndsWithin (domain_at ds 0) (domain_at es 0) = narrowed_ends ds es 0 w (omega arith) in
    let x : EndsWithin (domain_at ds 1) (domain_at es 1) = narrowed_ends ds es 1 w (omega arith) in
    let y : EndsWithin (domain_at ds 2) (domain_at es 2) = narrowed_ends ds es 2 w (omega arith) in
    record {
      product = λ at. (
        trans (least_corner (domain_at ds 1) (domain_at ds 2)) (least_corner (domain_at es 1) (domain_at es 2)) n (least_corner-within (domain_at ds 1) (domain_at ds 2) (domain_at es 1) (domain_at es 2) x y) ((h.product at).0),
        trans n (greatest_corner (domain_at es 1) (domain_at es 2)) (greatest_corner (domain_at ds 1) (domain_at ds 2)) ((h.product at).1) (greatest_corner-within (domain_at ds 1) (domain_at ds 2) (domain_at es 1) (domain_at es 2) x y),
      );
      first = λ at. factor-monotone (domain_at ds 0) (domain_at ds 2) (domain_at es 0) (domain_at es 2) n z y (h.first at);
      second = λ at. factor-monotone (domain_at ds 0) (domain_at ds 1) (domain_at es 0) (domain_at es 1) n z x (h.second at);
    }

-- ---- absolute values

same_at_most : (x y : ℤ) → x ≡ y → x ≤ℤ y
same_at_most x y e = omega (arith, ints)

operand_between : (z n top : ℤ) → z ≡ magnitude n → z ≤ℤ top → (neg_ℤ top ≤ℤ n) × (n ≤ℤ top)
operand_between z n top e h = (omega (arith, ints), omega (arith, ints))

pub absolutes-keep_solutions : (ds : List (List Span)) (v : ℕ → ℤ) (k : ℕ) (n : ℤ) → Given v ds → length ds ≡ 2 → v 0 ≡ magnitude (v 1) → n ≡ v k → AbsoluteKeeps ds k n
absolutes-keep_solutions ds v k n g c s e =
    let u : IsBetween (domain_at ds 1) (v 1) = given_between v ds 1 g (omega arith) in
    let z : IsBetween (domain_at ds 0) (v 0) = given_between v ds 0 g (omega arith) in
    record {
      least = λ at. (v 1, u, same_at_most (magnitude (v 1)) n (sym (e ∙ (ap v at ∙ s))));
      greatest = λ at. (v 1, u, same_at_most n (magnitude (v 1)) (e ∙ (ap v at ∙ s)));
      operand = λ at. operand_between (v 0) n (greatest_of (domain_at ds 0)) (s ∙ ap magnitude (sym (e ∙ ap v at))) z.1;
    }

fixed_only : (d : List Span) (u v : ℤ) → IsFixedTo d v → IsBetween d u → u ≡ v
fixed_only d u v f b = between_same (least_of d) (greatest_of d) u v f.0 f.1 b.0 b.1

pub absolutes-decide : (ds : List (List Span)) (v : ℕ → ℤ) → Decided v ds → length ds ≡ 2 → AbsoluteKeeps ds 0 (v 0) → v 0 ≡ magnitude (v 1)
absolutes-decide ds v d c h =
    let x : IsFixedTo (domain_at ds 1) (v 1) = d.fixed 1 (omega arith) in
    let low = h.least refl in
    let high = h.greatest refl in
    between_same (magnitude low.0) (magnitude high.0) (v 0) (magnitude (v 1))
    (ap magnitude (fixed_only (domain_at ds 1) low.0 (v 1) x low.1)) (ap magnitude (fixed_only (domain_at ds 1) high.0 (v 1) x high.1)) low.2 high.2

wider_operand : (top more n : ℤ) → top ≤ℤ more → (neg_ℤ top ≤ℤ n) × (n ≤ℤ top) → (neg_ℤ more ≤ℤ n) × (n ≤ℤ more)
wider_operand top more n h b = (omega (arith, ints, b.0), omega (arith, ints, b.1))

pub absolutes-are_monotone : (ds es : List (List Span)) (k : ℕ) (n : ℤ) → Narrowed ds es → length ds ≡ 2 → AbsoluteKeeps es k n → AbsoluteKeeps ds k n
absolutes-are_monotone ds es k n w c h =
    let z : EndsWithin (domain_at ds 0) (domain_at es 0) = narrowed_ends ds es 0 w (omega arith) in
    let x : EndsWithin (domain_at ds 1) (domain_at es 1) = narrowed_ends ds es 1 w (omega arith) in
    record {
      least = λ at. let f = h.least at in (f.0, wider_between (domain_at ds 1) (domain_at es 1) f.0 x f.1, f.2);
      greatest = λ at. let f = h.greatest at in (f.0, wider_between (domain_at ds 1) (domain_at es 1) f.0 x f.1, f.2);
      operand = λ at. wider_operand (greatest_of (domain_at es 0)) (greatest_of (domain_at ds 0)) n z.high (h.operand at);
    }
