-- Places that aren't fixed, and sums that are not to be 0.
use Rattle.std.specs.Prelude.{◌≡◌, ◌≢◌, ◌↔◌, ℕ, ◌+◌, ◌^◌, ◌<◌, ◌≤◌, Bool, true, false, not, cond, IsTrue, nat_eq, List, [], length, drop, ℤ, pos, ◌+ℤ◌, ◌-ℤ◌, ◌*ℤ◌, neg_ℤ, nat_abs, FitsSigned, refl}
use Rattle.std.specs.Int.{w128, int_div_euclid}
use Rattle.std.specs.Ordering.{int_eq}
use Rattle.std.proofs.Common.{arith, sym, ◌∙◌, ap, subst, inl, inr, to_z, of_z, length-drop, get_or-drop}
use Rattle.std.proofs.lemmas.Int.{ints, to_z-of_z, fits_signed_from_abs}
use Rattle.std.proofs.lemmas.Bool.{cases_eq, eqb-true, eq-eqb, ne_eqb}
use Rattle.pi_constraints.specs.declared.domain.Span.{Span}
use Rattle.pi_prop_spec.specs.Ends.{IsFixed}
use Rattle.pi_prop_spec.specs.Places.{domain_at}
use Rattle.pi_prop_spec.specs.Sums.{coefficient_at, least_part, least_of_all, least_with}
use Rattle.pi_prop_places.specs.Changes.{IsCutAt, AreCutFrom}
use Rattle.pi_prop_places.specs.Roots.{ShowsOpen, roots_keep, is_no_root, seen_open}
use Rattle.pi_prop_places.specs.declared.roots.Open.{Open}
use Rattle.pi_prop_places.proofs.CutLemmas.{cut_none, cut_like, cut_from_more, cut_from_like, cut_from_one, cut_from_all}
use Rattle.pi_prop_places.proofs.RoundLemmas.{removed_is, kept_is, root_small}
use Rattle.pi_prop_places.proofs.SideLemmas.{others_are}

-- ---- which places aren't fixed

pub open_at_first : (ds : List (List Span)) → ShowsOpen ds 0 Open.Nowhere
open_at_first ds = λ j l. absurd (omega arith)

fixed_more : (ds : List (List Span)) (i : ℕ) (spot : Open) → IsFixed (domain_at ds i) → ShowsOpen ds i spot → ShowsOpen ds (i + 1) spot
fixed_more ds i Open.Nowhere f s = λ j l. elim (cases_eq j i) [ inl e ↦ subst (λ (k : ℕ). IsFixed (domain_at ds k)) (sym e) f | inr o ↦ s j (omega arith) ]
fixed_more ds i (Open.Once p) f s = (omega (arith, s.0), s.1, λ j l other. elim (cases_eq j i) [ inl e ↦ subst (λ (k : ℕ). IsFixed (domain_at ds k)) (sym e) f | inr o ↦ s.2 j (omega arith) other ])
fixed_more ds i Open.Often f s = (s.0, s.1, s.2, omega (arith, s.3), s.4, s.5)

open_more : (ds : List (List Span)) (i : ℕ) (spot : Open) → (IsFixed (domain_at ds i) → ⊥) → ShowsOpen ds i spot → ShowsOpen ds (i + 1) (seen_open spot i false)
open_more ds i Open.Nowhere f s = (omega arith, f, λ j l other. s j (omega arith))
open_more ds i (Open.Once p) f s = (p, i, s.0, omega arith, s.1, f)
open_more ds i Open.Often f s = (s.0, s.1, s.2, omega (arith, s.3), s.4, s.5)

pub open_seen : (ds : List (List Span)) (i : ℕ) (spot : Open) (fixed : Bool) → IsTrue fixed ↔ IsFixed (domain_at ds i) → ShowsOpen ds i spot → ShowsOpen ds (i + 1) (seen_open spot i fixed)
open_seen ds i spot true f s = fixed_more ds i spot (f.0 refl) s
open_seen ds i spot false f s = open_more ds i spot (λ h. let e : false ≡ true = f.1 h in absurd (cc)) s

pub fixed_behind : (ds : List (List Span)) (first i : ℕ) (fixed : Bool) → IsTrue fixed ↔ IsFixed (domain_at ds (first + i)) → IsTrue fixed ↔ IsFixed (domain_at (drop first ds) i)
fixed_behind ds first i fixed f =
    let same : domain_at ds (first + i) ≡ domain_at (drop first ds) i = sym (get_or-drop first ds i []) in
    (λ t. subst IsFixed same (f.0 t), λ h. f.1 (subst IsFixed (sym same) h))

-- ---- roots

pub same_bits : (x y a b : ℤ) → a ≡ x → b ≡ y → FitsSigned w128 x → FitsSigned w128 y → IsTrue (nat_eq (of_z w128 a) (of_z w128 b)) ↔ (x ≡ y)
same_bits x y a b e f p q = (
  λ t. let bits : of_z w128 a ≡ of_z w128 b = eqb-true (of_z w128 a) (of_z w128 b) t in
      sym (to_z-of_z w128 x p) ∙ (ap (λ (z : ℤ). to_z w128 (of_z w128 z)) (sym e) ∙ (ap (to_z w128) bits ∙ (ap (λ (z : ℤ). to_z w128 (of_z w128 z)) f ∙ to_z-of_z w128 y q))),
  λ h. eq-eqb (of_z w128 a) (of_z w128 b) (ap (of_z w128) (e ∙ (h ∙ sym f))),
)

negative_abs : (r : ℤ) → nat_abs (neg_ℤ r) ≡ nat_abs r
negative_abs r = omega (arith, ints)

pub root_fits : (c rest q : ℤ) → c ≢ pos 0 → nat_abs c ≤ 2 ^ 40 → nat_abs rest ≤ 2 ^ 120 → q ≡ int_div_euclid (neg_ℤ rest) c → FitsSigned w128 (c *ℤ q)
root_fits c rest q o n r d =
    let small : nat_abs (c *ℤ q) ≤ nat_abs (neg_ℤ rest) + nat_abs c = root_small c (neg_ℤ rest) q o d in
    let same : nat_abs (neg_ℤ rest) ≡ nat_abs rest = negative_abs rest in
    fits_signed_from_abs w128 (c *ℤ q) (omega arith)

pub cut_root : (ds es : List (List Span)) (k : ℕ) (c rest q b : ℤ) → b ≡ q → c ≢ pos 0 → q ≡ int_div_euclid (neg_ℤ rest) c → c *ℤ q ≡ neg_ℤ rest → IsCutAt k (λ n. not (int_eq n b)) ds es → IsCutAt k (is_no_root c rest) ds es
cut_root ds es k c rest q b e o d root f =
    cut_like ds es k (λ n. not (int_eq n b)) (is_no_root c rest) (λ n. ap (λ (z : ℤ). not (int_eq n z)) e ∙ removed_is c rest n q o d root) f

pub keep_root : (ds : List (List Span)) (k : ℕ) (c rest q : ℤ) → c ≢ pos 0 → q ≡ int_div_euclid (neg_ℤ rest) c → (c *ℤ q ≡ neg_ℤ rest → ⊥) → IsCutAt k (is_no_root c rest) ds ds
keep_root ds k c rest q o d none = cut_like ds ds k (λ n. true) (is_no_root c rest) (λ n. kept_is c rest n q o d none) (cut_none ds k)

-- ---- the places of a sum

abbrev pub all_roots : List (ℤ × ℕ) → ℤ → ℕ → List (List Span) → ℕ → ℤ → Bool
all_roots ts sum first ds j n = is_no_root (coefficient_at ts j) (sum -ℤ least_part (coefficient_at ts j) (domain_at ds (first + j))) n

pub next_root : (first i : ℕ) (ts : List (ℤ × ℕ)) (sum : ℤ) (ds es fs : List (List Span)) → AreCutFrom first i (all_roots ts sum first ds) ds es
    → IsCutAt (first + i) (is_no_root (coefficient_at ts i) (sum -ℤ least_part (coefficient_at ts i) (domain_at es (first + i)))) es fs → AreCutFrom first (i + 1) (all_roots ts sum first ds) ds fs
next_root first i ts sum ds es fs f g =
    cut_from_more first i (all_roots ts sum first ds) ds es fs f
    (subst (λ (d : List Span). IsCutAt (first + i) (is_no_root (coefficient_at ts i) (sum -ℤ least_part (coefficient_at ts i) d)) es fs) (f.behind i (omega arith)) g)

shifted : (x m all part : ℤ) → (x +ℤ (m +ℤ (all -ℤ part))) ≡ (x +ℤ ((m +ℤ all) -ℤ part))
shifted x m all part = omega (arith, ints)

root_with : (first : ℕ) (ts : List (ℤ × ℕ)) (m sum : ℤ) (ds : List (List Span)) (j : ℕ) (n : ℤ) → length ds ≡ first + length ts → j < length ts → sum ≡ m +ℤ least_of_all ts (drop first ds)
    → all_roots ts sum first ds j n ≡ not (int_eq (least_with ts m (drop first ds) j n) (pos 0))
root_with first ts m sum ds j n c l e =
    let count : length (drop first ds) ≡ length ts = length-drop first ds ∙ omega arith in
    let same : domain_at ds (first + j) ≡ domain_at (drop first ds) j = sym (get_or-drop first ds j []) in
    let co : ℤ = coefficient_at ts j in
    (λ i. not (int_eq (co *ℤ n +ℤ (e i -ℤ least_part co (same i))) (pos 0)))
    ∙ ap (λ (z : ℤ). not (int_eq z (pos 0))) (sym (ap (λ (z : ℤ). co *ℤ n +ℤ (m +ℤ z)) (others_are ts (drop first ds) j count l) ∙ shifted (co *ℤ n) m (least_of_all ts (drop first ds)) (least_part co (domain_at (drop first ds) j))))

pub every_root : (first : ℕ) (ts : List (ℤ × ℕ)) (m sum : ℤ) (ds es : List (List Span)) → length ds ≡ first + length ts → sum ≡ m +ℤ least_of_all ts (drop first ds)
    → AreCutFrom first (length ts) (all_roots ts sum first ds) ds es → AreCutFrom first (length ts) (roots_keep Open.Nowhere ts m (drop first ds)) ds es
every_root first ts m sum ds es c e f = cut_from_like first (length ts) (all_roots ts sum first ds) (roots_keep Open.Nowhere ts m (drop first ds)) ds es (λ j n l. root_with first ts m sum ds j n c l e) f

once_here : (first i : ℕ) (ts : List (ℤ × ℕ)) (m sum : ℤ) (ds : List (List Span)) (n : ℤ) → length ds ≡ first + length ts → i < length ts → sum ≡ m +ℤ least_of_all ts (drop first ds)
    → all_roots ts sum first ds i n ≡ roots_keep (Open.Once i) ts m (drop first ds) i n
once_here first i ts m sum ds n c l e = root_with first ts m sum ds i n c l e ∙ sym (ap (λ (b : Bool). cond b (not (int_eq (least_with ts m (drop first ds) i n) (pos 0))) true) (eq-eqb i i refl))

once_elsewhere : (i j : ℕ) (ts : List (ℤ × ℕ)) (m : ℤ) (ds : List (List Span)) (n : ℤ) → (j ≡ i → ⊥) → true ≡ roots_keep (Open.Once i) ts m ds j n
once_elsewhere i j ts m ds n o = sym (ap (λ (b : Bool). cond b (not (int_eq (least_with ts m ds j n) (pos 0))) true) (ne_eqb j i o))

pub one_root : (first i : ℕ) (ts : List (ℤ × ℕ)) (m sum : ℤ) (ds es : List (List Span)) → length ds ≡ first + length ts → i < length ts → sum ≡ m +ℤ least_of_all ts (drop first ds)
    → IsCutAt (first + i) (is_no_root (coefficient_at ts i) (sum -ℤ least_part (coefficient_at ts i) (domain_at ds (first + i)))) ds es → AreCutFrom first (length ts) (roots_keep (Open.Once i) ts m (drop first ds)) ds es
one_root first i ts m sum ds es c l e f =
    cut_from_one first i (length ts) (roots_keep (Open.Once i) ts m (drop first ds)) ds es l (λ j n o. once_elsewhere i j ts m (drop first ds) n o)
    (cut_like ds es (first + i) (all_roots ts sum first ds i) (roots_keep (Open.Once i) ts m (drop first ds) i) (λ n. once_here first i ts m sum ds n c l e) f)

pub no_root : (first : ℕ) (ts : List (ℤ × ℕ)) (m : ℤ) (ds : List (List Span)) → AreCutFrom first (length ts) (roots_keep Open.Often ts m (drop first ds)) ds ds
no_root first ts m ds = cut_from_all first (length ts) (roots_keep Open.Often ts m (drop first ds)) ds (λ j n. refl)
