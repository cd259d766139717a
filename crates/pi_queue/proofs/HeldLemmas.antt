-- What is read of spans by their numbers.
use Rattle.std.specs.Prelude.{◌≡◌, ◌↔◌, ℕ, zero, suc, ◌+◌, ◌-◌, ◌<◌, ◌≤◌, Bool, true, false, ◌&&◌, not, IsTrue, List, [], ◌∷◌, ◌++◌, length, take, slice_get, Some, ℤ, pos, neg_ℤ, ◌≤ℤ◌, int_le, int_lt, refl}
use Rattle.std.specs.Ordering.{int_eq}
use Rattle.std.specs.List.Sorted.{IsPartitionPoint}
use Rattle.std.proofs.Common.{arith, sym, ◌∙◌, ap, subst, get_or, append_assoc}
use Rattle.std.proofs.lemmas.Bool.{false≢true}
use Rattle.std.proofs.lemmas.Int.{ints}
use Rattle.std.proofs.lemmas.List.{take_more, take_all}
use Rattle.std.proofs.lemmas.Option.{get_or_from_slice_get}
use Rattle.pi_constraints.specs.declared.domain.Span.{Span}
use Rattle.pi_constraints.specs.declared.domain.TheConstants.{MAX_VALUE}
use Rattle.pi_constraints.specs.Domain.{AscendFrom, IsDomain, IsWithinBounds, has_value}
use Rattle.pi_constraints.proofs.ExtremeLemmas.{AscendFrom-ends_rise}
use Rattle.pi_prop_spec.specs.Ends.{least_of, greatest_of}
use Rattle.pi_prop_spec.proofs.EndLemmas.{least-below, greatest-above}
use Rattle.pi_prop_places.specs.Reads.{HasValueBetween}
use Rattle.pi_constraints.specs.State.{State}
use Rattle.pi_queue.specs.Standing.{IsStand, span_of, standing}
use Rattle.pi_queue.specs.declared.stand.Stand.{Stand}

-- ---- one span

pub one-domain : (n : ℤ) → IsWithinBounds n → IsDomain (span_of n)
unfolding AscendFrom
one-domain n b = (b.0, omega (arith, ints), b.1, tt)

pub none-domain : IsDomain []
unfolding AscendFrom
none-domain = tt

pub one-span : (n : ℤ) (k : ℕ) (s : Span) → s ≡ record { lo = n; hi = n } → k < length (span_of n) → slice_get (span_of n) k ≡ Some s
one-span n zero s e l = ap Some (sym e)
one-span n (suc k) s e l = absurd (omega arith)

pub nowhere-domain : (s : State) (stand : Stand) → stand ≡ Stand.Nowhere → IsDomain (standing s stand)
nowhere-domain s stand is = subst (λ (x : Stand). IsDomain (standing s x)) (sym is) none-domain

pub one-stands : (s : State) (stand : Stand) (n : ℤ) → stand ≡ Stand.One n → IsStand stand → IsDomain (standing s stand)
one-stands s stand n is b = subst (λ (x : Stand). IsDomain (standing s x)) (sym is) (one-domain n (subst IsStand is b))

-- ---- the ends

pub last-at : (d : List Span) (n : ℕ) (s : Span) → n ≡ length d → (n ≡ 0 → ⊥) → (n - 1 < length d → slice_get d (n - 1) ≡ Some s) → slice_get d (length d - 1) ≡ Some s
last-at d zero s e not at = absurd (not refl)
last-at d (suc n) s e not at = subst (λ (m : ℕ). slice_get d (m - 1) ≡ Some s) e (at (omega (arith, e)))

pub first-at : (d : List Span) (n : ℕ) (s : Span) → n ≡ length d → (n ≡ 0 → ⊥) → (0 < length d → slice_get d 0 ≡ Some s) → slice_get d 0 ≡ Some s
first-at d zero s e not at = absurd (not refl)
first-at d (suc n) s e not at = at (omega (arith, e))

pub nothing-left : (d : List Span) → length d ≡ 0 → d ≡ []
nothing-left [] e = refl
nothing-left (s ∷ d) e = absurd (omega arith)

pub some-left : (d : List Span) → d ≡ [] → length d ≡ 0
some-left d e = ap length e

pub first-is : (d : List Span) (s : Span) → slice_get d 0 ≡ Some s → s.lo ≡ least_of d
first-is [] s e = absurd (cc)
first-is (t ∷ ss) s e = let same : t ≡ s = cc in ap (λ (x : Span). x.lo) (sym same)

pub none-least : (d : List Span) → length d ≡ 0 → pos 0 ≡ least_of d
none-least d e = ap least_of (sym (nothing-left d e))

pub none-greatest : (d : List Span) → length d ≡ 0 → pos 0 ≡ greatest_of d
unfolding greatest_of
none-greatest d e = ap greatest_of (sym (nothing-left d e))

-- ---- spans that are put behind others

pub put-more : (old new before ss : List Span) (k : ℕ) (s : Span) → k < length ss → slice_get ss k ≡ Some s → new ≡ old ++ s ∷ [] → old ≡ before ++ take k ss → new ≡ before ++ take (k + 1) ss
put-more old new before ss k s l at e h =
    e ∙ (ap (λ xs. xs ++ s ∷ []) h ∙ (append_assoc before (take k ss) (s ∷ []) ∙ (ap (λ (x : Span). before ++ (take k ss ++ x ∷ [])) (sym (get_or_from_slice_get ss k s s at)) ∙ ap (λ xs. before ++ xs) (sym (take_more ss k s l)))))

pub put-all : (new before ss : List Span) (k : ℕ) → length ss ≤ k → new ≡ before ++ take k ss → new ≡ before ++ ss
put-all new before ss k l h = h ∙ ap (λ xs. before ++ xs) (take_all k ss l)

-- ---- where spans end below a number

-- all spans before `low` end below it, and none from `high` on does
pub record LiesBetween (ss : List Span) (n : ℤ) (low high : ℕ) : Type 0 where
  pub order : low ≤ high
  pub inside : high ≤ length ss
  pub before : (k : ℕ) (e : Span) → k < low → int_lt (get_or ss k e).hi n ≡ true
  pub behind : (k : ℕ) (e : Span) → high ≤ k → k < length ss → int_lt (get_or ss k e).hi n ≡ false

pub lies-first : (ss : List Span) (n : ℤ) (high : ℕ) → high ≡ length ss → LiesBetween ss n 0 high
lies-first ss n high e = record { order = omega arith; inside = omega (arith, e); before = λ k e l. absurd (omega arith); behind = λ k s l m. absurd (omega (arith, e, l, m)) }

below-too : (n a b : ℤ) → a ≤ℤ b → int_lt b n ≡ true → int_lt a n ≡ true
below-too n a b h t = grind (arith, ints)

not-below-too : (n a b : ℤ) → a ≤ℤ b → int_lt a n ≡ false → int_lt b n ≡ false
not-below-too n a b h t = grind (arith, ints)

pub lies-above : (ss : List Span) (n : ℤ) (low high middle : ℕ) (s : Span) (t : Bool) → IsDomain ss → low ≤ middle → middle < high → slice_get ss middle ≡ Some s → t ≡ int_lt s.hi n → t ≡ true → LiesBetween ss n low high → LiesBetween ss n (middle + 1) high
lies-above ss n low high middle s t up l m at is hit h = record {
  order = omega (arith, m);
  inside = h.inside;
  before = λ k e b.
      let i = h.inside in
      let rise = AscendFrom-ends_rise (neg_ℤ MAX_VALUE) ss k middle e up (omega (arith, b)) (omega (arith, m, i)) in
      below-too n (get_or ss k e).hi (get_or ss middle e).hi rise (ap (λ (x : Span). int_lt x.hi n) (get_or_from_slice_get ss middle s e at) ∙ (sym is ∙ hit));
  behind = h.behind;
}

pub lies-below : (ss : List Span) (n : ℤ) (low high middle : ℕ) (s : Span) (t : Bool) → IsDomain ss → low ≤ middle → middle < high → slice_get ss middle ≡ Some s → t ≡ int_lt s.hi n → t ≡ false → LiesBetween ss n low high → LiesBetween ss n low middle
lies-below ss n low high middle s t up l m at is miss h = record {
  order = l;
  inside = let i = h.inside in omega (arith, m, i);
  before = h.before;
  behind = λ k e b c.
      let rise = AscendFrom-ends_rise (neg_ℤ MAX_VALUE) ss middle k e up b c in
      not-below-too n (get_or ss middle e).hi (get_or ss k e).hi rise (ap (λ (x : Span). int_lt x.hi n) (get_or_from_slice_get ss middle s e at) ∙ (sym is ∙ miss));
}

pub lies-there : (ss : List Span) (n : ℤ) (low high : ℕ) → high ≤ low → LiesBetween ss n low high → IsPartitionPoint (λ s. int_lt s.hi n ≡ true) (λ s. int_lt s.hi n ≡ false) ss low
lies-there ss n low high l h = (λ k e inside b. h.before k e (omega arith), λ k e b inside. h.behind k e (omega (arith, l, b)) inside)

-- ---- values that don't go

and-idle : (b c : Bool) → (b ≡ true → c ≡ true) → b ≡ (b && c)
and-idle true c h = sym (h refl)
and-idle false c h = refl

pub none-below : (d : List Span) (n : ℤ) → IsDomain d → n ≤ℤ least_of d → (m : ℤ) → has_value d m ≡ (has_value d m && int_le n m)
none-below d n up l m = and-idle (has_value d m) (int_le n m) (λ h. let low : least_of d ≤ℤ m = least-below d m up h in grind (arith, ints))

pub none-above : (d : List Span) (n : ℤ) → IsDomain d → greatest_of d ≤ℤ n → (m : ℤ) → has_value d m ≡ (has_value d m && int_le m n)
none-above d n up l m = and-idle (has_value d m) (int_le m n) (λ h. let high : m ≤ℤ greatest_of d = greatest-above d m up h in grind (arith, ints))

not-same : (m n : ℤ) → (m ≡ n → ⊥) → not (int_eq m n) ≡ true
not-same m n other = grind (arith, ints)

pub none-there : (d : List Span) (n : ℤ) (t : Bool) → (IsTrue t ↔ HasValueBetween d n n) → t ≡ false → (m : ℤ) → has_value d m ≡ (has_value d m && not (int_eq m n))
none-there d n t has none m = and-idle (has_value d m) (not (int_eq m n)) (λ h. not-same m n (λ e. false≢true (sym none ∙ has.1 (m, h, omega (arith, ints, e), omega (arith, ints, e)))))

pub all-within : (d e : List Span) → ((m : ℤ) → IsTrue (has_value d m) → IsTrue (has_value e m)) → (m : ℤ) → has_value d m ≡ (has_value d m && has_value e m)
all-within d e all m = and-idle (has_value d m) (has_value e m) (all m)
