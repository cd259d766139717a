-- What two lists of spans share, span by span.
use Rattle.std.specs.Prelude.{◌≡◌, Bool, true, false, ◌&&◌, ◌||◌, List, [], ◌∷◌, ◌++◌, ℤ, pos, ◌+ℤ◌, neg_ℤ, ◌≤ℤ◌, ◌<ℤ◌, int_le, refl, cond, ◌⊎◌, Result, Ok, Err, IfOk}
use Rattle.std.specs.Int.{int_max, int_min}
use Rattle.std.proofs.Common.{ℕ, ◌<◌, ◌≤◌, ◌+◌, length, get_or, drop, drop-cons, add-one, arith, sym, ◌∙◌, ap, subst, inl, inr}
use Rattle.std.proofs.lemmas.Int.{ints, clamps, by_lt_z}
use Rattle.std.proofs.lemmas.List.{drop_all}
use Rattle.pi_constraints.specs.declared.domain.TheConstants.{MAX_VALUE}
use Rattle.pi_constraints.specs.declared.domain.Span.{Span}
use Rattle.pi_constraints.specs.Domain.{AscendFrom, IsDomain, span_has, has_value, overlap, common}
use Rattle.pi_constraints.proofs.DomainLemmas.{same_values_same_domain}
use Rattle.pi_constraints.proofs.CommonLemmas.{AscendFrom-overlap, has_value-overlap, IsDomain-common, has_value-common}
use Rattle.pi_constraints.proofs.SpanLemmas.{AscendFrom-lower, AscendFrom-tail, AscendFrom-append, AscendFrom-drop, has_value-below, has_value-append, next_start, next_start-append}

-- what a body makes of a start and an end
span_or_none : ℤ → ℤ → List Span
span_or_none lo hi = cond (int_le lo hi) ((record { lo = lo; hi = hi }) ∷ []) []

made : (a b : Span) (lo hi : ℤ) → lo ≡ int_max a.lo b.lo → hi ≡ int_min a.hi b.hi → span_or_none lo hi ≡ overlap a b
unfolding overlap span_or_none
made a b lo hi l h = ap (λ (x : ℤ). span_or_none x hi) l ∙ ap (λ (x : ℤ). span_or_none (int_max a.lo b.lo) x) h

pub overlap-some : (a b : Span) (lo hi : ℤ) → lo ≡ int_max a.lo b.lo → hi ≡ int_min a.hi b.hi → lo ≤ℤ hi → (record { lo = lo; hi = hi }) ∷ [] ≡ overlap a b
unfolding span_or_none
overlap-some a b lo hi l h e =
    let t : int_le lo hi ≡ true = grind (arith, ints) in
    sym (ap (λ (x : Bool). cond x ((record { lo = lo; hi = hi }) ∷ []) []) t) ∙ made a b lo hi l h

pub overlap-none : (a b : Span) (lo hi : ℤ) → lo ≡ int_max a.lo b.lo → hi ≡ int_min a.hi b.hi → hi <ℤ lo → [] ≡ overlap a b
unfolding span_or_none
overlap-none a b lo hi l h e =
    let t : int_le lo hi ≡ false = grind (arith, ints) in
    sym (ap (λ (x : Bool). cond {A = List Span} x ((record { lo = lo; hi = hi }) ∷ []) []) t) ∙ made a b lo hi l h

-- what is shared so far, and what of the two domains is still to be looked at
pub record Shares (d e shared ds es : List Span) : Type 0 where
  pub domain : IsDomain shared
  pub follows : AscendFrom (next_start (neg_ℤ MAX_VALUE) shared) ds ⊎ AscendFrom (next_start (neg_ℤ MAX_VALUE) shared) es
  pub values : (n : ℤ) → (has_value d n && has_value e n) ≡ (has_value shared n || (has_value ds n && has_value es n))

pub Shares-none : (d e : List Span) → IsDomain d → Shares d e [] d e
unfolding AscendFrom next_start has_value
Shares-none d e up = record { domain = tt; follows = inl up; values = λ n. refl }

exchanged : (p q o r s : Bool) → (p && q) ≡ (o || (r && s)) → (q && p) ≡ (o || (s && r))
exchanged true true o true true h = h
exchanged true true o true false h = h
exchanged true true o false true h = h
exchanged true true o false false h = h
exchanged true false o true true h = h
exchanged true false o true false h = h
exchanged true false o false true h = h
exchanged true false o false false h = h
exchanged false true o true true h = h
exchanged false true o true false h = h
exchanged false true o false true h = h
exchanged false true o false false h = h
exchanged false false o true true h = h
exchanged false false o true false h = h
exchanged false false o false true h = h
exchanged false false o false false h = h

pub Shares-exchange : (d e shared ds es : List Span) → Shares d e shared ds es → Shares e d shared es ds
Shares-exchange d e shared ds es h = record {
  domain = h.domain;
  follows = elim h.follows [ inl x ↦ inr x | inr x ↦ inl x ];
  values = λ n. exchanged (has_value d n) (has_value e n) (has_value shared n) (has_value ds n) (has_value es n) (h.values n);
}

pub overlap-exchange : (a b : Span) → overlap a b ≡ overlap b a
unfolding overlap
overlap-exchange a b =
    let l : int_max a.lo b.lo ≡ int_max b.lo a.lo = omega (arith, ints, clamps) in
    let h : int_min a.hi b.hi ≡ int_min b.hi a.hi = omega (arith, ints, clamps) in
    ap (λ (x : ℤ). cond (int_le x (int_min a.hi b.hi)) ((record { lo = x; hi = int_min a.hi b.hi }) ∷ []) []) l
    ∙ ap (λ (x : ℤ). cond (int_le (int_max b.lo a.lo) x) ((record { lo = int_max b.lo a.lo; hi = x }) ∷ []) []) h

-- a span and spans that begin above its end share nothing
apart : (a : Span) (least : ℤ) (ss : List Span) (n : ℤ) → a.hi <ℤ least → AscendFrom least ss → (span_has a n && has_value ss n) ≡ false
apart a least ss n h up = by_lt_z n least
    (λ below. let none : has_value ss n ≡ false = has_value-below least ss n up below in grind (arith, none))
    (λ above. let none : span_has a n ≡ false = grind (arith, ints) in grind (arith, none))

stepped : (o p q r s : Bool) → (p && q) ≡ false → (p && s) ≡ false → (o || ((p || q) && (r || s))) ≡ ((o || (p && r)) || (q && (r || s)))
stepped true p q r s g h = refl
stepped false false q r s g h = refl
stepped false true true r s g h = cc
stepped false true false true s g h = refl
stepped false true false false s g h = h

follows_step : (x least : ℤ) (a b s : Span) (ds es : List Span) (c : Bool) → s.hi ≡ a.hi → AscendFrom least (a ∷ ds) → AscendFrom x (a ∷ ds) ⊎ AscendFrom x (b ∷ es)
    → AscendFrom (next_start x (cond c (s ∷ []) [])) ds ⊎ AscendFrom (next_start x (cond c (s ∷ []) [])) (b ∷ es)
unfolding AscendFrom next_start
follows_step x least a b s ds es true e up h = inl (AscendFrom-lower (s.hi +ℤ pos 2) (a.hi +ℤ pos 2) ds (omega (arith, ints)) up.3)
follows_step x least a b s ds es false e up (inl h) = inl (AscendFrom-tail x a ds h)
follows_step x least a b s ds es false e up (inr h) = inr h

follows_overlap : (x least : ℤ) (a b : Span) (ds es : List Span) → a.hi ≤ℤ b.hi → AscendFrom least (a ∷ ds) → AscendFrom x (a ∷ ds) ⊎ AscendFrom x (b ∷ es)
    → AscendFrom (next_start x (overlap a b)) ds ⊎ AscendFrom (next_start x (overlap a b)) (b ∷ es)
unfolding overlap
follows_overlap x least a b ds es le up h =
    follows_step x least a b (record { lo = int_max a.lo b.lo; hi = int_min a.hi b.hi }) ds es (int_le (int_max a.lo b.lo) (int_min a.hi b.hi)) (omega (arith, ints, clamps)) up h

starts : (x : ℤ) (a b : Span) (ds es : List Span) → AscendFrom x (a ∷ ds) ⊎ AscendFrom x (b ∷ es) → (x ≤ℤ a.lo) ⊎ (x ≤ℤ b.lo)
unfolding AscendFrom
starts x a b ds es (inl h) = inl h.0
starts x a b ds es (inr h) = inr h.0

-- the span that ends no higher is done with
pub Shares-step : (d e shared : List Span) (a b : Span) (ds es : List Span) → IsDomain (a ∷ ds) → IsDomain (b ∷ es) → a.hi ≤ℤ b.hi → Shares d e shared (a ∷ ds) (b ∷ es)
    → Shares d e (shared ++ overlap a b) ds (b ∷ es)
unfolding AscendFrom has_value
Shares-step d e shared a b ds es up vp le h = record {
  domain = AscendFrom-append (neg_ℤ MAX_VALUE) shared (overlap a b) h.domain (AscendFrom-overlap (next_start (neg_ℤ MAX_VALUE) shared) a b (starts (next_start (neg_ℤ MAX_VALUE) shared) a b ds es h.follows) up.2);
  follows = subst (λ (x : ℤ). AscendFrom x ds ⊎ AscendFrom x (b ∷ es)) (sym (next_start-append (neg_ℤ MAX_VALUE) shared (overlap a b)))
      (follows_overlap (next_start (neg_ℤ MAX_VALUE) shared) (neg_ℤ MAX_VALUE) a b ds es le up h.follows);
  values = λ n.
      let own : (span_has a n && has_value ds n) ≡ false = apart a (a.hi +ℤ pos 2) ds n (omega (arith, ints)) up.3 in
      let other : (span_has a n && has_value es n) ≡ false = apart a (b.hi +ℤ pos 2) es n (omega (arith, ints)) vp.3 in
      let parts : has_value (shared ++ overlap a b) n ≡ (has_value shared n || (span_has a n && span_has b n)) =
      has_value-append shared (overlap a b) n ∙ ap (λ (x : Bool). has_value shared n || x) (has_value-overlap a b n) in
      h.values n ∙ (stepped (has_value shared n) (span_has a n) (has_value ds n) (span_has b n) (has_value es n) own other
      ∙ ap (λ (x : Bool). x || (has_value ds n && (span_has b n || has_value es n))) (sym parts));
}

drop_step : (ss : List Span) (i : ℕ) (z : Span) → i < length ss → drop i ss ≡ get_or ss i z ∷ drop (i + 1) ss
drop_step ss i z h = rw (add-one, drop-cons ss i z) refl

no_more : (p q o r : Bool) → (p && q) ≡ (o || (r && false)) → o ≡ (p && q)
no_more p q o true h = grind (arith, h)
no_more p q o false h = grind (arith, h)

-- nothing is left of the first domain, or of the second
pub Shares-end : (d e shared es : List Span) → Shares d e shared [] es → (n : ℤ) → has_value shared n ≡ (has_value d n && has_value e n)
unfolding has_value
Shares-end d e shared es h n = let v : (has_value d n && has_value e n) ≡ (has_value shared n || false) = h.values n in grind (arith, v)

pub Shares-end_other : (d e shared ds : List Span) → Shares d e shared ds [] → (n : ℤ) → has_value shared n ≡ (has_value d n && has_value e n)
unfolding has_value
Shares-end_other d e shared ds h n = no_more (has_value d n) (has_value e n) (has_value shared n) (has_value ds n) (h.values n)

-- a step over the first list, and one over the second
pub Shares-next : (d e shared new : List Span) (i j : ℕ) (z : Span) → IsDomain d → IsDomain e → i < length d → j < length e → Shares d e shared (drop i d) (drop j e)
    → (get_or d i z).hi ≤ℤ (get_or e j z).hi → new ≡ shared ++ overlap (get_or d i z) (get_or e j z) → Shares d e new (drop (i + 1) d) (drop j e)
Shares-next d e shared new i j z up vp hi hj h le is =
    let ds : drop i d ≡ get_or d i z ∷ drop (i + 1) d = drop_step d i z hi in
    let es : drop j e ≡ get_or e j z ∷ drop (j + 1) e = drop_step e j z hj in
    let before : Shares d e shared (get_or d i z ∷ drop (i + 1) d) (get_or e j z ∷ drop (j + 1) e) =
    subst (λ (x : List Span). Shares d e shared x (get_or e j z ∷ drop (j + 1) e)) ds (subst (λ (x : List Span). Shares d e shared (drop i d) x) es h) in
    let after = Shares-step d e shared (get_or d i z) (get_or e j z) (drop (i + 1) d) (drop (j + 1) e)
    (subst IsDomain ds (AscendFrom-drop (neg_ℤ MAX_VALUE) i d up)) (subst IsDomain es (AscendFrom-drop (neg_ℤ MAX_VALUE) j e vp)) le before in
    subst (λ (x : List Span). Shares d e new (drop (i + 1) d) x) (sym es) (subst (λ (x : List Span). Shares d e x (drop (i + 1) d) (get_or e j z ∷ drop (j + 1) e)) (sym is) after)

pub Shares-next_other : (d e shared new : List Span) (i j : ℕ) (z : Span) → IsDomain d → IsDomain e → i < length d → j < length e → Shares d e shared (drop i d) (drop j e)
    → (get_or e j z).hi ≤ℤ (get_or d i z).hi → new ≡ shared ++ overlap (get_or d i z) (get_or e j z) → Shares d e new (drop i d) (drop (j + 1) e)
Shares-next_other d e shared new i j z up vp hi hj h le is =
    Shares-exchange e d new (drop (j + 1) e) (drop i d)
    (Shares-next e d shared new j i z vp up hj hi (Shares-exchange d e shared (drop i d) (drop j e) h) le
    (is ∙ ap (λ (x : List Span). shared ++ x) (overlap-exchange (get_or d i z) (get_or e j z))))

pub Shares-over : (d e shared : List Span) (i j : ℕ) → (length d ≤ i) ⊎ (length e ≤ j) → Shares d e shared (drop i d) (drop j e) → (n : ℤ) → has_value shared n ≡ (has_value d n && has_value e n)
Shares-over d e shared i j (inl h) all = Shares-end d e shared (drop j e) (subst (λ (x : List Span). Shares d e shared x (drop j e)) (drop_all i d h) all)
Shares-over d e shared i j (inr h) all = Shares-end_other d e shared (drop i d) (subst (λ (x : List Span). Shares d e shared (drop i d) x) (drop_all j e h) all)

pub is_common : {E : Type 0} (d e : List Span) (made : Result (List Span) E) → IsDomain d → IsDomain e → IfOk made (λ m. IsDomain m) → IfOk made (λ m. (n : ℤ) → has_value m n ≡ (has_value d n && has_value e n)) → IfOk made (λ m. m ≡ common d e)
is_common d e (Ok m) up is good values = same_values_same_domain m (common d e) good (IsDomain-common d e up is) (λ n. values n ∙ sym (has_value-common d e n))
is_common d e (Err x) up is good values = tt
