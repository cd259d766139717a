-- Labelling comes to its end: each alternative makes the domains of a state narrower, and settling makes none wider.
use Rattle.std.specs.Prelude.{◌≡◌, ◌≢◌, ◌⊎◌, ℕ, zero, suc, ◌+◌, ◌*◌, ◌/◌, ◌%◌, ◌<◌, ◌≤◌, ℤ, pos, negsuc, ◌+ℤ◌, ◌≤ℤ◌, ◌<ℤ◌, int_le, not, IsTrue, List, [], ◌∷◌, length, map, reverse, get_or, set, Option, Some, None, ⊤, refl}
use Rattle.std.specs.Int.{int_gap}
use Rattle.std.specs.Ordering.{is_eq, int_cmp}
use Rattle.std.proofs.Common.{arith, ◌∙◌, ap, subst, inl, inr}
use Rattle.std.proofs.lemmas.Nat.{div-add-mod', mod_below}
use Rattle.std.proofs.lemmas.Int.{ints}
use Rattle.std.proofs.lemmas.List.Elements.{Contains-get_or}
use Rattle.pi_terms.specs.Tree.{int}
use Rattle.pi_constraints.specs.declared.constraint.Item.{Item}
use Rattle.pi_constraints.specs.declared.domain.Span.{Span}
use Rattle.pi_constraints.specs.Domain.{IsDomain, has_value, values_of, size_of}
use Rattle.pi_constraints.proofs.DomainLemmas.{gap_is, values_ascend, values_lie_in_spans}
use Rattle.pi_constraints.proofs.CommonLemmas.{two_values}
use Rattle.pi_prop_spec.specs.Ends.{least_of, greatest_of}
use Rattle.pi_prop_spec.proofs.EndLemmas.{least-has, greatest-has, least-below, greatest-above}
use Rattle.pi_traces.specs.Trace.{Trace, end, note, ans, Done, done, one, alt, then, end_of}
use Rattle.pi_constraints.specs.State.{State, Variable, free, within, bound, domain_in, domain_of, IsState}
use Rattle.pi_constraints.proofs.StateLemmas.{variable, domain_good}
use Rattle.pi_settling.specs.Roots.{domain_or_all, given}
use Rattle.pi_settling.specs.Stable.{Stays, Narrows, stays_free, stays_bound, some_stay, one_stays, IsStable}
use Rattle.pi_settling.specs.Load.{load, load_of_failure}
use Rattle.pi_settling.specs.Settled.{loaded, IsSettled}
use Rattle.pi_settling.specs.SettlingLaws.{Settles}
use Rattle.pi_settling.proofs.TwiceLemmas.{has_in}
use Rattle.pi_settling.proofs.UniqueLemmas.{domain_made}
use Rattle.pi_settling.specs.Options.{ValueWord, up, down, split, reverse_split, Options}
use Rattle.pi_settling.specs.Choices.{Pending, pending, picked, Alternative, is_value, at_most, above, allows, halved, middle, alternatives, left_by, with_values, narrowed_to}
use Rattle.pi_settling.specs.Label.{Settling, Lower, one_tried, all_tried, labelled_by, labelled_at}
use Rattle.pi_settling.specs.SolutionLaws.{RunsWhatWaits}
use Rattle.pi_settling.specs.KeepLaws.{LabellingEnds}
use Rattle.pi_settling.proofs.LabelNarrows.{left_is_a_domain, left-of}
use Rattle.pi_settling.proofs.LabelKeeps.{end-loaded, none-followed, one-followed, GoesOnFrom, stable-goes_on, no-events, narrowed-goes_on, HasItsDomain, MayHave, all-have, picked-has}

-- ---- the middle of a domain

half-bounds : (z : ℤ) → ((halved z +ℤ halved z) ≤ℤ z) × (z ≤ℤ ((halved z +ℤ halved z) +ℤ pos 1))
half-bounds (pos n) = let whole : n / 2 * 2 + n % 2 ≡ n = div-add-mod' n 2 in let small : n % 2 < 2 = mod_below n 2 (omega arith) in (omega (arith, ints), omega (arith, ints))
half-bounds (negsuc n) = let whole : n / 2 * 2 + n % 2 ≡ n = div-add-mod' n 2 in let small : n % 2 < 2 = mod_below n 2 (omega arith) in (omega (arith, ints), omega (arith, ints))

middle-between : (d : List Span) → least_of d <ℤ greatest_of d → (least_of d ≤ℤ middle d) × (middle d <ℤ greatest_of d)
middle-between d less = let b = half-bounds (least_of d +ℤ greatest_of d) in let low = b.0 in let high = b.1 in (omega (arith, ints, low, high), omega (arith, ints, low, high))

-- ---- how wide a domain is

width : List Span → ℕ
width d = int_gap (least_of d) (greatest_of d)

some-span : (d : List Span) → 2 ≤ size_of d → d ≢ []
unfolding values_of
some-span d two none = let many : size_of d ≡ size_of [] = ap size_of none in omega arith

ends-apart : (d : List Span) → IsDomain d → 2 ≤ size_of d → least_of d <ℤ greatest_of d
ends-apart d domain_d two =
    let vs : List ℤ = values_of d in
    let i : ℤ = get_or vs 0 (pos 0) in
    let j : ℤ = get_or vs 1 (pos 0) in
    let rise : i <ℤ j = values_ascend d domain_d 0 1 (pos 0) (omega arith) (omega arith) in
    let low : least_of d ≤ℤ i = least-below d i domain_d ((values_lie_in_spans d domain_d i).1 (Contains-get_or vs 0 (pos 0) (omega arith))) in
    let high : j ≤ℤ greatest_of d = greatest-above d j domain_d ((values_lie_in_spans d domain_d j).1 (Contains-get_or vs 1 (pos 0) (omega arith))) in
    omega (arith, ints)

width-is : (d : List Span) → least_of d ≤ℤ greatest_of d → least_of d +ℤ pos (width d) ≡ greatest_of d
unfolding width
width-is d ordered = gap_is (least_of d) (greatest_of d) ordered

-- a domain that lies below another one
record Below (d e : List Span) : Type 0 where
  low : least_of d ≤ℤ least_of e
  ordered : least_of e <ℤ greatest_of e
  high : greatest_of e ≤ℤ greatest_of d

below-by : (d e : List Span) → IsDomain d → IsDomain e → 2 ≤ size_of e → ((i : ℤ) → IsTrue (has_value e i) → IsTrue (has_value d i)) → Below d e
below-by d e domain_d domain_e two inside =
    let some : e ≢ [] = some-span e two in
    record {
      low = least-below d (least_of e) domain_d (inside (least_of e) (least-has e domain_e some));
      ordered = ends-apart e domain_e two;
      high = greatest-above d (greatest_of e) domain_d (inside (greatest_of e) (greatest-has e domain_e some));
    }

no-wider : (d e : List Span) → Below d e → width e ≤ width d
no-wider d e b =
    let low = b.low in
    let ordered = b.ordered in
    let high = b.high in
    let first = width-is e (omega (arith, ints)) in
    let second = width-is d (omega (arith, ints)) in
    omega (arith, ints)

narrower : (d e : List Span) → Below d e → (greatest_of e <ℤ greatest_of d) ⊎ (least_of d <ℤ least_of e) → width e < width d
narrower d e b (inl less) =
    let low = b.low in
    let ordered = b.ordered in
    let first = width-is e (omega (arith, ints)) in
    let second = width-is d (omega (arith, ints)) in
    omega (arith, ints)
narrower d e b (inr less) =
    let high = b.high in
    let ordered = b.ordered in
    let first = width-is e (omega (arith, ints)) in
    let second = width-is d (omega (arith, ints)) in
    omega (arith, ints)

wide : (d : List Span) → IsDomain d → 2 ≤ size_of d → 0 < width d
wide d domain_d two = let apart = ends-apart d domain_d two in let is = width-is d (omega (arith, ints)) in omega (arith, ints)

-- ---- alternatives cut a domain

abbrev Cuts : List Span → Alternative → Type 0
Cuts d (is_value m) = ⊤
Cuts d (at_most m) = m <ℤ greatest_of d
Cuts d (above m) = least_of d ≤ℤ m

unfoldable AllCut : List Span → List Alternative → Type 0
AllCut d [] = ⊤
AllCut d (x ∷ xs) = Cuts d x × AllCut d xs

values-cut : (d : List Span) (ns : List ℤ) → AllCut d (map is_value ns)
unfolding AllCut
values-cut d [] = tt
values-cut d (n ∷ ns) = (tt, values-cut d ns)

alternatives-cut : (w : ValueWord) (d : List Span) → least_of d <ℤ greatest_of d → AllCut d (alternatives w d)
unfolding AllCut
alternatives-cut up d less = values-cut d (values_of d)
alternatives-cut down d less = values-cut d (reverse (values_of d))
alternatives-cut split d less = let b = middle-between d less in (b.1, (b.0, tt))
alternatives-cut reverse_split d less = let b = middle-between d less in (b.0, (b.1, tt))

value-is : (m i : ℤ) → IsTrue (is_eq (int_cmp i m)) → i ≡ m
value-is m i h = grind (arith, ints, h)

at-most-is : (m i : ℤ) → IsTrue (int_le i m) → i ≤ℤ m
at-most-is m i h = grind (arith, ints, h)

above-is : (m i : ℤ) → IsTrue (not (int_le i m)) → m <ℤ i
above-is m i h = grind (arith, ints, h)

cut-narrower : (d : List Span) (x : Alternative) → IsDomain d → Cuts d x → 2 ≤ size_of (left_by x d) → width (left_by x d) < width d
cut-narrower d x domain_d cuts two =
    let e : List Span = left_by x d in
    let domain_e : IsDomain e = left_is_a_domain x d domain_d in
    let some : e ≢ [] = some-span e two in
    let b : Below d e = below-by d e domain_d domain_e two (λ i h. (left-of x d i domain_d h).0) in
    narrower d e b (by_kind x b.ordered cuts ((left-of x d (least_of e) domain_d (least-has e domain_e some)).1) ((left-of x d (greatest_of e) domain_d (greatest-has e domain_e some)).1))
  where
    by_kind : (y : Alternative) → least_of (left_by x d) <ℤ greatest_of (left_by x d) → Cuts d y → IsTrue (allows y (least_of (left_by x d))) → IsTrue (allows y (greatest_of (left_by x d))) →
        (greatest_of (left_by x d) <ℤ greatest_of d) ⊎ (least_of d <ℤ least_of (left_by x d))
    by_kind (is_value m) less c low high =
        let first = value-is m (least_of (left_by x d)) low in
        let second = value-is m (greatest_of (left_by x d)) high in
        absurd (omega (arith, ints))
    by_kind (at_most m) less c low high = inl (let h = at-most-is m (greatest_of (left_by x d)) high in omega (arith, ints, c))
    by_kind (above m) less c low high = inr (let h = above-is m (least_of (left_by x d)) low in omega (arith, ints, c))

-- ---- how wide all domains of a state are

width_in : Option (List Span) → ℕ
width_in None = 0
width_in (Some d) = width d

unfoldable total : List Variable → ℕ
total [] = 0
total (v ∷ vs) = width_in (domain_in v) + total vs

total-set : (vs : List Variable) (n : ℕ) (w : Variable) → n < length vs → width_in (domain_in w) < width_in (domain_in (get_or vs n free)) → total (set vs n w) < total vs
unfolding total
total-set [] n w l less = absurd (omega arith)
total-set (v ∷ vs) zero w l less = omega (arith, less)
total-set (v ∷ vs) (suc n) w l less = let rest : total (set vs n w) < total vs = total-set vs n w (omega arith) less in omega arith

total-has : (vs : List Variable) (n : ℕ) → n < length vs → width_in (domain_in (get_or vs n free)) ≤ total vs
unfolding total
total-has [] n l = absurd (omega arith)
total-has (v ∷ vs) zero l = omega arith
total-has (v ∷ vs) (suc n) l = let rest : width_in (domain_in (get_or vs n free)) ≤ total vs = total-has vs n (omega arith) in omega arith

total-below : (vs ws : List Variable) → length ws ≡ length vs → ((n : ℕ) → n < length vs → width_in (domain_in (get_or ws n free)) ≤ width_in (domain_in (get_or vs n free))) → total ws ≤ total vs
unfolding total
total-below [] [] e h = omega arith
total-below [] (w ∷ ws) e h = absurd (omega arith)
total-below (v ∷ vs) [] e h = absurd (omega arith)
total-below (v ∷ vs) (w ∷ ws) e h =
    let here : width_in (domain_in w) ≤ width_in (domain_in v) = h 0 (omega arith) in
    let rest : total ws ≤ total vs = total-below vs ws (omega arith) (λ n l. h (suc n) (omega arith)) in
    omega arith

abbrev all_of : State → ℕ
all_of s = total s.variables

-- settling makes no domain wider
narrows-width : (s : State) (n : ℕ) (v w : Variable) → IsState s → variable s n ≡ v → Narrows s n v w → width_in (domain_in w) ≤ width_in (domain_in v)
unfolding width_in
narrows-width s n v w is at stays_free = omega arith
narrows-width s n v w is at (stays_bound t) = omega arith
narrows-width s n v w is at (some_stay d e p q all) =
    let has : domain_of s n ≡ Some d = ap domain_in at in
    no-wider d e (below-by d e (domain_good s n d is has).0 p q (λ i h. let st : Stays s (Item.Var n) i = (all i).0 h in has_in (given s (Item.Var n)) d i (ap domain_or_all has) (st.below.below (Item.Var n) i st.has)))
narrows-width s n v w is at (one_stays d i all) = omega arith

stable-no_wider : (s r : State) → IsState s → IsStable s r → all_of r ≤ all_of s
stable-no_wider s r is f = total-below s.variables r.variables f.count (λ n l. narrows-width s n (variable s n) (variable r n) is refl (f.variables n l))

-- an alternative makes the one that is picked narrower
narrowed-less : (s : State) (n : ℕ) (d : List Span) (x : Alternative) → IsState s → domain_of s n ≡ Some d → Cuts d x → (vs : List ℤ) → values_of (left_by x d) ≡ vs → (r : State) →
    with_values s n (left_by x d) vs ≡ Some r → all_of r < all_of s
unfolding width_in
narrowed-less s n d x is has cuts [] e r same = absurd cc
narrowed-less s n d x is has cuts (i ∷ []) e r same =
    let good = domain_good s n d is has in
    let old : width_in (domain_in (variable s n)) ≡ width d = ap width_in has in
    let less : 0 < width_in (domain_in (variable s n)) = (let h = wide d good.0 good.1 in omega arith) in
    subst (λ (q : State). all_of q < all_of s) (the-state _ r same) (total-set s.variables n (bound (int i)) (domain_made s n d has) less)
  where
    the-state : (q r : State) → Some q ≡ Some r → q ≡ r
    the-state q r e = cc
narrowed-less s n d x is has cuts (i ∷ j ∷ rest) e r same =
    let good = domain_good s n d is has in
    let old : width_in (domain_in (variable s n)) ≡ width d = ap width_in has in
    let cut : width (left_by x d) < width d = cut-narrower d x good.0 cuts (two_values (left_by x d) i j rest e) in
    let less : width (left_by x d) < width_in (domain_in (variable s n)) = omega arith in
    subst (λ (q : State). all_of q < all_of s) (the-state _ r same) (total-set s.variables n (within (left_by x d)) (domain_made s n d has) less)
  where
    the-state : (q r : State) → Some q ≡ Some r → q ≡ r
    the-state q r e = cc

-- ---- traces that end

end-alt : (t u : Trace State) → end_of t ≡ Done → end_of u ≡ Done → end_of (alt t u) ≡ Done
unfolding end_of alt
end-alt (end Done) u e f = f
end-alt (end x) u e f = absurd cc
end-alt (note n t) u e f = end-alt t u e f
end-alt (ans r t) u e f = end-alt t u e f

tried-ends : (before s : State) (t : Trace State) (l : Lower) → GoesOnFrom s → ((r : State) → r.waiting ≡ [] → l.drains r ≡ one r) → ((r : State) → GoesOnFrom r → all_of r ≤ all_of s → end_of (l.labels r) ≡ Done) →
    IsSettled before s t → end_of (then (then t l.drains) l.labels) ≡ Done
unfolding end_of
tried-ends before s t l g drains ends (inl (e, is)) =
    ap end_of (ap (λ (u : Trace State). then (then u l.drains) l.labels) is ∙ none-followed (load_of_failure before s) l.drains l.labels) ∙ end-loaded (load_of_failure before s) done
tried-ends before s t l g drains ends (inr (r, f, is)) =
    let on : GoesOnFrom r = stable-goes_on s r g f in
    ap end_of (ap (λ (u : Trace State). then (then u l.drains) l.labels) (is ∙ ap (λ (x : State). loaded (load before s r) (one x)) (no-events before r on.agents on.waiting))
    ∙ one-followed (load before s r) r l.drains l.labels (drains r on.waiting))
    ∙ (end-loaded (load before s r) (l.labels r) ∙ ends r on (stable-no_wider s r g.state f))

one-ends : (settle : Settling) → Settles settle → (l : Lower) → ((r : State) → r.waiting ≡ [] → l.drains r ≡ one r) → (s : State) (n : ℕ) (d : List Span) (x : Alternative) → GoesOnFrom s → domain_of s n ≡ Some d → Cuts d x →
    ((r : State) → GoesOnFrom r → all_of r < all_of s → end_of (l.labels r) ≡ Done) → (o : Option State) → narrowed_to s n (left_by x d) ≡ o → end_of (one_tried settle (Some l) s o) ≡ Done
unfolding end_of
one-ends settle settles l drains s n d x g has cuts ends None e = refl
one-ends settle settles l drains s n d x g has cuts ends (Some m) e =
    let on : GoesOnFrom m = narrowed-goes_on s n d x g has (values_of (left_by x d)) refl m e in
    let less : all_of m < all_of s = narrowed-less s n d x g.state has cuts (values_of (left_by x d)) refl m e in
    tried-ends s m (settle s m) l on drains (λ r on' below. ends r on' (omega (arith, less, below))) (settles.each s m on.state on.may)

all-end : (settle : Settling) → Settles settle → (l : Lower) → ((r : State) → r.waiting ≡ [] → l.drains r ≡ one r) → (s : State) (p : Pending) → GoesOnFrom s → HasItsDomain s p →
    ((r : State) → GoesOnFrom r → all_of r < all_of s → end_of (l.labels r) ≡ Done) → (xs : List Alternative) → AllCut p.domain xs → end_of (all_tried settle (Some l) s p xs) ≡ Done
unfolding all_tried AllCut end_of
all-end settle settles l drains s p g has ends [] cut = refl
all-end settle settles l drains s p g has ends (x ∷ xs) cut =
    end-alt (one_tried settle (Some l) s (narrowed_to s p.variable (left_by x p.domain))) (all_tried settle (Some l) s p xs)
    (one-ends settle settles l drains s p.variable p.domain x g has cut.0 ends (narrowed_to s p.variable (left_by x p.domain)) refl) (all-end settle settles l drains s p g has ends xs cut.1)

-- ---- labelling

picked-wide : (s : State) → IsState s → (p : Pending) → HasItsDomain s p → 0 < all_of s
unfolding width_in
picked-wide s is p has =
    let good = domain_good s p.variable p.domain is has in
    let here : width_in (domain_in (variable s p.variable)) ≤ all_of s = total-has s.variables p.variable (domain_made s p.variable p.domain has) in
    let old : width_in (domain_in (variable s p.variable)) ≡ width p.domain = ap width_in has in
    let some : 0 < width p.domain = wide p.domain good.0 good.1 in
    omega arith

lowest-ends : (settle : Settling) (o : Options) (s : State) → IsState s → all_of s ≤ 0 → (p : Option Pending) → MayHave s p → end_of (labelled_by settle None o s p) ≡ Done
unfolding end_of
lowest-ends settle o s is small None has = refl
lowest-ends settle o s is small (Some p) has = absurd (let h = picked-wide s is p has in omega arith)

by-ends : (settle : Settling) → Settles settle → (l : Lower) → ((r : State) → r.waiting ≡ [] → l.drains r ≡ one r) → (o : Options) (s : State) → GoesOnFrom s →
    ((r : State) → GoesOnFrom r → all_of r < all_of s → end_of (l.labels r) ≡ Done) → (p : Option Pending) → MayHave s p → end_of (labelled_by settle (Some l) o s p) ≡ Done
unfolding end_of
by-ends settle settles l drains o s g ends None has = refl
by-ends settle settles l drains o s g ends (Some p) has =
    let good = domain_good s p.variable p.domain g.state has in
    all-end settle settles l drains s p g has ends (alternatives o.value p.domain) (alternatives-cut o.value p.domain (ends-apart p.domain good.0 good.1))

at-ends : (settle : Settling) (drains : ℕ → State → Trace State) (o : Options) (items : List Item) → Settles settle → RunsWhatWaits drains → (d : ℕ) (s : State) → GoesOnFrom s → all_of s ≤ d →
    end_of (labelled_at settle drains o items d s) ≡ Done
unfolding labelled_at
at-ends settle drains o items settles runs zero s g small = lowest-ends settle o s g.state small (picked (pending s items) o.variable) (picked-has s (pending s items) o.variable (all-have s items))
at-ends settle drains o items settles runs (suc d) s g small =
    by-ends settle settles (record { drains = drains d; labels = labelled_at settle drains o items d }) (runs d) o s g
    (λ r on less. at-ends settle drains o items settles runs d r on (omega (arith, less, small)))
    (picked (pending s items) o.variable) (picked-has s (pending s items) o.variable (all-have s items))

pub labelling_ends : LabellingEnds
labelling_ends settle drains o items settles runs s is may agents waiting =
    (all_of s, at-ends settle drains o items settles runs (all_of s) s (record { state = is; may = may; agents = agents; waiting = waiting }) (omega arith))
