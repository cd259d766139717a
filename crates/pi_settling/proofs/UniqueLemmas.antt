-- A state has one stable state at most, which lies below it.
use Rattle.std.specs.Prelude.{◌≡◌, ◌↔◌, ℕ, zero, suc, ◌<◌, ◌≤◌, ℤ, pos, ◌<ℤ◌, Bool, true, false, IsTrue, List, [], ◌∷◌, length, get_or, Some, None, Contains, refl}
use Rattle.std.proofs.Common.{arith, sym, ◌∙◌, ap, inl, inr}
use Rattle.std.proofs.lemmas.Int.{ints}
use Rattle.std.proofs.lemmas.List.{ext_get_or, get_or-map}
use Rattle.pi_terms.specs.Tree.{int}
use Rattle.pi_terms.specs.Places.{held}
use Rattle.pi_constraints.specs.declared.constraint.Constraint.{Constraint}
use Rattle.pi_constraints.specs.declared.constraint.Item.{Item}
use Rattle.pi_constraints.specs.declared.domain.Span.{Span}
use Rattle.pi_constraints.specs.Domain.{IsDomain, has_value, values_of, size_of}
use Rattle.pi_constraints.proofs.DomainLemmas.{values_lie_in_spans, values_ascend, same_values_same_domain}
use Rattle.pi_traces.specs.Trace.{one}
use Rattle.pi_constraints.specs.State.{State, Agent, Variable, free, within, bound, binding, bindings, next, domain_in, domain_of}
use Rattle.pi_constraints.specs.declared.event.Activation.{Activation}
use Rattle.pi_settling.specs.Roots.{given}
use Rattle.pi_settling.specs.Stable.{Stays, IsEmptied, Narrows, stays_free, stays_bound, some_stay, one_stays, IsStable}
use Rattle.pi_settling.specs.Load.{load}
use Rattle.pi_settling.specs.Settled.{loaded, with_events}
use Rattle.pi_settling.specs.SettlingLaws.{StableIsOne, SettledIsOne, SettlingIsOne, StableLiesBelow}

-- ---- domains by their values

same_bool : (b c : Bool) → (IsTrue b → IsTrue c) → (IsTrue c → IsTrue b) → b ≡ c
same_bool true true f g = refl
same_bool true false f g = sym (f refl)
same_bool false true f g = g refl
same_bool false false f g = refl

pub same_by_stays : (s : State) (n : ℕ) (d e : List Span) → IsDomain d → IsDomain e → ((i : ℤ) → IsTrue (has_value d i) ↔ Stays s (Item.Var n) i) → ((i : ℤ) → IsTrue (has_value e i) ↔ Stays s (Item.Var n) i) → d ≡ e
same_by_stays s n d e up vp f g =
    same_values_same_domain d e up vp (λ i. same_bool (has_value d i) (has_value e i) (λ h. (g i).1 ((f i).0 h)) (λ h. (f i).1 ((g i).0 h)))

-- a domain of two or more values has two that differ
two_values_differ : (ns : List ℤ) → 2 ≤ length ns → (i : ℤ) → ((j : ℤ) → Contains ns j → j ≡ i) → (get_or ns 0 (pos 0) ≡ i) × (get_or ns 1 (pos 0) ≡ i)
two_values_differ [] l i all = absurd (omega arith)
two_values_differ (m ∷ []) l i all = absurd (omega arith)
two_values_differ (m ∷ n ∷ ns) l i all = (all m (0, omega arith, refl), all n (1, omega arith, refl))

pub not_one : (d : List Span) (i : ℤ) → IsDomain d → 2 ≤ size_of d → ((j : ℤ) → IsTrue (has_value d j) → j ≡ i) → ⊥
not_one d i up two all =
    let both = two_values_differ (values_of d) two i (λ j h. all j ((values_lie_in_spans d up j).1 h)) in
    let less : get_or (values_of d) 0 (pos 0) <ℤ get_or (values_of d) 1 (pos 0) = values_ascend d up 0 1 (pos 0) (omega arith) (omega arith) in
    omega (arith, ints, both.0, both.1, less)

-- ---- one variable

narrows_one : (s : State) (n : ℕ) (v u w x : Variable) → v ≡ u → Narrows s n v w → Narrows s n u x → w ≡ x
narrows_one s n v u w x e stays_free stays_free = refl
narrows_one s n v u w x e stays_free (stays_bound t) = absurd (cc)
narrows_one s n v u w x e stays_free (some_stay d f p q all) = absurd (cc)
narrows_one s n v u w x e stays_free (one_stays d i all) = absurd (cc)
narrows_one s n v u w x e (stays_bound t) stays_free = absurd (cc)
narrows_one s n v u w x e (stays_bound t) (stays_bound t') = e
narrows_one s n v u w x e (stays_bound t) (some_stay d f p q all) = absurd (cc)
narrows_one s n v u w x e (stays_bound t) (one_stays d i all) = absurd (cc)
narrows_one s n v u w x e (some_stay d f p q all) stays_free = absurd (cc)
narrows_one s n v u w x e (some_stay d f p q all) (stays_bound t) = absurd (cc)
narrows_one s n v u w x e (some_stay d f p q all) (some_stay d' f' p' q' all') = ap within (same_by_stays s n f f' p p' all all')
narrows_one s n v u w x e (some_stay d f p q all) (one_stays d' i all') = absurd (not_one f i p q (λ j h. (all' j).1 ((all j).0 h)))
narrows_one s n v u w x e (one_stays d i all) stays_free = absurd (cc)
narrows_one s n v u w x e (one_stays d i all) (stays_bound t) = absurd (cc)
narrows_one s n v u w x e (one_stays d i all) (some_stay d' f p q all') = absurd (not_one f i p q (λ j h. (all j).1 ((all' j).0 h)))
narrows_one s n v u w x e (one_stays d i all) (one_stays d' i' all') = ap (λ (z : ℤ). bound (int z)) ((all' i).1 ((all i).0 refl))

-- ---- the whole state

abbrev state_of : List Variable → List Constraint → List Agent → List Activation → State
state_of vs cs agents ws = record { variables = vs; constraints = cs; agents = agents; waiting = ws }

pub same_states : (r q : State) → r.variables ≡ q.variables → r.constraints ≡ q.constraints → r.agents ≡ q.agents → r.waiting ≡ q.waiting → r ≡ q
same_states r q v c a w =
    ap (λ (x : List Variable). state_of x r.constraints r.agents r.waiting) v
    ∙ (ap (λ (x : List Constraint). state_of q.variables x r.agents r.waiting) c
    ∙ (ap (λ (x : List Agent). state_of q.variables q.constraints x r.waiting) a
    ∙ ap (λ (x : List Activation). state_of q.variables q.constraints q.agents x) w))

pub stable_is_one : StableIsOne
stable_is_one s r q f g = same_states r q
    (ext_get_or free r.variables q.variables (f.count ∙ sym g.count) (λ n l. narrows_one s n _ _ _ _ refl (f.variables n (omega (arith, f.count))) (g.variables n (omega (arith, f.count)))))
    (f.constraints ∙ sym g.constraints) (f.agents ∙ sym g.agents) (f.waiting ∙ sym g.waiting)

pub not_both_ways : (s r : State) → IsEmptied s → IsStable s r → ⊥
not_both_ways s r e f = let kept = f.kept e.item e.counts in e.none kept.0 kept.1

pub settled_is_one : SettledIsOne
settled_is_one before s t u (inl (e, p)) (inl (f, q)) = p ∙ sym q
settled_is_one before s t u (inl (e, p)) (inr (r, f, q)) = absurd (not_both_ways s r e f)
settled_is_one before s t u (inr (r, f, p)) (inl (e, q)) = absurd (not_both_ways s r e f)
settled_is_one before s t u (inr (r, f, p)) (inr (r', f', q)) =
    p ∙ (ap (λ (z : State). loaded (load before s z) (one (with_events before z))) (stable_is_one s r r' f f') ∙ sym q)

pub settling_is_one : SettlingIsOne
settling_is_one f g hf hg before s is may = settled_is_one before s (f before s) (g before s) (hf.each before s is may) (hg.each before s is may)

-- ---- it lies below

given-is : (s : State) (n : ℕ) (d : List Span) (i : ℤ) → domain_of s n ≡ Some d → Stays s (Item.Var n) i → IsTrue (has_value d i)
given-is s n d i e st =
    let h : IsTrue (has_value (given s (Item.Var n)) i) = st.below.below (Item.Var n) i st.has in
    rw e at h

within_length : (vs : List Variable) (n : ℕ) (d : List Span) → domain_in (get_or vs n free) ≡ Some d → n < length vs
within_length [] n d e = absurd (cc)
within_length (v ∷ vs) zero d e = omega arith
within_length (v ∷ vs) (suc n) d e = let h : n < length vs = within_length vs n d e in omega arith

pub domain_made : (s : State) (n : ℕ) (d : List Span) → domain_of s n ≡ Some d → n < next s
domain_made s n d e = within_length s.variables n d e

narrowed-below : (s : State) (n : ℕ) (v w : Variable) (d : List Span) → Narrows s n v w → domain_in v ≡ Some d → ((i : ℤ) → Stays s (Item.Var n) i → IsTrue (has_value d i)) →
    ((e : List Span) (i : ℤ) → domain_in w ≡ Some e → IsTrue (has_value e i) → IsTrue (has_value d i)) × ((i : ℤ) → binding w ≡ Some (int i) → IsTrue (has_value d i))
narrowed-below s n v w d stays_free is below = absurd (cc)
narrowed-below s n v w d (stays_bound t) is below = absurd (cc)
narrowed-below s n v w d (some_stay d' f p q all) is below = (λ e i same h. below i ((all i).0 (let e' : f ≡ e = cc in rw e' h)), λ i e. absurd (cc))
narrowed-below s n v w d (one_stays d' j all) is below = (λ e i same h. absurd (cc), λ i e. below i ((all i).0 (let e' : i ≡ j = cc in e')))

pub stable_lies_below : StableLiesBelow
stable_lies_below s r n d f e =
    let l : n < next s = domain_made s n d e in
    let b = narrowed-below s n _ _ d (f.variables n l) e (λ i st. given-is s n d i e st) in
    let at : held (bindings r) n ≡ binding (get_or r.variables n free) = get_or-map binding r.variables n free None (omega (arith, f.count)) in
    (b.0, λ i is. b.1 i (sym at ∙ is))
