-- What is posted and settled in a state that may be labelled leads to one that may be.
use Rattle.std.specs.Prelude.{◌≡◌, ◌≢◌, ◌⊎◌, ℕ, ◌<◌, ◌≤◌, List, ◌++◌, Some, None, Contains, refl}
use Rattle.std.proofs.Common.{arith, sym, ◌∙◌, ap, subst, inl, inr}
use Rattle.std.proofs.lemmas.List.Elements.{Contains-append_left, Contains-append_right, Contains-append_cases}
use Rattle.pi_terms.specs.Places.{held}
use Rattle.pi_constraints.specs.declared.constraint.Constraint.{Constraint}
use Rattle.pi_constraints.specs.declared.constraint.Item.{Item}
use Rattle.pi_constraints.specs.declared.domain.Span.{Span}
use Rattle.pi_constraints.specs.State.{State, Variable, binding, bindings, next, domain_in, IsState}
use Rattle.pi_constraints.proofs.StateLemmas.{variable, held_is}
use Rattle.pi_prop_spec.specs.Places.{places_of}
use Rattle.pi_settling.specs.Roots.{root_item}
use Rattle.pi_settling.specs.Stable.{Narrows, stays_free, stays_bound, some_stay, one_stays, IsStable}
use Rattle.pi_settling.specs.SettlingLaws.{MaySettle}
use Rattle.pi_settling.specs.CalmLaws.{MaySettleAfter}
use Rattle.pi_settling.proofs.TwiceLemmas.{unbound-root, integer-root, later-root, stable_stays_stable}
use Rattle.pi_settling.proofs.KeepLemmas.{stable_is_a_state, stable_may_settle}
use Rattle.pi_settling.proofs.UniqueLemmas.{domain_made}
use Rattle.pi_label_laws.specs.Made.{IsKnown, of_call, by_reading, AreKnown, MayLabel}
use Rattle.pi_label_laws.specs.ReadingLaws.{IsMadeBy}
use Rattle.pi_label_laws.proofs.RankLemmas.{HasDomain}
use Rattle.pi_label_laws.proofs.RanksLemmas.{ranks, rank-old, rank-behind}

-- ---- numbers of variables

number_of : Item → ℕ
number_of (Item.Var n) = n
number_of (Item.Int i) = 0

pub same-number : (m n : ℕ) → ◌≡◌ {A = Item} (Item.Var m) (Item.Var n) → m ≡ n
unfolding number_of
same-number m n e = ap number_of e

less_or_not : (m n : ℕ) → (m < n) ⊎ (n ≤ m)
less_or_not m n = grind arith

-- ---- settling

-- a variable with a domain that comes to a variable comes to itself
narrowed-same : (q r : State) (v n : ℕ) (u w : Variable) (d : List Span) → IsState r → Narrows q v u w → domain_in u ≡ Some d → variable r v ≡ w → root_item r (Item.Var v) ≡ Item.Var n → v ≡ n
narrowed-same q r v n u w d is stays_free has at e = absurd cc
narrowed-same q r v n u w d is (stays_bound t) has at e = absurd cc
narrowed-same q r v n u w d is (some_stay c f p two all) has at e = same-number v n (sym (unbound-root r v (ap binding at)) ∙ e)
narrowed-same q r v n u w d is (one_stays c i all) has at e = absurd (let here : root_item r (Item.Var v) ≡ Item.Int i = integer-root r v i is.acyclic (ap binding at) in cc)

stays-same : (q r : State) (v n : ℕ) → IsState r → IsStable q r → HasDomain q v → root_item r (Item.Var v) ≡ Item.Var n → v ≡ n
stays-same q r v n is f has e = narrowed-same q r v n (variable q v) (variable r v) has.0 is (f.variables v (domain_made q v has.0 has.1)) has.1 refl e

-- what comes to a variable in the stable state came to it before
root-before : (q r : State) (c : Constraint) (y : Item) (n : ℕ) → IsState q → IsState r → MaySettle q → IsStable q r → Contains q.constraints c → Contains (places_of c) y → root_item r y ≡ Item.Var n → root_item q y ≡ Item.Var n
root-before q r c y n is is' may f posted at e = elim (may c y posted at) [
  | inl (v, d, g, has) ↦ g ∙ ap Item.Var (stays-same q r v n is' f (d, has) (sym (ap (root_item r) g) ∙ (later-root q r is is' f y ∙ e)))
  | inr (i, g, b) ↦ absurd (let there : root_item r y ≡ Item.Int i = sym (later-root q r is is' f y) ∙ ap (root_item r) g in cc)
]

known-later : (q r : State) (items : List Item) (rank : ℕ → ℕ) (n : ℕ) → IsState q → IsState r → MaySettle q → IsStable q r → root_item r (Item.Var n) ≡ Item.Var n → IsKnown q items rank n → IsKnown r items rank n
known-later q r items rank n is is' may f here (of_call x at e) = of_call x at (sym (later-root q r is is' f x) ∙ (ap (root_item r) e ∙ here))
known-later q r items rank n is is' may f here (by_reading m cs posted makes e lower) =
    by_reading m cs (λ c at. subst (λ (list : List Constraint). Contains list c) (sym f.constraints) (posted c at)) makes (sym (later-root q r is is' f (Item.Var m)) ∙ (ap (root_item r) e ∙ here))
    (λ c y k at place apart g. lower c y k at place apart (root-before q r c y k is is' may f (posted c at) place g))

are-known-later : (q r : State) (items : List Item) (rank : ℕ → ℕ) → IsState q → IsState r → MaySettle q → IsStable q r → AreKnown q items rank → AreKnown r items rank
are-known-later q r items rank is is' may f known c y n posted at e =
    let before : Contains q.constraints c = subst (λ (list : List Constraint). Contains list c) f.constraints posted in
    let was : root_item q y ≡ Item.Var n = root-before q r c y n is is' may f before at e in
    let here : root_item r (Item.Var n) ≡ Item.Var n = sym (ap (root_item r) was) ∙ (later-root q r is is' f y ∙ e) in
    known-later q r items rank n is is' may f here (known c y n before at was)

-- ---- what is posted

-- a state with more constraints, over unbound variables: old ones that items come to, and new ones that the constraints make
pub record PostsNew (s q : State) (items : List Item) (list : List Constraint) : Type 0 where
  pub after : MaySettleAfter s q
  pub roots : (y : Item) → root_item q y ≡ root_item s y
  pub constraints : q.constraints ≡ s.constraints ++ list
  pub free : (c : Constraint) (w : ℕ) → Contains list c → Contains (places_of c) (Item.Var w) → held (bindings s) w ≡ None
  pub old : (c : Constraint) (w : ℕ) → Contains list c → Contains (places_of c) (Item.Var w) → w < next s → (x : Item) × Contains items x × (root_item s x ≡ Item.Var w)
  pub made : (c : Constraint) (w : ℕ) → Contains list c → Contains (places_of c) (Item.Var w) → next s ≤ w → IsMadeBy list w

posted-old : (s q : State) (items : List Item) (list : List Constraint) (c : Constraint) → PostsNew s q items list → Contains s.constraints c → Contains q.constraints c
posted-old s q items list c p at = subst (λ (cs : List Constraint). Contains cs c) (sym p.constraints) (Contains-append_left s.constraints list c at)

posted-new : (s q : State) (items : List Item) (list : List Constraint) (c : Constraint) → PostsNew s q items list → Contains list c → Contains q.constraints c
posted-new s q items list c p at = subst (λ (cs : List Constraint). Contains cs c) (sym p.constraints) (Contains-append_right s.constraints list c at)

-- a variable of a posted constraint was made
was-made : (s : State) (c : Constraint) (y : Item) (n : ℕ) → MaySettle s → Contains s.constraints c → Contains (places_of c) y → root_item s y ≡ Item.Var n → n < next s
was-made s c y n may posted at e = elim (may c y posted at) [
  | inl (v, d, f, has) ↦ subst (λ (k : ℕ). k < next s) (same-number v n (sym f ∙ e)) (domain_made s v d has)
  | inr (i, f, b) ↦ absurd cc
]

known-old : (s q : State) (items : List Item) (list : List Constraint) (rank : ℕ → ℕ) (n : ℕ) → MaySettle s → PostsNew s q items list → n < next s → IsKnown s items rank n → IsKnown q items (ranks rank (next s)) n
known-old s q items list rank n may p l (of_call x at e) = of_call x at (p.roots x ∙ e)
known-old s q items list rank n may p l (by_reading m cs posted makes e lower) =
    by_reading m cs (λ c at. posted-old s q items list c p (posted c at)) makes (p.roots (Item.Var m) ∙ e)
    (λ c y k at place apart f.
    let was : root_item s y ≡ Item.Var k = sym (p.roots y) ∙ f in
    let less : rank k < rank n = lower c y k at place apart was in
    let first : ranks rank (next s) k ≡ rank k = rank-old rank (next s) k (was-made s c y k may (posted c at) place was) in
    let second : ranks rank (next s) n ≡ rank n = rank-old rank (next s) n l in
    omega arith)

-- an unbound variable comes to itself
free-root : (s : State) (w : ℕ) → held (bindings s) w ≡ None → root_item s (Item.Var w) ≡ Item.Var w
free-root s w none = unbound-root s w (sym (held_is s w) ∙ none)

known-new : (s q : State) (items : List Item) (list : List Constraint) (rank : ℕ → ℕ) (c : Constraint) (w n : ℕ) → PostsNew s q items list → Contains list c → Contains (places_of c) (Item.Var w) → root_item q (Item.Var w) ≡ Item.Var n →
    IsKnown q items (ranks rank (next s)) n
known-new s q items list rank c w n p at place e =
    let same : w ≡ n = same-number w n (sym (free-root s w (p.free c w at place)) ∙ (sym (p.roots (Item.Var w)) ∙ e)) in
    elim (less_or_not w (next s)) [
      | inl l ↦ let there = p.old c w at place l in of_call there.0 there.1 (p.roots there.0 ∙ (there.2 ∙ ap Item.Var same))
      | inr new ↦
          let m : IsMadeBy list w = p.made c w at place new in
          by_reading w m.parts (λ d in_parts. posted-new s q items list d p (m.posted d in_parts)) m.makes e
          (λ d y k in_parts there apart f. subst (λ (j : ℕ). ranks rank (next s) k < ranks rank (next s) j) same (lower d y k m in_parts there apart f new))
    ]
  where
    less : (u w : ℕ) → u ≤ w → u ≢ w → u < w
    less u w l other = grind (arith, l, other)

    lower : (d : Constraint) (y : Item) (k : ℕ) → (m : IsMadeBy list w) → Contains m.parts d → Contains (places_of d) y → y ≢ Item.Var w → root_item q y ≡ Item.Var k → next s ≤ w → ranks rank (next s) k < ranks rank (next s) w
    lower d (Item.Int i) k m in_parts there apart f new = absurd cc
    lower d (Item.Var u) k m in_parts there apart f new =
        let itself : u ≡ k = same-number u k (sym (free-root s u (p.free d u (m.posted d in_parts) there)) ∙ (sym (p.roots (Item.Var u)) ∙ f)) in
        let at_most : u ≤ w = m.below d u in_parts there in
        let other : u ≢ w = λ g. apart (ap Item.Var g) in
        subst (λ (j : ℕ). ranks rank (next s) j < ranks rank (next s) w) itself (rank-behind rank (next s) u w new (less u w at_most other))

place-known : (s q : State) (items : List Item) (list : List Constraint) (rank : ℕ → ℕ) (c : Constraint) (y : Item) (n : ℕ) → PostsNew s q items list → Contains list c → Contains (places_of c) y → root_item q y ≡ Item.Var n →
    IsKnown q items (ranks rank (next s)) n
place-known s q items list rank c (Item.Var w) n p at place e = known-new s q items list rank c w n p at place e
place-known s q items list rank c (Item.Int i) n p at place e = absurd cc

posted-known : (s q : State) (items : List Item) (list : List Constraint) (rank : ℕ → ℕ) → MaySettle s → AreKnown s items rank → PostsNew s q items list → AreKnown q items (ranks rank (next s))
posted-known s q items list rank may known p c y n posted at e =
    elim (Contains-append_cases s.constraints list c (subst (λ (cs : List Constraint). Contains cs c) p.constraints posted)) [
      | inl old ↦ let was : root_item s y ≡ Item.Var n = sym (p.roots y) ∙ e in known-old s q items list rank n may p (was-made s c y n may old at was) (known c y n old at was)
      | inr new ↦ place-known s q items list rank c y n p new at e
    ]

pub posts-new-labelled : (s q r : State) (items : List Item) (list : List Constraint) → MayLabel s items → PostsNew s q items list → IsStable q r → MayLabel r items
posts-new-labelled s q r items list m p f =
    let is : IsState q = p.after.state in
    let may : MaySettle q = p.after.settles in
    let is' : IsState r = stable_is_a_state q r is f in
    record {
      state = is';
      settles = stable_may_settle q r is may f;
      stable = stable_stays_stable q r is is' may f;
      agents = f.agents ∙ (p.after.agents ∙ m.agents);
      waiting = f.waiting ∙ (p.after.waiting ∙ m.waiting);
      rank = ranks m.rank (next s);
      known = are-known-later q r items (ranks m.rank (next s)) is is' may f (posted-known s q items list m.rank m.settles m.known p);
    }
