-- The solutions of what a posting leaves are those of the state before, extended by values of the new variables under which all holds that is posted.
use Rattle.std.specs.Prelude.{◌≡◌, ◌⊎◌, ℕ, suc, ◌<◌, ◌≤◌, ℤ, IsTrue, List, [], ◌∷◌, map, get_or, Some, Contains, refl}
use Rattle.std.proofs.Common.{arith, sym, ◌∙◌, ap, subst, inl, inr}
use Rattle.std.proofs.lemmas.Int.{ints}
use Rattle.std.proofs.lemmas.List.Elements.{Contains-append_left, Contains-append_right, Contains-append_cases}
use Rattle.pi_terms.specs.Tree.{Tree, var, int, atom, comp}
use Rattle.pi_terms.specs.Variables.{Occurs}
use Rattle.pi_constraints.specs.declared.constraint.Constraint.{Constraint}
use Rattle.pi_constraints.specs.declared.constraint.Item.{Item}
use Rattle.pi_constraints.specs.declared.domain.Span.{Span}
use Rattle.pi_constraints.specs.Domain.{IsWithinBounds, has_value}
use Rattle.pi_constraints.proofs.DomainLemmas.{values_are_within_bounds}
use Rattle.pi_constraints.specs.State.{State, Variable, free, within, bound, binding, bindings, next, domain_in, domain_of, followed, with_domain, IsState, SpeaksBelow}
use Rattle.pi_constraints.specs.Evaluation.{with_new_variables}
use Rattle.pi_constraints.proofs.StateLemmas.{variable, held_is, same_or_not, domain_here, domain_elsewhere, domain_good}
use Rattle.pi_prop_spec.specs.Places.{places_of}
use Rattle.pi_prop_spec.specs.Solutions.{value_of, Holds}
use Rattle.pi_prop_spec.specs.Says.{AgreeBelow}
use Rattle.pi_prop_spec.specs.Postings.{Posting}
use Rattle.pi_settling.specs.Roots.{root_item, item_of, all_values, domain_or_all, given, Counts, by_domain}
use Rattle.pi_settling.specs.Solves.{Solves}
use Rattle.pi_settling.specs.SettlingLaws.{MaySettle}
use Rattle.pi_settling.specs.Confined.{with_default, confined_at, confined}
use Rattle.pi_settling.specs.Posted.{with_constraints, places_of_all, posted_in}
use Rattle.pi_settling.proofs.StableLemmas.{only-has}
use Rattle.pi_settling.proofs.TwiceLemmas.{past_free, unbound-root, counted, has_in}
use Rattle.pi_settling.proofs.UniqueLemmas.{domain_made}
use Rattle.pi_settling.proofs.ConfinedLemmas.{all-keep, root-same}
use Rattle.pi_settling.proofs.CalmItems.{news-at, news-like}
use Rattle.pi_settling.proofs.CalmFollowed.{with-variables}
use Rattle.pi_settling.proofs.CalmGoals.{past-changed}
use Rattle.pi_label_laws.proofs.AgreeLemmas.{holds-agrees}
use Rattle.pi_label_laws.proofs.BeginLemmas.{below-followed}
use Rattle.pi_label_laws.proofs.DefaultLemmas.{one-root}
use Rattle.pi_label_laws.proofs.LabelledLemmas.{PostsNew, same-number}

less_or_not : (m n : ℕ) → (m < n) ⊎ (n ≤ m)
less_or_not m n = grind arith

-- ---- domains that are new

-- a domain that confining gave
abbrev Given : List Item → State → ℕ → List Span → Type 0
Given xs s m d = (d ≡ all_values) × ((y : Item) × Contains xs y × (root_item s y ≡ Item.Var m))

default-or : (s : State) (n m : ℕ) (d : List Span) (v : Variable) → variable s n ≡ v → domain_of (with_default s n v) m ≡ Some d → (domain_of s m ≡ Some d) ⊎ ((d ≡ all_values) × (n ≡ m))
default-or s n m d free e has = elim (same_or_not m n) [
  | inr other ↦ inl (sym (domain_elsewhere s n (within all_values) m other) ∙ has)
  | inl same ↦ elim (less_or_not n (next s)) [
    | inl made ↦
        let here : domain_of (with_domain s n all_values) m ≡ Some all_values = ap (domain_of (with_domain s n all_values)) same ∙ domain_here s n (within all_values) made in
        inr (some-is d all_values (sym has ∙ here), sym same)
    | inr past ↦ inl (ap (λ (q : State). domain_of q m) (sym (past-changed s n (within all_values) past)) ∙ has)
  ]
]
  where
    some-is : (d e : List Span) → Some d ≡ Some e → d ≡ e
    some-is d e same = cc
default-or s n m d (within c) e has = inl has
default-or s n m d (bound t) e has = inl has

one-or : (s : State) (m : ℕ) (d : List Span) (y : Item) → domain_of (confined_at s y) m ≡ Some d → (domain_of s m ≡ Some d) ⊎ ((d ≡ all_values) × (y ≡ Item.Var m))
one-or s m d (Item.Var n) has = elim (default-or s n m d (variable s n) refl has) [ inl old ↦ inl old | inr (e, same) ↦ inr (e, ap Item.Var same) ]
one-or s m d (Item.Int i) has = inl has

confined-or : (xs : List Item) (s : State) (m : ℕ) (d : List Span) → domain_of (confined s xs) m ≡ Some d → (domain_of s m ≡ Some d) ⊎ Given xs s m d
unfolding confined
confined-or [] s m d has = inl has
confined-or (x ∷ xs) s m d has = elim (confined-or xs (confined_at s (root_item s x)) m d has) [
  | inl old ↦ elim (one-or s m d (root_item s x) old) [
    | inl older ↦ inl older
    | inr (e, same) ↦ inr (e, (x, (0, omega arith, refl), same))
  ]
  | inr (e, (y, at, same)) ↦ inr (e, (y, (suc at.0, omega (arith, at.1), at.2), sym (one-root s (root_item s x) y) ∙ same))
]

-- ---- of a posting

before_domains : State → Posting → State
before_domains s p = with_constraints p.list (with_new_variables p.fresh s)

before-variable : (s : State) (p : Posting) (m : ℕ) → variable (before_domains s p) m ≡ variable s m
unfolding before_domains
before-variable s p m = ap (λ vs. get_or vs m free) (with-variables p.list (with_new_variables p.fresh s)) ∙ news-at p.fresh s m

before-root : (s : State) (p : Posting) → IsState s → (y : Item) → root_item (before_domains s p) y ≡ root_item s y
unfolding before_domains
before-root s p is y =
    root-same (with_new_variables p.fresh s) (with_constraints p.list (with_new_variables p.fresh s)) (ap (map binding) (with-variables p.list (with_new_variables p.fresh s))) y ∙ (news-like p.fresh s is).roots y

pub domain-kept : (s : State) (p : Posting) (m : ℕ) (d : List Span) → domain_of s m ≡ Some d → domain_of (posted_in s p) m ≡ Some d
unfolding before_domains
domain-kept s p m d has = all-keep (before_domains s p) (places_of_all p.list) m d (ap domain_in (before-variable s p m) ∙ has)

in-all : (cs : List Constraint) (y : Item) → Contains (places_of_all cs) y → (c : Constraint) × Contains cs c × Contains (places_of c) y
unfolding places_of_all
in-all [] y (k, l, e) = absurd (omega arith)
in-all (c ∷ cs) y at = elim (Contains-append_cases (places_of c) (places_of_all cs) y at) [
  | inl here ↦ (c, (0, omega arith, refl), here)
  | inr there ↦ let found = in-all cs y there in (found.0, (suc found.1.0, omega (arith, found.1.1), found.1.2), found.2)
]

-- a domain in the state that was left is an old one, or all values of a variable of what was posted
domain-or : (s : State) (p : Posting) (m : ℕ) (d : List Span) → IsState s → domain_of (posted_in s p) m ≡ Some d →
    (domain_of s m ≡ Some d) ⊎ ((d ≡ all_values) × ((c : Constraint) × (y : Item) × Contains p.list c × Contains (places_of c) y × (root_item s y ≡ Item.Var m)))
unfolding before_domains
domain-or s p m d is has = elim (confined-or (places_of_all p.list) (before_domains s p) m d has) [
  | inl old ↦ inl (sym (ap domain_in (before-variable s p m)) ∙ old)
  | inr (e, (y, at, root)) ↦ let found = in-all p.list y at in inr (e, (found.0, y, found.1, found.2, sym (before-root s p is y) ∙ root))
]

-- ---- from solutions before to solutions behind

-- the values of a solution before, and of the new variables
pub record Extended (s : State) (p : Posting) (a b : ℕ → ℤ) : Type 0 where
  pub solves : Solves s a
  pub agrees : AgreeBelow (next s) a b
  pub holds : (c : Constraint) → Contains p.list c → Holds c b
  pub bounded : (c : Constraint) (w : ℕ) → Contains p.list c → Contains (places_of c) (Item.Var w) → IsWithinBounds (b w)

root-below : (s : State) (n m : ℕ) (u : Tree) → n < next s → SpeaksBelow (next s) u → item_of n u ≡ Item.Var m → m < next s
unfolding Occurs
root-below s n m (var k) l h e = subst (λ (j : ℕ). j < next s) (same-number k m e) (h k refl)
root-below s n m (int i) l h e = absurd cc
root-below s n m (atom name) l h e = subst (λ (j : ℕ). j < next s) (same-number n m e) l
root-below s n m (comp name ts) l h e = subst (λ (j : ℕ). j < next s) (same-number n m e) l

of-variable : (s : State) (n : ℕ) → IsState s → n < next s → SpeaksBelow (next s) (followed (bindings s) (var n))
unfolding Occurs
of-variable s n is l = below-followed s (var n) is (λ m o. subst (λ (j : ℕ). j < next s) o l)

item-agrees : (s : State) (p : Posting) (a b : ℕ → ℤ) (n : ℕ) (y : Item) → IsState s → Extended s p a b → n < next s → root_item s (Item.Var n) ≡ y → value_of b y ≡ value_of a y
item-agrees s p a b n (Item.Var m) is x l e = x.agrees m (root-below s n m (followed (bindings s) (var n)) l (of-variable s n is l) e)
item-agrees s p a b n (Item.Int i) is x l e = refl

root-follows : (s : State) (p : Posting) (a b : ℕ → ℤ) → IsState s → Extended s p a b → (n : ℕ) → value_of b (root_item s (Item.Var n)) ≡ b n
root-follows s p a b is x n = elim (less_or_not n (next s)) [
  | inl l ↦ item-agrees s p a b n (root_item s (Item.Var n)) is x l refl ∙ (x.solves.follows n ∙ sym (x.agrees n l))
  | inr past ↦ ap (value_of b) (unbound-root s n (ap binding (past_free s n past)))
]

-- a variable at a place was made
place-made : (s : State) (c : Constraint) (w : ℕ) → MaySettle s → Contains s.constraints c → Contains (places_of c) (Item.Var w) → w < next s
place-made s c w may posted at = elim (less_or_not w (next s)) [
  | inl l ↦ l
  | inr past ↦
      let itself : root_item s (Item.Var w) ≡ Item.Var w = unbound-root s w (ap binding (past_free s w past)) in
      elim (may c (Item.Var w) posted at) [
        | inl (v, d, e, has) ↦ subst (λ (j : ℕ). j < next s) (sym (same-number w v (sym itself ∙ e))) (domain_made s v d has)
        | inr (i, e, b) ↦ absurd cc
      ]
]

place-agrees : (s : State) (p : Posting) (a b : ℕ → ℤ) (c : Constraint) → MaySettle s → Extended s p a b → Contains s.constraints c → (y : Item) → Contains (places_of c) y → value_of b y ≡ value_of a y
place-agrees s p a b c may x posted (Item.Var w) at = x.agrees w (place-made s c w may posted at)
place-agrees s p a b c may x posted (Item.Int i) at = refl

all-have : (i : ℤ) → IsWithinBounds i → IsTrue (has_value all_values i)
unfolding has_value
all-have i h = grind (arith, ints, h.0, h.1)

Fits : State → (ℕ → ℤ) → Item → Type 0
Fits s a x = IsTrue (has_value (given s x) (value_of a x)) × IsWithinBounds (value_of a x)

variable-fits : (s : State) (items : List Item) (p : Posting) (a b : ℕ → ℤ) (m : ℕ) (d : List Span) → IsState s → MaySettle s → PostsNew s (posted_in s p) items p.list → Extended s p a b → domain_of (posted_in s p) m ≡ Some d →
    Fits (posted_in s p) b (Item.Var m)
unfolding Fits
variable-fits s items p a b m d is may new x has =
    let q : State = posted_in s p in
    let given_is : given q (Item.Var m) ≡ d = ap domain_or_all has in
    elim (domain-or s p m d is has) [
      | inl old ↦
          let same : b m ≡ a m = x.agrees m (domain_made s m d old) in
          let before : IsTrue (has_value d (a m)) = has_in (given s (Item.Var m)) d (a m) (ap domain_or_all old) (x.solves.values (Item.Var m) (by_domain m d refl old)) in
          let inside : IsTrue (has_value d (b m)) = subst (λ (i : ℤ). IsTrue (has_value d i)) (sym same) before in
          (has_in d (given q (Item.Var m)) (b m) (sym given_is) inside, values_are_within_bounds d (b m) (domain_good s m d is old).0 inside)
      | inr (e, (c, y, at, place, root)) ↦
          let fits : IsWithinBounds (b m) = place-bounded s items p a b c y m is new x at place root in
          (has_in all_values (given q (Item.Var m)) (b m) (sym (given_is ∙ e)) (all-have (b m) fits), fits)
    ]
  where
    place-bounded : (s : State) (items : List Item) (p : Posting) (a b : ℕ → ℤ) (c : Constraint) (y : Item) (m : ℕ) → IsState s → PostsNew s (posted_in s p) items p.list → Extended s p a b → Contains p.list c → Contains (places_of c) y →
        root_item s y ≡ Item.Var m → IsWithinBounds (b m)
    place-bounded s items p a b c (Item.Var w) m is new x at place root =
        let itself : root_item s (Item.Var w) ≡ Item.Var w = unbound-root s w (sym (held_is s w) ∙ new.free c w at place) in
        subst (λ (j : ℕ). IsWithinBounds (b j)) (same-number w m (sym itself ∙ root)) (x.bounded c w at place)
    place-bounded s items p a b c (Item.Int i) m is new x at place root = absurd cc

integer-fits : (q : State) (b : ℕ → ℤ) (i : ℤ) → IsWithinBounds i → Fits q b (Item.Int i)
unfolding Fits
integer-fits q b i h = (only-has i, h)

fits : (s : State) (items : List Item) (p : Posting) (a b : ℕ → ℤ) → IsState s → MaySettle s → PostsNew s (posted_in s p) items p.list → Extended s p a b → (x : Item) → Counts (posted_in s p) x → Fits (posted_in s p) b x
fits s items p a b is may new e x counts = elim (counted (posted_in s p) x new.after.settles counts) [
  | inl (m, d, same, has) ↦ subst (Fits (posted_in s p) b) (sym same) (variable-fits s items p a b m d is may new e has)
  | inr (i, same, bounds) ↦ subst (Fits (posted_in s p) b) (sym same) (integer-fits (posted_in s p) b i bounds)
]

pub posted-solved : (s : State) (items : List Item) (p : Posting) (a b : ℕ → ℤ) → IsState s → MaySettle s → PostsNew s (posted_in s p) items p.list → Extended s p a b → Solves (posted_in s p) b
unfolding Fits
posted-solved s items p a b is may new x = record {
  follows = λ n. ap (value_of b) (new.roots (Item.Var n)) ∙ root-follows s p a b is x n;
  values = λ y counts. (fits s items p a b is may new x y counts).0;
  bounded = λ y counts. (fits s items p a b is may new x y counts).1;
  holds = λ c posted. elim (Contains-append_cases s.constraints p.list c (subst (λ (cs : List Constraint). Contains cs c) new.constraints posted)) [
    | inl old ↦ holds-agrees c a b (place-agrees s p a b c may x old) (x.solves.holds c old)
    | inr there ↦ x.holds c there
  ];
}

-- ---- and back

kept-fits : (s : State) (items : List Item) (p : Posting) (b : ℕ → ℤ) → IsState s → MaySettle s → Solves (posted_in s p) b → (x : Item) → Counts s x → Fits s b x
unfolding Fits
kept-fits s items p b is may h x counts = elim (counted s x may counts) [
  | inl (m, d, same, has) ↦
      let there : domain_of (posted_in s p) m ≡ Some d = domain-kept s p m d has in
      let inside : IsTrue (has_value d (b m)) = has_in (given (posted_in s p) (Item.Var m)) d (b m) (ap domain_or_all there) (h.values (Item.Var m) (by_domain m d refl there)) in
      subst (Fits s b) (sym same) (has_in d (given s (Item.Var m)) (b m) (sym (ap domain_or_all has)) inside, values_are_within_bounds d (b m) (domain_good s m d is has).0 inside)
  | inr (i, same, bounds) ↦ subst (Fits s b) (sym same) (integer-fits s b i bounds)
]

pub solved-before : (s : State) (items : List Item) (p : Posting) (b : ℕ → ℤ) → IsState s → MaySettle s → PostsNew s (posted_in s p) items p.list → Solves (posted_in s p) b → Solves s b × ((c : Constraint) → Contains p.list c → Holds c b)
unfolding Fits
solved-before s items p b is may new h = (
  record {
    follows = λ n. sym (ap (value_of b) (new.roots (Item.Var n))) ∙ h.follows n;
    values = λ x counts. (kept-fits s items p b is may h x counts).0;
    bounded = λ x counts. (kept-fits s items p b is may h x counts).1;
    holds = λ c posted. h.holds c (subst (λ (cs : List Constraint). Contains cs c) (sym new.constraints) (Contains-append_left s.constraints p.list c posted));
  },
  λ c at. h.holds c (subst (λ (cs : List Constraint). Contains cs c) (sym new.constraints) (Contains-append_right s.constraints p.list c at)),
)
