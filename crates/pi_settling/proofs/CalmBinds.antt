-- What the pairs of a unification do to a state, one by one: what is bound stays so, and a variable with a domain becomes an integer or a variable with one. It asks of a state that its bindings
-- have no circle and its domains two values or more, and nothing of the terms.
use Rattle.std.specs.Prelude.{◌≡◌, ◌≢◌, ℕ, ◌<◌, ◌≤◌, ℤ, true, List, [], ◌∷◌, Option, Some, None, refl}
use Rattle.std.proofs.Common.{arith, sym, ◌∙◌, ap, subst, inl, inr}
use Rattle.std.proofs.lemmas.List.{set_comm}
use Rattle.pi_terms.specs.Tree.{Tree, var, int, atom, comp}
use Rattle.pi_terms.specs.Places.{held}
use Rattle.pi_terms.specs.Variables.{Occurs}
use Rattle.pi_terms.specs.Substitution.{instance}
use Rattle.pi_constraints.specs.declared.domain.Span.{Span}
use Rattle.pi_constraints.specs.Domain.{IsWithinBounds, IsDomain, values_of, size_of, common}
use Rattle.pi_constraints.specs.Value.{Bindings, IsAcyclic, value}
use Rattle.pi_constraints.specs.State.{State, Variable, within, bound, bindings, next, domain_of, followed, with_variable, with_binding, with_domain}
use Rattle.pi_constraints.specs.Unify.{Pair, admits, confined, joined_with, joined, unified_for}
use Rattle.pi_constraints.proofs.ValueLemmas.{unbound_is_its_own_value, bound_has_value_of_its_term}
use Rattle.pi_constraints.proofs.BindingLemmas.{binding_stays_acyclic}
use Rattle.pi_constraints.proofs.CommonLemmas.{IsDomain-common, first_value, two_values}
use Rattle.pi_constraints.proofs.DomainLemmas.{values_are_within_bounds}
use Rattle.pi_constraints.proofs.RootLemmas.{value_int}
use Rattle.pi_constraints.proofs.FollowLemmas.{IsNoVariable, followed_unbound}
use Rattle.pi_constraints.proofs.StateLemmas.{as_many, same_or_not, held_here, held_elsewhere, domain_here, domain_elsewhere, domain_unbound, domain_bindings, bound_bindings}
use Rattle.pi_settling.proofs.RootLemmas.{Kept, value_later}
use Rattle.pi_settling.proofs.TwiceLemmas.{less_or_not}
use Rattle.pi_settling.proofs.UniqueLemmas.{domain_made}
use Rattle.pi_settling.proofs.CalmFollowed.{changed-keeps}
use Rattle.pi_settling.proofs.CalmGoals.{with_all, past-changed}
use Rattle.pi_settling.proofs.CalmOutcomes.{OutcomeOf, Handles, outcome-of, pair_outcome, pairs-lead}

-- ---- states, and those after them

-- an integer that a domain can have, or a variable with a domain
pub data MayBe (r : State) : Tree → Type 0 where
  integer : (i : ℤ) → IsWithinBounds i → MayBe r (int i)
  variable : (m : ℕ) (e : List Span) → domain_of r m ≡ Some e → MayBe r (var m)

pub record IsSound (s : State) : Type 0 where
  pub acyclic : IsAcyclic (bindings s)
  pub domains : (n : ℕ) (d : List Span) → domain_of s n ≡ Some d → IsDomain d × (2 ≤ size_of d)

pub record Later (s r : State) : Type 0 where
  pub before : IsSound s
  pub now : IsSound r
  pub keeps : Kept (bindings s) (bindings r)
  pub each : (n : ℕ) (d : List Span) → domain_of s n ≡ Some d → MayBe r (value (bindings r) (var n))

own-value : (r : State) (n : ℕ) (d : List Span) → domain_of r n ≡ Some d → MayBe r (value (bindings r) (var n))
own-value r n d has = subst (MayBe r) (sym (unbound_is_its_own_value (bindings r) n (domain_unbound r n d has))) (variable n d has)

later-none : (s : State) → IsSound s → Later s s
later-none s sound = record { before = sound; now = sound; keeps = λ n u is. is; each = own-value s }

-- a variable whose value was this before has the value that this has
pub value-then : (s r : State) (k : ℕ) (w : Tree) → Later s r → value (bindings s) (var k) ≡ w → value (bindings r) (var k) ≡ instance (λ n. value (bindings r) (var n)) w
unfolding instance
value-then s r k w l is = sym (value_later (bindings s) (bindings r) (var k) l.now.acyclic l.keeps) ∙ ap (instance (λ n. value (bindings r) (var n))) is

may-later : (r q : State) (n : ℕ) (w : Tree) → Later r q → MayBe r w → value (bindings r) (var n) ≡ w → MayBe q (value (bindings q) (var n))
unfolding instance
may-later r q n w l (integer i b) is = subst (MayBe q) (sym (value-then r q n (int i) l is)) (integer i b)
may-later r q n w l (variable m e has) is = subst (MayBe q) (sym (value-then r q n (var m) l is)) (l.each m e has)

later-then : (s r q : State) → Later s r → Later r q → Later s q
later-then s r q h g = record {
  before = h.before;
  now = g.now;
  keeps = λ n u is. g.keeps n u (h.keeps n u is);
  each = λ n d has. may-later r q n (value (bindings r) (var n)) g (h.each n d has) refl;
}

-- ---- a variable that is bound

binds-sound : (s : State) (n : ℕ) (t : Tree) → IsSound s → n < next s → held (bindings s) n ≡ None → (Occurs n (value (bindings s) t) → ⊥) → IsSound (with_binding s n t)
binds-sound s n t sound made none apart = record {
  acyclic = subst IsAcyclic (sym (bound_bindings s n t)) (binding_stays_acyclic (bindings s) n t (record { acyclic = sound.acyclic; made = subst (λ (k : ℕ). n < k) (sym (as_many s)) made; unbound = none; apart = apart }));
  domains = λ k d has. elim (same_or_not k n) [
    | inl here ↦ absurd (let gone : domain_of (with_binding s n t) k ≡ None = ap (domain_of (with_binding s n t)) here ∙ domain_here s n (bound t) made in cc)
    | inr other ↦ sound.domains k d (sym (domain_elsewhere s n (bound t) k other) ∙ has)
  ];
}

binds : (s : State) (n : ℕ) (t : Tree) → IsSound s → held (bindings s) n ≡ None → (Occurs n (value (bindings s) t) → ⊥) →
    ((d : List Span) → domain_of s n ≡ Some d → MayBe (with_binding s n t) (value (bindings (with_binding s n t)) t)) → Later s (with_binding s n t)
binds s n t sound none apart comes = elim (less_or_not n (next s)) [
  | inl made ↦
      let r : State = with_binding s n t in
      let now : IsSound r = binds-sound s n t sound made none apart in
      record {
        before = sound;
        now = now;
        keeps = changed-keeps s n (bound t) none;
        each = λ k d has. elim (same_or_not k n) [
          | inl here ↦
              let same : value (bindings r) (var k) ≡ value (bindings r) t = ap (λ (m : ℕ). value (bindings r) (var m)) here ∙ bound_has_value_of_its_term (bindings r) n t now.acyclic (held_here s n (bound t) made) in
              subst (MayBe r) (sym same) (comes d (sym (ap (domain_of s) here) ∙ has))
          | inr other ↦ own-value r k d (domain_elsewhere s n (bound t) k other ∙ has)
        ];
      }
  | inr past ↦ subst (Later s) (sym (past-changed s n (bound t) past)) (later-none s sound)
]

-- ---- a variable that gets a domain

gets-sound : (s : State) (n : ℕ) (e : List Span) → IsSound s → n < next s → held (bindings s) n ≡ None → IsDomain e → 2 ≤ size_of e → IsSound (with_domain s n e)
gets-sound s n e sound made none up two = record {
  acyclic = subst IsAcyclic (sym (domain_bindings s n e none)) sound.acyclic;
  domains = λ k d has. elim (same_or_not k n) [
    | inl here ↦
        let same : e ≡ d = (let there : domain_of (with_domain s n e) k ≡ Some e = ap (domain_of (with_domain s n e)) here ∙ domain_here s n (within e) made in cc) in
        subst (λ (f : List Span). IsDomain f × (2 ≤ size_of f)) same (up, two)
    | inr other ↦ sound.domains k d (sym (domain_elsewhere s n (within e) k other) ∙ has)
  ];
}

gets : (s : State) (n : ℕ) (e : List Span) → IsSound s → held (bindings s) n ≡ None → IsDomain e → 2 ≤ size_of e → Later s (with_domain s n e)
gets s n e sound none up two = elim (less_or_not n (next s)) [
  | inl made ↦ record {
    before = sound;
    now = gets-sound s n e sound made none up two;
    keeps = changed-keeps s n (within e) none;
    each = λ k d has. elim (same_or_not k n) [
      | inl here ↦ own-value (with_domain s n e) k e (ap (domain_of (with_domain s n e)) here ∙ domain_here s n (within e) made)
      | inr other ↦ own-value (with_domain s n e) k d (domain_elsewhere s n (within e) k other ∙ has)
    ];
  }
  | inr past ↦ subst (Later s) (sym (past-changed s n (within e) past)) (later-none s sound)
]

-- ---- two variables that are made equal

-- two variables that aren't bound, the lower one first
record AreTwo (s : State) (low high : ℕ) : Type 0 where
  sound : IsSound s
  less : low < high
  low_none : held (bindings s) low ≡ None
  high_none : held (bindings s) high ≡ None

differ : (low high : ℕ) → low < high → (low ≢ high) × (high ≢ low)
differ low high less = (λ same. omega (arith, less, same), λ same. omega (arith, less, same))

-- the higher is bound to the lower, where that has no domain that is lost
ties : (s : State) (low high : ℕ) → AreTwo s low high → ((d : List Span) → domain_of s high ≡ Some d → (e : List Span) × (domain_of s low ≡ Some e)) → Later s (with_binding s high (var low))
unfolding Occurs
ties s low high two has =
    let r : State = with_binding s high (var low) in
    binds s high (var low) two.sound two.high_none
    (λ occurs. (differ low high two.less).0 (subst (Occurs high) (unbound_is_its_own_value (bindings s) low two.low_none) occurs))
    (λ d is. let there = has d is in own-value r low there.0 (domain_elsewhere s high (bound (var low)) low (differ low high two.less).0 ∙ there.1))

swapped : (s : State) (low high : ℕ) (v w : Variable) → low < high → with_variable (with_variable s low w) high v ≡ with_variable (with_variable s high v) low w
swapped s low high v w less = ap (with_all s) (set_comm s.variables low high w v (differ low high less).0)

-- the lower gets the domain first
gets-ties : (s : State) (low high : ℕ) (e : List Span) → AreTwo s low high → low < next s → IsDomain e → 2 ≤ size_of e → Later s (with_domain (with_binding s high (var low)) low e)
gets-ties s low high e two made up many =
    let q : State = with_domain s low e in
    let first : Later s q = gets s low e two.sound two.low_none up many in
    let same : bindings q ≡ bindings s = domain_bindings s low e two.low_none in
    subst (Later s) (swapped s low high (bound (var low)) (within e) two.less)
    (later-then s q (with_binding q high (var low)) first (ties q low high (record {
      sound = first.now;
      less = two.less;
      low_none = ap (λ (b : Bindings). held b low) same ∙ two.low_none;
      high_none = ap (λ (b : Bindings). held b high) same ∙ two.high_none;
    }) (λ d is. (e, domain_here s low (within e) made))))

-- a variable that is bound to an integer keeps it as its value
fixed-there : (q : State) (high low : ℕ) (i : ℤ) → IsWithinBounds i → IsSound q → held (bindings q) high ≡ None → (Occurs high (value (bindings q) (var low)) → ⊥) → high < next q → held (bindings q) low ≡ Some (int i) →
    MayBe (with_binding q high (var low)) (value (bindings (with_binding q high (var low))) (var low))
fixed-there q high low i b sound none apart made there =
    let r : State = with_binding q high (var low) in
    let now : IsSound r = binds-sound q high (var low) sound made none apart in
    let here : held (bindings r) low ≡ Some (int i) = changed-keeps q high (bound (var low)) none low (int i) there in
    subst (MayBe r) (sym (bound_has_value_of_its_term (bindings r) low (int i) now.acyclic here ∙ value_int (bindings r) i)) (integer i b)

-- or is bound first
fixes-ties : (s : State) (low high : ℕ) (i : ℤ) → AreTwo s low high → low < next s → IsWithinBounds i → Later s (with_binding (with_binding s high (var low)) low (int i))
unfolding Occurs instance
fixes-ties s low high i two made b =
    let q : State = with_binding s low (int i) in
    let r : State = with_binding q high (var low) in
    let first : Later s q =
    binds s low (int i) two.sound two.low_none (λ occurs. absurd (subst (Occurs low) (value_int (bindings s) i) occurs)) (λ d is. subst (MayBe q) (sym (value_int (bindings q) i)) (integer i b)) in
    let there : held (bindings q) low ≡ Some (int i) = held_here s low (bound (int i)) made in
    let worth : value (bindings q) (var low) ≡ int i = bound_has_value_of_its_term (bindings q) low (int i) first.now.acyclic there ∙ value_int (bindings q) i in
    let none : held (bindings q) high ≡ None = held_elsewhere s low (bound (int i)) high (differ low high two.less).1 ∙ two.high_none in
    let apart : Occurs high (value (bindings q) (var low)) → ⊥ = λ occurs. absurd (subst (Occurs high) worth occurs) in
    subst (Later s) (swapped s low high (bound (var low)) (bound (int i)) two.less)
    (later-then s q r first (binds q high (var low) first.now none apart (λ d is. fixed-there q high low i b first.now none apart (domain_made q high d is) there)))

-- ---- what one pair does

admitted : (s : State) (n : ℕ) (t : Tree) (d : List Span) (o : Option (List Span)) → IsSound s → domain_of s n ≡ o → o ≡ Some d → admits o t ≡ true → IsNoVariable t → (r : State) → MayBe r (value (bindings r) t)
admitted s n t d None sound at is e other r = absurd cc
admitted s n (var m) d (Some c) sound at is e other r = absurd (other m refl)
admitted s n (int i) d (Some c) sound at is e other r = subst (MayBe r) (sym (value_int (bindings r) i)) (integer i (values_are_within_bounds c i (sound.domains n c at).0 e))
admitted s n (atom f) d (Some c) sound at is e other r = absurd cc
admitted s n (comp f ts) d (Some c) sound at is e other r = absurd cc

by-values : (s : State) (low high : ℕ) (c : List Span) (vs : List ℤ) → AreTwo s low high → low < next s → IsDomain c → values_of c ≡ vs → OutcomeOf (Later s) (confined s low high c vs)
by-values s low high c [] two made up is = tt
by-values s low high c (i ∷ []) two made up is = fixes-ties s low high i two made (values_are_within_bounds c i up (first_value c i [] up is))
by-values s low high c (i ∷ j ∷ rest) two made up is = gets-ties s low high c two made up (two_values c i j rest is)

by-domains : (s : State) (low high : ℕ) (d e : Option (List Span)) → AreTwo s low high → domain_of s low ≡ d → domain_of s high ≡ e → OutcomeOf (Later s) (joined_with s low high d e)
by-domains s low high d None two at there = ties s low high two (λ f is. absurd cc)
by-domains s low high None (Some e) two at there =
    let made : high < next s = domain_made s high e there in
    let good = two.sound.domains high e there in
    gets-ties s low high e two (omega (arith, made, two.less)) good.0 good.1
by-domains s low high (Some d) (Some e) two at there =
    by-values s low high (common d e) (values_of (common d e)) two (domain_made s low d at) (IsDomain-common d e (two.sound.domains low d at).0 (two.sound.domains high e there).0) refl

-- a variable that isn't bound
abbrev IsFree : State → ℕ → Type 0
IsFree s n = held (bindings s) n ≡ None

pair-handles : (s : State) → IsSound s → Handles (Later s) (IsFree s) s
unfolding joined
pair-handles s sound = record {
  assigns = λ n t other none apart e. binds s n t sound none apart (λ d is. admitted s n t d (domain_of s n) sound refl is e other (with_binding s n t));
  joins = λ low high less lnone hnone. by-domains s low high (domain_of s low) (domain_of s high) (record { sound = sound; less = less; low_none = lnone; high_none = hnone }) refl refl;
}

pair-later : (s : State) (p : Pair) → IsSound s → OutcomeOf (Later s) (pair_outcome s p)
pair-later s p sound =
    outcome-of (Later s) (IsFree s) s (followed (bindings s) p.0) (followed (bindings s) p.1) (pair-handles s sound)
    (λ n e. followed_unbound (bindings s) p.0 n sound.acyclic e) (λ n e. followed_unbound (bindings s) p.1 n sound.acyclic e)

pub all-later : (k : ℕ) (s r : State) (ps : List Pair) → IsSound s → unified_for k s ps ≡ Some r → Later s r
all-later k s r ps sound same = pairs-lead IsSound Later (record { itself = later-none; further = later-then; good = λ q w l. l.now; pair = pair-later }) k s r ps sound same
