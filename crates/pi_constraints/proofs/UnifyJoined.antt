-- Two variables that are made equal.
use Rattle.std.proofs.Common.{◌≡◌, ◌≢◌, ℕ, suc, ◌+◌, ◌*◌, ◌<◌, ◌≤◌, Bool, true, false, ◌&&◌, List, [], ◌∷◌, Option, Some, None, refl, ap, sym, ◌∙◌, subst, inl, inr, arith}
use Rattle.std.specs.Prelude.{ℤ, IsTrue}
use Rattle.std.proofs.Math.Nat.{mul-le-mul_left}
use Rattle.pi_terms.specs.Tree.{Tree, var, int, cells}
use Rattle.pi_terms.specs.Places.{held}
use Rattle.pi_terms.specs.Variables.{Occurs}
use Rattle.pi_terms.specs.Substitution.{instance}
use Rattle.pi_constraints.specs.Domain.{IsDomain, has_value, values_of, common, size_of}
use Rattle.pi_constraints.specs.Value.{Bindings, value, IsAcyclic, Solves}
use Rattle.pi_constraints.specs.State.{State, bound, within, bindings, next, domain_of, with_binding, with_domain, IsState}
use Rattle.pi_constraints.specs.Unify.{Pair, confined, joined_with, joined, unbound_in, cells_of_pairs, Grows}
use Rattle.pi_constraints.specs.declared.domain.Span.{Span}
use Rattle.pi_constraints.proofs.ValueLemmas.{unbound_is_its_own_value, value_goes_by_variables}
use Rattle.pi_constraints.proofs.CommonLemmas.{IsDomain-common, has_value-common, no_value, first_value, one_value, two_values}
use Rattle.pi_constraints.proofs.StateLemmas.{changed_next, IsState-changed, domain_good, same_or_not, held_elsewhere, domain_here, domain_elsewhere, domain_bindings}
use Rattle.pi_constraints.proofs.UnifyBindings.{Admitted, MayBindIn, bound_state, bound_solves_from, bound_solves_to, bound_grows, bound_fewer, bound_cells, grows-trans, ToLower, bound_lower, same_lower, lower-trans}
use Rattle.pi_constraints.proofs.UnifyOutcome.{IsOutcome, Joins}

-- two unbound variables, the lower one first
pub record AreTwo (s : State) (low high : ℕ) : Type 0 where
  pub state : IsState s
  pub less : low < high
  pub made : high < next s
  pub low_unbound : held (bindings s) low ≡ None
  pub high_unbound : held (bindings s) high ≡ None

-- the state in which the higher is bound to the lower
abbrev pub tied : State → ℕ → ℕ → State
tied s low high = with_binding s high (var low)

pub may_tie : (s : State) (low high : ℕ) → AreTwo s low high → MayBindIn s high (var low)
unfolding Occurs
may_tie s low high two = record {
  state = two.state;
  made = two.made;
  unbound = two.high_unbound;
  below = λ m e. let same : low ≡ m = e in let less : low < high = two.less in let made : high < next s = two.made in subst (λ (k : ℕ). k < next s) same (omega arith);
  apart = λ e.
      let same : low ≡ high = subst (Occurs high) (unbound_is_its_own_value (bindings s) low two.low_unbound) e in
      let less : low < high = two.less in
      omega arith;
}

-- ---- a state that r becomes where it asks the right values of the lower one

record Becomes (s : State) (low high : ℕ) (r : State) (E : (ℕ → Tree) → Type 0) : Type 0 where
  pub state : IsState r
  pub grows : Grows s r
  pub lower : ToLower s r
  pub solves_from : (a : ℕ → Tree) → Solves a (bindings r) → Solves a (bindings s) × (a high ≡ a low) × E a
  pub solves_to : (a : ℕ → Tree) → Solves a (bindings s) → a high ≡ a low → E a → Solves a (bindings r)
  pub elsewhere : (m : ℕ) → m ≢ low → m ≢ high → domain_of r m ≡ domain_of s m
  pub none_high : domain_of r high ≡ None
  pub low_from : (a : ℕ → Tree) → a high ≡ a low → E a → Admitted r a low → Admitted s a low × Admitted s a high
  pub low_to : (a : ℕ → Tree) → a high ≡ a low → Admitted s a low → Admitted s a high → E a × Admitted r a low
  pub fewer : unbound_in (bindings r) < unbound_in (bindings s)
  pub size : (ps : List Pair) → cells_of_pairs (bindings r) ps ≤ cells_of_pairs (bindings s) ps * cells (value (bindings s) (var low))

becomes_joins : (s : State) (low high : ℕ) (r : State) (E : (ℕ → Tree) → Type 0) → Becomes s low high r E → Joins s (var low) (var high) r
unfolding instance
becomes_joins s low high r E b = record {
  state = b.state;
  grows = b.grows;
  lower = b.lower;
  solved = λ a solves. let x : Solves a (bindings s) × (a high ≡ a low) × E a = b.solves_from a solves in (x.0, sym x.1);
  before = λ a is.
      let x : Solves a (bindings s) × (a high ≡ a low) × E a = b.solves_from a is.solves in
      let y : Admitted s a low × Admitted s a high = b.low_from a x.1 x.2 (is.admitted low) in
      record {
        solves = x.0;
        admitted = λ m. elim (same_or_not m low) as (λ _. Admitted s a m) [
          | inl here ↦ subst (Admitted s a) (sym here) y.0
          | inr there ↦ elim (same_or_not m high) as (λ _. Admitted s a m) [
            | inl up ↦ subst (Admitted s a) (sym up) y.1
            | inr other ↦ λ d has. is.admitted m d (b.elsewhere m there other ∙ has)
          ]
        ];
      };
  after = λ a is one.
      let x : E a × Admitted r a low = b.low_to a (sym one) (is.admitted low) (is.admitted high) in
      record {
        solves = b.solves_to a is.solves (sym one) x.0;
        admitted = λ m. elim (same_or_not m low) as (λ _. Admitted r a m) [
          | inl here ↦ subst (Admitted r a) (sym here) x.1
          | inr there ↦ elim (same_or_not m high) as (λ _. Admitted r a m) [
            | inl up ↦ subst (Admitted r a) (sym up) (λ d has. let none : domain_of r high ≡ None = b.none_high in absurd (cc))
            | inr other ↦ λ d has. is.admitted m d (sym (b.elsewhere m there other) ∙ has)
          ]
        ];
      };
  fewer = b.fewer;
  size = λ ps.
      let here : cells_of_pairs (bindings r) ps ≤ cells_of_pairs (bindings s) ps * cells (value (bindings s) (var low)) = b.size ps in
      let more : cells_of_pairs (bindings s) ps * cells (value (bindings s) (var low)) ≤ cells_of_pairs (bindings s) ps * (cells (value (bindings s) (var low)) + cells (value (bindings s) (var high))) = mul-le-mul_left {m = cells (value (bindings s) (var low))} {n = cells (value (bindings s) (var low)) + cells (value (bindings s) (var high))} (cells_of_pairs (bindings s) ps) (omega arith) in
      omega arith;
}

abbrev Always : (ℕ → Tree) → Type 0
Always a = Unit {0}

-- ---- the higher bound to the lower, which keeps its values

tied_low : (s : State) (low high : ℕ) → AreTwo s low high → domain_of (tied s low high) low ≡ domain_of s low
tied_low s low high two = let less : low < high = two.less in domain_elsewhere s high (bound (var low)) low (λ e. omega arith)

tied_lower : (s : State) (low high : ℕ) → AreTwo s low high → ToLower s (tied s low high)
tied_lower s low high two = bound_lower s high (var low) two.made (λ m is. let less : low < high = two.less in let same : low ≡ m = cc in omega arith)

tied_becomes : (s : State) (low high : ℕ) → AreTwo s low high → domain_of s high ≡ None → Becomes s low high (tied s low high) Always
unfolding instance
tied_becomes s low high two none =
    let m : MayBindIn s high (var low) = may_tie s low high two in
    record {
      state = bound_state s high (var low) m;
      grows = bound_grows s high (var low) m;
      lower = tied_lower s low high two;
      solves_from = λ a solves. let x : Solves a (bindings s) × (a high ≡ a low) = bound_solves_from s high (var low) a m solves in (x.0, x.1, tt);
      solves_to = λ a solves one e. bound_solves_to s high (var low) a m solves one;
      elsewhere = λ k other far. domain_elsewhere s high (bound (var low)) k far;
      none_high = domain_here s high (bound (var low)) two.made;
      low_from = λ a one e h. ((λ d is. h d (tied_low s low high two ∙ is)), (λ d is. absurd (cc)));
      low_to = λ a one h k. (tt, λ d is. h d (sym (tied_low s low high two) ∙ is));
      fewer = omega (arith, bound_fewer s high (var low) m);
      size = λ ps. bound_cells s high (var low) ps m;
    }

-- ---- the higher bound to the lower, which gets other values

pub tied_unbound : (s : State) (low high : ℕ) → AreTwo s low high → held (bindings (tied s low high)) low ≡ None
tied_unbound s low high two = let less : low < high = two.less in held_elsewhere s high (bound (var low)) low (λ e. omega arith) ∙ two.low_unbound

pub tied_made : (s : State) (low high : ℕ) → AreTwo s low high → low < next (tied s low high)
tied_made s low high two =
    let less : low < high = two.less in
    let made : high < next s = two.made in
    let many : next (tied s low high) ≡ next s = changed_next s high (bound (var low)) in
    omega arith

domain_grows : (s : State) (n : ℕ) (e : List Span) → n < next s → held (bindings s) n ≡ None → ((d : List Span) → domain_of s n ≡ Some d → (i : ℤ) → IsTrue (has_value e i) → IsTrue (has_value d i)) → Grows s (with_domain s n e)
domain_grows s n e made unbound narrow = record {
  as_many = changed_next s n (within e);
  keeps = λ k t is. subst (λ b. held b k ≡ Some t) (sym (domain_bindings s n e unbound)) is;
  narrows = λ k d is none. elim (same_or_not k n) [
    | inl here ↦ (e, ap (domain_of (with_domain s n e)) here ∙ domain_here s n (within e) made, narrow d (sym (ap (domain_of s) here) ∙ is))
    | inr there ↦ (d, domain_elsewhere s n (within e) k there ∙ is, λ i h. h)
  ];
  constraints = refl;
  agents = refl;
  waiting = refl;
}

-- the values that both may have
record AreCommon (s : State) (low high : ℕ) (c : List Span) : Type 0 where
  pub narrow : (d : List Span) → domain_of s low ≡ Some d → (i : ℤ) → IsTrue (has_value c i) → IsTrue (has_value d i)
  pub narrow_high : (d : List Span) → domain_of s high ≡ Some d → (i : ℤ) → IsTrue (has_value c i) → IsTrue (has_value d i)
  pub all : (a : ℕ → Tree) → a high ≡ a low → Admitted s a low → Admitted s a high → (i : ℤ) × (a low ≡ int i) × IsTrue (has_value c i)

narrowed_becomes : (s : State) (low high : ℕ) (c : List Span) → AreTwo s low high → AreCommon s low high c → IsDomain c → 2 ≤ size_of c → Becomes s low high (with_domain (tied s low high) low c) Always
unfolding instance
narrowed_becomes s low high c two common up many =
    let m : MayBindIn s high (var low) = may_tie s low high two in
    let r : State = tied s low high in
    let q : State = with_domain r low c in
    let unbound : held (bindings r) low ≡ None = tied_unbound s low high two in
    let made : low < next r = tied_made s low high two in
    let same : bindings q ≡ bindings r = domain_bindings r low c unbound in
    let less : low < high = two.less in
    let state : IsState r = bound_state s high (var low) m in
    record {
      state = IsState-changed r low (within c) state made (up, many) (subst IsAcyclic (sym same) state.acyclic);
      grows = grows-trans s r q (bound_grows s high (var low) m) (domain_grows r low c made unbound (λ d is. common.narrow d (sym (tied_low s low high two) ∙ is)));
      lower =
          lower-trans s r q (domain_grows r low c made unbound (λ d is. common.narrow d (sym (tied_low s low high two) ∙ is)))
          (tied_lower s low high two) (same_lower r q same);
      solves_from = λ a solves. let x : Solves a (bindings s) × (a high ≡ a low) = bound_solves_from s high (var low) a m (subst (Solves a) same solves) in (x.0, x.1, tt);
      solves_to = λ a solves one e. subst (Solves a) (sym same) (bound_solves_to s high (var low) a m solves one);
      elsewhere = λ k other far. domain_elsewhere r low (within c) k other ∙ domain_elsewhere s high (bound (var low)) k far;
      none_high = domain_elsewhere r low (within c) high (λ e. omega arith) ∙ domain_here s high (bound (var low)) two.made;
      low_from = λ a one e h.
          let x : (i : ℤ) × (a low ≡ int i) × IsTrue (has_value c i) = h c (domain_here r low (within c) made) in
          ((λ d is. (x.0, x.1, common.narrow d is x.0 x.2)), (λ d is. (x.0, one ∙ x.1, common.narrow_high d is x.0 x.2)));
      low_to = λ a one h k. (
        tt,
        λ d is.
            let now : domain_of q low ≡ Some c = domain_here r low (within c) made in
            let here : c ≡ d = cc in
            let x : (i : ℤ) × (a low ≡ int i) × IsTrue (has_value c i) = common.all a one h k in
            (x.0, x.1, subst (λ (e : List Span). IsTrue (has_value e x.0)) here x.2),
      );
      fewer = let one_less : suc (unbound_in (bindings r)) ≡ unbound_in (bindings s) = bound_fewer s high (var low) m in let kept : unbound_in (bindings q) ≡ unbound_in (bindings r) = ap unbound_in same in omega arith;
      size = λ ps. subst (λ b. cells_of_pairs b ps ≤ cells_of_pairs (bindings s) ps * cells (value (bindings s) (var low))) (sym same) (bound_cells s high (var low) ps m);
    }

-- ---- both bound to the one value that they have in common

abbrev IsAt : ℕ → ℤ → (ℕ → Tree) → Type 0
IsAt low i a = a low ≡ int i

value_int : (b : Bindings) (i : ℤ) → value b (int i) ≡ int i
unfolding instance
value_int b i = value_goes_by_variables b (int i)

may_fix : (s : State) (low high : ℕ) (i : ℤ) → AreTwo s low high → MayBindIn (tied s low high) low (int i)
unfolding Occurs
may_fix s low high i two = record {
  state = bound_state s high (var low) (may_tie s low high two);
  made = tied_made s low high two;
  unbound = tied_unbound s low high two;
  below = λ m e. absurd e;
  apart = λ e. let none : Occurs low (int i) = subst (Occurs low) (value_int (bindings (tied s low high)) i) e in absurd none;
}

fixed_becomes : (s : State) (low high : ℕ) (c : List Span) (i : ℤ) → AreTwo s low high → AreCommon s low high c → has_value c i ≡ true → ((j : ℤ) → has_value c j ≡ true → j ≡ i) → Becomes s low high (with_binding (tied s low high) low (int i)) (IsAt low i)
unfolding instance cells
fixed_becomes s low high c i two common has only =
    let m : MayBindIn s high (var low) = may_tie s low high two in
    let r : State = tied s low high in
    let q : State = with_binding r low (int i) in
    let f : MayBindIn r low (int i) = may_fix s low high i two in
    let less : low < high = two.less in
    record {
      state = bound_state r low (int i) f;
      grows = grows-trans s r q (bound_grows s high (var low) m) (bound_grows r low (int i) f);
      lower = lower-trans s r q (bound_grows r low (int i) f) (tied_lower s low high two) (bound_lower r low (int i) f.made (λ k is. absurd (cc)));
      solves_from = λ a solves.
          let y : Solves a (bindings r) × (a low ≡ int i) = bound_solves_from r low (int i) a f solves in
          let x : Solves a (bindings s) × (a high ≡ a low) = bound_solves_from s high (var low) a m y.0 in
          (x.0, x.1, y.1);
      solves_to = λ a solves one e. bound_solves_to r low (int i) a f (bound_solves_to s high (var low) a m solves one) e;
      elsewhere = λ k other far. domain_elsewhere r low (bound (int i)) k other ∙ domain_elsewhere s high (bound (var low)) k far;
      none_high = domain_elsewhere r low (bound (int i)) high (λ e. omega arith) ∙ domain_here s high (bound (var low)) two.made;
      low_from = λ a one e h. ((λ d is. (i, e, common.narrow d is i has)), (λ d is. (i, one ∙ e, common.narrow_high d is i has)));
      low_to = λ a one h k.
          let x : (j : ℤ) × (a low ≡ int j) × IsTrue (has_value c j) = common.all a one h k in
          (x.1 ∙ ap int (only x.0 x.2), λ d is. let none : domain_of q low ≡ None = domain_here r low (bound (int i)) (tied_made s low high two) in absurd (cc));
      fewer =
          let first : suc (unbound_in (bindings r)) ≡ unbound_in (bindings s) = bound_fewer s high (var low) m in
          let second : suc (unbound_in (bindings q)) ≡ unbound_in (bindings r) = bound_fewer r low (int i) f in
          omega arith;
      size = λ ps.
          let first : cells_of_pairs (bindings r) ps ≤ cells_of_pairs (bindings s) ps * cells (value (bindings s) (var low)) = bound_cells s high (var low) ps m in
          let second : cells_of_pairs (bindings q) ps ≤ cells_of_pairs (bindings r) ps * cells (value (bindings r) (int i)) = bound_cells r low (int i) ps f in
          let one : cells_of_pairs (bindings r) ps * cells (value (bindings r) (int i)) ≡ cells_of_pairs (bindings r) ps * 1 = ap (λ (t : Tree). cells_of_pairs (bindings r) ps * cells t) (value_int (bindings r) i) in
          omega arith;
    }

-- ---- the outcome

both_true : (p q : Bool) → (p && q) ≡ true → (p ≡ true) × (q ≡ true)
both_true true true e = (refl, refl)
both_true true false e = absurd (cc)
both_true false q e = absurd (cc)

are_common : (s : State) (low high : ℕ) (d e : List Span) → domain_of s low ≡ Some d → domain_of s high ≡ Some e → AreCommon s low high (common d e)
are_common s low high d e l h = record {
  narrow = λ c is i has.
      let same : d ≡ c = cc in
      let x : (has_value d i ≡ true) × (has_value e i ≡ true) = both_true (has_value d i) (has_value e i) (sym (has_value-common d e i) ∙ has) in
      subst (λ (f : List Span). has_value f i ≡ true) same x.0;
  narrow_high = λ c is i has.
      let same : e ≡ c = cc in
      let x : (has_value d i ≡ true) × (has_value e i ≡ true) = both_true (has_value d i) (has_value e i) (sym (has_value-common d e i) ∙ has) in
      subst (λ (f : List Span). has_value f i ≡ true) same x.1;
  all = λ a one low_has high_has.
      let x : (i : ℤ) × (a low ≡ int i) × IsTrue (has_value d i) = low_has d l in
      let y : (i : ℤ) × (a high ≡ int i) × IsTrue (has_value e i) = high_has e h in
      let ints_same : int y.0 ≡ int x.0 = sym y.1 ∙ (one ∙ x.1) in
      let same : y.0 ≡ x.0 = cc in
      let there : has_value e x.0 ≡ true = subst (λ (n : ℤ). has_value e n ≡ true) same y.2 in
      let here : has_value d x.0 ≡ true = x.2 in
      (x.0, x.1, has_value-common d e x.0 ∙ (ap (λ (b : Bool). b && has_value e x.0) here ∙ there));
}

high_alone : (s : State) (low high : ℕ) (e : List Span) → domain_of s low ≡ None → domain_of s high ≡ Some e → AreCommon s low high e
high_alone s low high e l h = record {
  narrow = λ c is. absurd (cc);
  narrow_high = λ c is i has. let same : e ≡ c = cc in subst (λ (f : List Span). has_value f i ≡ true) same has;
  all = λ a one low_has high_has.
      let y : (i : ℤ) × (a high ≡ int i) × IsTrue (has_value e i) = high_has e h in
      (y.0, sym one ∙ y.1, y.2);
}

confined_outcome : (s : State) (low high : ℕ) (c : List Span) (values : List ℤ) → AreTwo s low high → AreCommon s low high c → IsDomain c → values_of c ≡ values → IsOutcome s (var low) (var high) (confined s low high c values)
unfolding instance
confined_outcome s low high c [] two common up is = λ a assigns one.
    let x : (i : ℤ) × (a low ≡ int i) × IsTrue (has_value c i) = common.all a (sym one) (assigns.admitted low) (assigns.admitted high) in
    let none : has_value c x.0 ≡ false = no_value c x.0 is in
    let some : has_value c x.0 ≡ true = x.2 in
    cc
confined_outcome s low high c (i ∷ []) two common up is =
    becomes_joins s low high (with_binding (tied s low high) low (int i)) (IsAt low i)
    (fixed_becomes s low high c i two common (first_value c i [] up is) (λ j has. one_value c i j up is has))
confined_outcome s low high c (i ∷ j ∷ rest) two common up is =
    becomes_joins s low high (with_domain (tied s low high) low c) Always (narrowed_becomes s low high c two common up (two_values c i j rest is))

joined_with_outcome : (s : State) (low high : ℕ) (d e : Option (List Span)) → AreTwo s low high → domain_of s low ≡ d → domain_of s high ≡ e → IsOutcome s (var low) (var high) (joined_with s low high d e)
joined_with_outcome s low high None None two l h = becomes_joins s low high (tied s low high) Always (tied_becomes s low high two h)
joined_with_outcome s low high (Some d) None two l h = becomes_joins s low high (tied s low high) Always (tied_becomes s low high two h)
joined_with_outcome s low high None (Some e) two l h =
    let good : IsDomain e × (2 ≤ size_of e) = domain_good s high e two.state h in
    becomes_joins s low high (with_domain (tied s low high) low e) Always (narrowed_becomes s low high e two (high_alone s low high e l h) good.0 good.1)
joined_with_outcome s low high (Some d) (Some e) two l h =
    let left : IsDomain d × (2 ≤ size_of d) = domain_good s low d two.state l in
    let right : IsDomain e × (2 ≤ size_of e) = domain_good s high e two.state h in
    confined_outcome s low high (common d e) (values_of (common d e)) two (are_common s low high d e l h) (IsDomain-common d e left.0 right.0) refl

pub joined_outcome : (s : State) (low high : ℕ) → AreTwo s low high → IsOutcome s (var low) (var high) (joined s low high)
unfolding joined
joined_outcome s low high two = joined_with_outcome s low high (domain_of s low) (domain_of s high) two refl refl
