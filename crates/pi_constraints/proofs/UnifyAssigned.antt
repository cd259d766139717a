-- A variable that is made equal to a term that is none.
use Rattle.std.proofs.Common.{◌≡◌, ℕ, ◌+◌, ◌*◌, ◌<◌, ◌≤◌, true, false, List, Option, Some, None, refl, ap, sym, ◌∙◌, subst, inl, inr, arith}
use Rattle.std.specs.Prelude.{ℤ, IsTrue}
use Rattle.std.proofs.lemmas.Bool.{cases_Bool}
use Rattle.std.proofs.Math.Nat.{mul-le-mul_left}
use Rattle.pi_terms.specs.Tree.{Tree, var, int, atom, comp, cells, cells_all}
use Rattle.pi_terms.specs.Places.{held}
use Rattle.pi_terms.specs.Variables.{Occurs}
use Rattle.pi_terms.specs.Substitution.{instance, instances}
use Rattle.pi_constraints.specs.Domain.{has_value}
use Rattle.pi_constraints.specs.Value.{Bindings, value, Solves}
use Rattle.pi_constraints.specs.State.{State, bindings, next, domain_of, with_binding, SpeaksBelow, IsState}
use Rattle.pi_constraints.specs.Unify.{does_occur, admits, assigned, cells_of_pairs}
use Rattle.pi_constraints.specs.declared.domain.Span.{Span}
use Rattle.pi_constraints.proofs.ValueLemmas.{value_has_same_instances, value_goes_by_variables}
use Rattle.pi_constraints.proofs.StateLemmas.{same_or_not}
use Rattle.pi_constraints.proofs.UnifyBindings.{Admitted, MayBindIn, bound_state, bound_solves_from, bound_solves_to, bound_grows, bound_admitted, bound_admitted_from, bound_admits_all, bound_fewer, bound_cells, bound_lower}
use Rattle.pi_constraints.proofs.UnifyOutcome.{IsOutcome, NoWay, Joins, does_occur_is, does_occur_not, parts_cells}
use Rattle.pi_constraints.proofs.FollowLemmas.{IsNoVariable}

-- ---- a term that would hold itself

deep_cells : (a : ℕ → Tree) (n : ℕ) (t : Tree) → IsNoVariable t → Occurs n t → cells (a n) < cells (instance a t)
unfolding instance Occurs cells
deep_cells a n (var m) other e = absurd (other m refl)
deep_cells a n (int m) other e = absurd e
deep_cells a n (atom name) other e = absurd e
deep_cells a n (comp name ts) other e = let rest : cells (a n) ≤ cells_all (instances a ts) = parts_cells a n ts e in omega arith

instance_other : (a : ℕ → Tree) (t : Tree) → IsNoVariable t → IsNoVariable (instance a t)
unfolding instance
instance_other a (var n) other = absurd (other n refl)
instance_other a (int n) other = λ m e. cc
instance_other a (atom name) other = λ m e. cc
instance_other a (comp name ts) other = λ m e. cc

value_other : (b : Bindings) (t : Tree) → IsNoVariable t → IsNoVariable (value b t)
value_other b t other m e = instance_other (λ n. value b (var n)) t other m (sym (value_goes_by_variables b t) ∙ e)

-- a term that is no variable and in whose value a variable occurs is never one with it
holds_itself : (s : State) (n : ℕ) (u : Tree) → IsNoVariable u → Occurs n (value (bindings s) u) → NoWay s (var n) u
unfolding instance
holds_itself s n u other occurs a is one =
    let same : instance a (value (bindings s) u) ≡ instance a u = value_has_same_instances (bindings s) a u is.solves in
    let size : cells (a n) ≡ cells (instance a (value (bindings s) u)) = ap cells (one ∙ sym same) in
    let deep : cells (a n) < cells (instance a (value (bindings s) u)) = deep_cells a n (value (bindings s) u) (value_other (bindings s) u other) occurs in
    omega arith

-- ---- a term that is no value of a domain

admits_value : (d : List Span) (u : Tree) → admits (Some d) u ≡ true → (i : ℤ) × (u ≡ int i) × (has_value d i ≡ true)
admits_value d (var n) e = absurd (cc)
admits_value d (int i) e = (i, refl, e)
admits_value d (atom name) e = absurd (cc)
admits_value d (comp name ts) e = absurd (cc)

value_admits : (a : ℕ → Tree) (d : List Span) (u : Tree) (i : ℤ) → IsNoVariable u → instance a u ≡ int i → has_value d i ≡ true → admits (Some d) u ≡ true
unfolding instance
value_admits a d (var n) i other is has = absurd (other n refl)
value_admits a d (int j) i other is has = let same : i ≡ j = cc in subst (λ (k : ℤ). has_value d k ≡ true) same has
value_admits a d (atom name) i other is has = absurd (cc)
value_admits a d (comp name ts) i other is has = absurd (cc)

not_admitted : (s : State) (n : ℕ) (u : Tree) (o : Option (List Span)) → IsNoVariable u → domain_of s n ≡ o → admits o u ≡ false → NoWay s (var n) u
unfolding instance
not_admitted s n u None other is e a assigns one = cc
not_admitted s n u (Some d) other is e a assigns one =
    let x : (i : ℤ) × (a n ≡ int i) × IsTrue (has_value d i) = assigns.admitted n d is in
    let yes_it_is : admits (Some d) u ≡ true = value_admits a d u x.0 other (sym one ∙ x.1) x.2 in
    cc

-- ---- a term that the variable can be

was_admitted : (s : State) (n : ℕ) (u : Tree) (a : ℕ → Tree) → admits (domain_of s n) u ≡ true → a n ≡ instance a u → Admitted s a n
unfolding instance
was_admitted s n u a e one d is =
    let v : (i : ℤ) × (u ≡ int i) × (has_value d i ≡ true) = admits_value d u (subst (λ (o : Option (List Span)). admits o u ≡ true) is e) in
    (v.0, one ∙ ap (instance a) v.1, v.2)

assigned_joins : (s : State) (n : ℕ) (u : Tree) → IsNoVariable u → MayBindIn s n u → admits (domain_of s n) u ≡ true → Joins s (var n) u (with_binding s n u)
unfolding instance
assigned_joins s n u other m e = record {
  state = bound_state s n u m;
  grows = bound_grows s n u m;
  lower = bound_lower s n u m.made (λ k is. absurd (other k is));
  solved = λ a solves. bound_solves_from s n u a m solves;
  before = λ a is.
      let x : Solves a (bindings s) × (a n ≡ instance a u) = bound_solves_from s n u a m is.solves in
      record {
        solves = x.0;
        admitted = λ k. elim (same_or_not k n) as (λ _. Admitted s a k) [
          | inl here ↦ subst (Admitted s a) (sym here) (was_admitted s n u a e x.1)
          | inr there ↦ bound_admitted_from s n u a k there (is.admitted k)
        ];
      };
  after = λ a is one. record {
    solves = bound_solves_to s n u a m is.solves one;
    admitted = λ k. elim (same_or_not k n) as (λ _. Admitted (with_binding s n u) a k) [
      | inl here ↦ subst (Admitted (with_binding s n u) a) (sym here) (bound_admits_all s n u a m)
      | inr there ↦ bound_admitted s n u a k m there (is.admitted k)
    ];
  };
  fewer = omega (arith, bound_fewer s n u m);
  size = λ ps.
      let here : cells_of_pairs (bindings (with_binding s n u)) ps ≤ cells_of_pairs (bindings s) ps * cells (value (bindings s) u) = bound_cells s n u ps m in
      let more : cells_of_pairs (bindings s) ps * cells (value (bindings s) u) ≤ cells_of_pairs (bindings s) ps * (cells (value (bindings s) (var n)) + cells (value (bindings s) u)) = mul-le-mul_left {m = cells (value (bindings s) u)} {n = cells (value (bindings s) (var n)) + cells (value (bindings s) u)} (cells_of_pairs (bindings s) ps) (omega arith) in
      omega arith;
}

pub assigned_outcome : (s : State) (n : ℕ) (u : Tree) → IsState s → n < next s → held (bindings s) n ≡ None → SpeaksBelow (next s) u → IsNoVariable u → IsOutcome s (var n) u (assigned s n u)
unfolding assigned
assigned_outcome s n u is made unbound below other = elim (cases_Bool (does_occur n (value (bindings s) u))) [
  | inl hit ↦ rw hit (holds_itself s n u other (does_occur_is n (value (bindings s) u) hit))
  | inr miss ↦ rw miss (elim (cases_Bool (admits (domain_of s n) u)) [
    | inl good ↦ rw good (assigned_joins s n u other (record { state = is; made = made; unbound = unbound; below = below; apart = does_occur_not n (value (bindings s) u) miss }) good)
    | inr bad ↦ rw bad (not_admitted s n u (domain_of s n) other refl bad)
  ])
]
