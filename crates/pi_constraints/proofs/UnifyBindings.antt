-- What binding a variable does to a state and its assignments.
use Rattle.std.proofs.Common.{◌≡◌, ℕ, suc, ◌*◌, ◌<◌, ◌≤◌, List, Option, Some, None, refl, ap, sym, ◌∙◌, subst, inl, inr}
use Rattle.std.specs.Prelude.{ℤ, IsTrue}
use Rattle.pi_terms.specs.Tree.{Tree, var, int, cells}
use Rattle.pi_terms.specs.Places.{held}
use Rattle.pi_terms.specs.Variables.{Occurs}
use Rattle.pi_terms.specs.Substitution.{instance}
use Rattle.pi_constraints.specs.Domain.{has_value}
use Rattle.pi_constraints.specs.Value.{value, IsAcyclic, Solves, MayBind}
use Rattle.pi_constraints.specs.State.{State, bound, bindings, next, domain_of, with_binding, SpeaksBelow, IsState}
use Rattle.pi_constraints.specs.Unify.{Pair, unbound_in, cells_of_pairs, Grows}
use Rattle.pi_constraints.specs.declared.domain.Span.{Span}
use Rattle.pi_constraints.proofs.BindingLemmas.{binding_stays_acyclic}
use Rattle.pi_constraints.proofs.StateLemmas.{as_many, changed_next, IsState-changed, same_or_not, held_here, held_elsewhere, domain_here, domain_elsewhere, bound_bindings}
use Rattle.pi_constraints.proofs.UnifyCells.{pairs-bound, unbound-set}

-- an assignment gives a variable a value of its domain
abbrev pub Admitted : State → (ℕ → Tree) → ℕ → Type 0
Admitted s a n = (d : List Span) → domain_of s n ≡ Some d → (i : ℤ) × (a n ≡ int i) × IsTrue (has_value d i)

-- what makes a binding a sound one
pub record MayBindIn (s : State) (n : ℕ) (u : Tree) : Type 0 where
  pub state : IsState s
  pub made : n < next s
  pub unbound : held (bindings s) n ≡ None
  pub below : SpeaksBelow (next s) u
  pub apart : Occurs n (value (bindings s) u) → ⊥

pub may_bind : (s : State) (n : ℕ) (u : Tree) → MayBindIn s n u → MayBind (bindings s) n u
may_bind s n u m = record { acyclic = m.state.acyclic; made = subst (λ (k : ℕ). n < k) (sym (as_many s)) m.made; unbound = m.unbound; apart = m.apart }

pub bound_state : (s : State) (n : ℕ) (u : Tree) → MayBindIn s n u → IsState (with_binding s n u)
bound_state s n u m = IsState-changed s n (bound u) m.state m.made m.below (subst IsAcyclic (sym (bound_bindings s n u)) (binding_stays_acyclic (bindings s) n u (may_bind s n u m)))

-- assignments solve the new binding and those before
pub bound_solves_from : (s : State) (n : ℕ) (u : Tree) (a : ℕ → Tree) → MayBindIn s n u → Solves a (bindings (with_binding s n u)) → Solves a (bindings s) × (a n ≡ instance a u)
bound_solves_from s n u a m solves = (
  λ k w is. elim (same_or_not k n) [
    | inl here ↦ let none : held (bindings s) k ≡ None = ap (held (bindings s)) here ∙ m.unbound in absurd (cc)
    | inr there ↦ solves k w (held_elsewhere s n (bound u) k there ∙ is)
  ],
  solves n u (held_here s n (bound u) m.made),
)

pub bound_solves_to : (s : State) (n : ℕ) (u : Tree) (a : ℕ → Tree) → MayBindIn s n u → Solves a (bindings s) → a n ≡ instance a u → Solves a (bindings (with_binding s n u))
bound_solves_to s n u a m solves one k w is = elim (same_or_not k n) [
  | inl here ↦
      let at : held (bindings (with_binding s n u)) k ≡ held (bindings (with_binding s n u)) n = ap (held (bindings (with_binding s n u))) here in
      let now : held (bindings (with_binding s n u)) n ≡ Some u = held_here s n (bound u) m.made in
      let same : u ≡ w = cc in
      ap a here ∙ (one ∙ ap (instance a) same)
  | inr there ↦ solves k w (sym (held_elsewhere s n (bound u) k there) ∙ is)
]

pub bound_grows : (s : State) (n : ℕ) (u : Tree) → MayBindIn s n u → Grows s (with_binding s n u)
bound_grows s n u m = record {
  as_many = changed_next s n (bound u);
  keeps = λ k t is. elim (same_or_not k n) [
    | inl here ↦ let none : held (bindings s) k ≡ None = ap (held (bindings s)) here ∙ m.unbound in absurd (cc)
    | inr there ↦ held_elsewhere s n (bound u) k there ∙ is
  ];
  narrows = λ k d is unbound. elim (same_or_not k n) [
    | inl here ↦
        let now : held (bindings (with_binding s n u)) n ≡ Some u = held_here s n (bound u) m.made in
        let at : held (bindings (with_binding s n u)) k ≡ held (bindings (with_binding s n u)) n = ap (held (bindings (with_binding s n u))) here in
        absurd (cc)
    | inr there ↦ (d, domain_elsewhere s n (bound u) k there ∙ is, λ i h. h)
  ];
  constraints = refl;
  agents = refl;
  waiting = refl;
}

-- the values that a variable can have are asked of the others as before
pub bound_admitted : (s : State) (n : ℕ) (u : Tree) (a : ℕ → Tree) (k : ℕ) → MayBindIn s n u → (k ≡ n → ⊥) → Admitted s a k → Admitted (with_binding s n u) a k
bound_admitted s n u a k m other h d is = h d (sym (domain_elsewhere s n (bound u) k other) ∙ is)

pub bound_admitted_from : (s : State) (n : ℕ) (u : Tree) (a : ℕ → Tree) (k : ℕ) → (k ≡ n → ⊥) → Admitted (with_binding s n u) a k → Admitted s a k
bound_admitted_from s n u a k other h d is = h d (domain_elsewhere s n (bound u) k other ∙ is)

pub bound_admits_all : (s : State) (n : ℕ) (u : Tree) (a : ℕ → Tree) → MayBindIn s n u → Admitted (with_binding s n u) a n
bound_admits_all s n u a m d is = let none : domain_of (with_binding s n u) n ≡ None = domain_here s n (bound u) m.made in absurd (cc)

pub bound_fewer : (s : State) (n : ℕ) (u : Tree) → MayBindIn s n u → suc (unbound_in (bindings (with_binding s n u))) ≡ unbound_in (bindings s)
bound_fewer s n u m =
    ap (λ b. suc (unbound_in b)) (bound_bindings s n u) ∙ unbound-set (bindings s) n u (subst (λ (k : ℕ). n < k) (sym (as_many s)) m.made) m.unbound

pub bound_cells : (s : State) (n : ℕ) (u : Tree) (ps : List Pair) → MayBindIn s n u → cells_of_pairs (bindings (with_binding s n u)) ps ≤ cells_of_pairs (bindings s) ps * cells (value (bindings s) u)
bound_cells s n u ps m = subst (λ b. cells_of_pairs b ps ≤ cells_of_pairs (bindings s) ps * cells (value (bindings s) u)) (sym (bound_bindings s n u)) (pairs-bound (bindings s) n u ps (may_bind s n u m))

-- ---- growth

pub grows-refl : (s : State) → Grows s s
grows-refl s = record { as_many = refl; keeps = λ n t is. is; narrows = λ n d is unbound. (d, is, λ i h. h); constraints = refl; agents = refl; waiting = refl }

none_before : (s r : State) → Grows s r → (n : ℕ) (o : Option Tree) → held (bindings s) n ≡ o → held (bindings r) n ≡ None → held (bindings s) n ≡ None
none_before s r g n None is none = is
none_before s r g n (Some t) is none = let kept : held (bindings r) n ≡ Some t = g.keeps n t is in absurd (cc)

pub grows-trans : (s r q : State) → Grows s r → Grows r q → Grows s q
grows-trans s r q g h = record {
  as_many = h.as_many ∙ g.as_many;
  keeps = λ n t is. h.keeps n t (g.keeps n t is);
  narrows = λ n d is unbound.
      let none : held (bindings r) n ≡ None = none_before r q h n (held (bindings r) n) refl unbound in
      let first : (e : List Span) × (domain_of r n ≡ Some e) × ((i : ℤ) → IsTrue (has_value e i) → IsTrue (has_value d i)) = g.narrows n d is none in
      let second : (f : List Span) × (domain_of q n ≡ Some f) × ((i : ℤ) → IsTrue (has_value f i) → IsTrue (has_value first.0 i)) = h.narrows n first.0 first.1 unbound in
      (second.0, second.1, λ i has. first.2 i (second.2 i has));
  constraints = h.constraints ∙ g.constraints;
  agents = h.agents ∙ g.agents;
  waiting = h.waiting ∙ g.waiting;
}

-- ---- which of two variables is bound

-- a variable that r binds to another one, and s doesn't, is the higher of the two
abbrev pub ToLower : State → State → Type 0
ToLower s r = (m n : ℕ) → held (bindings s) n ≡ None → held (bindings r) n ≡ Some (var m) → m < n

pub bound_lower : (s : State) (n : ℕ) (u : Tree) → n < next s → ((m : ℕ) → u ≡ var m → m < n) → ToLower s (with_binding s n u)
bound_lower s n u made low m k none is = elim (same_or_not k n) [
  | inl here ↦
      let now : held (bindings (with_binding s n u)) n ≡ Some u = held_here s n (bound u) made in
      let at : held (bindings (with_binding s n u)) k ≡ held (bindings (with_binding s n u)) n = ap (held (bindings (with_binding s n u))) here in
      let same : u ≡ var m = cc in
      subst (λ (j : ℕ). m < j) (sym here) (low m same)
  | inr there ↦ let before : held (bindings (with_binding s n u)) k ≡ held (bindings s) k = held_elsewhere s n (bound u) k there in absurd (cc)
]

-- the same bindings bind no more
pub same_lower : (s r : State) → bindings r ≡ bindings s → ToLower s r
same_lower s r same m n none is = absurd (let here : held (bindings r) n ≡ held (bindings s) n = ap (λ b. held b n) same in cc)

lower_from : (s r q : State) → Grows r q → ToLower s r → ToLower r q → (n : ℕ) (o : Option Tree) → held (bindings r) n ≡ o → (m : ℕ) → held (bindings s) n ≡ None → held (bindings q) n ≡ Some (var m) → m < n
lower_from s r q g a b n None is m none has = b m n is has
lower_from s r q g a b n (Some t) is m none has =
    let kept : held (bindings q) n ≡ Some t = g.keeps n t is in
    let same : t ≡ var m = cc in
    a m n none (is ∙ ap Some same)

pub lower-trans : (s r q : State) → Grows r q → ToLower s r → ToLower r q → ToLower s q
lower-trans s r q g a b m n none has = lower_from s r q g a b n (held (bindings r) n) refl m none has
