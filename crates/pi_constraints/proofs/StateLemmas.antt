-- States in which one variable is bound or gets a domain.
use Rattle.pi_constraints.specs.Store.{StoreView, Keeps, Extend}
use Rattle.std.proofs.Common.{◌≡◌, ◌≢◌, ◌⊎◌, ℕ, ◌<◌, ◌≤◌, ◌==◌, List, Some, None, length, nat_lt, set, get_or, refl, ap, sym, ◌∙◌, subst, inl, inr, eq-eqb}
use Rattle.std.proofs.Math.ListN.{get_or-map}
use Rattle.std.proofs.lemmas.List.{get_or-set_same, get_or-set_other, length-set, map-set, get_or_past, length-map, set-get_or}
use Rattle.std.proofs.lemmas.Option.{slice_get_within, get_or_from_slice_get, slice_get-get_or}
use Rattle.std.proofs.lemmas.Bool.{cases_Bool, eqb-true, ltb-true, ltb-false}
use Rattle.pi_terms.specs.Tree.{Tree}
use Rattle.pi_terms.specs.Places.{held}
use Rattle.pi_constraints.specs.Value.{IsAcyclic}
use Rattle.pi_constraints.specs.Domain.{IsDomain, size_of}
use Rattle.pi_constraints.specs.Constraint.{SpeaksOf, IsWithinLimits}
use Rattle.pi_constraints.proofs.ValueLemmas.{made}
use Rattle.pi_constraints.specs.State.{WatchBelow, State, Variable, free, within, bound, binding, domain_in, bindings, next, domain_of, with_variable, with_binding, with_domain, IsVariable, IsActivation, IsState, SpeaksBelow}
use Rattle.pi_constraints.specs.declared.domain.Span.{Span}

abbrev pub variable : State → ℕ → Variable
variable s n = get_or s.variables n free

pub held_is : (s : State) (n : ℕ) → held (bindings s) n ≡ binding (variable s n)
held_is s n = get_or-map binding s.variables n free

pub as_many : (s : State) → length (bindings s) ≡ next s
as_many s = length-map s.variables binding

-- ---- one variable changed

pub changed_bindings : (s : State) (n : ℕ) (v : Variable) → bindings (with_variable s n v) ≡ set (bindings s) n (binding v)
changed_bindings s n v = map-set binding s.variables n v

pub changed_next : (s : State) (n : ℕ) (v : Variable) → next (with_variable s n v) ≡ next s
changed_next s n v = length-set s.variables n v

pub changed_here : (s : State) (n : ℕ) (v : Variable) → n < next s → variable (with_variable s n v) n ≡ v
changed_here s n v h = get_or-set_same s.variables n v free h

pub changed_elsewhere : (s : State) (n : ℕ) (v : Variable) (m : ℕ) → m ≢ n → variable (with_variable s n v) m ≡ variable s m
changed_elsewhere s n v m other = get_or-set_other s.variables n m v free other

pub state_variable : (s : State) (n : ℕ) → IsState s → n < next s → IsVariable (next s) (variable s n)
state_variable s n is h = is.variables n (variable s n) (slice_get-get_or s.variables n free h)

changed_variable : (s : State) (n : ℕ) (v : Variable) (m : ℕ) → IsState s → n < next s → IsVariable (next s) v → m < next s → IsVariable (next s) (variable (with_variable s n v) m)
changed_variable s n v m is made good h = elim (cases_Bool (m == n)) [
  | inl here ↦ subst (IsVariable (next s)) (sym (ap (λ (k : ℕ). variable (with_variable s n v) k) (eqb-true m n here) ∙ changed_here s n v made)) good
  | inr there ↦ subst (IsVariable (next s)) (sym (changed_elsewhere s n v m (λ same. cc (eq-eqb m n same)))) (state_variable s m is h)
]

-- a state in which a variable gets another binding or domain is a state
pub IsState-changed : (s : State) (n : ℕ) (v : Variable) → IsState s → n < next s → IsVariable (next s) v → IsAcyclic (bindings (with_variable s n v)) → IsState (with_variable s n v)
IsState-changed s n v is made good acyclic =
    let r : State = with_variable s n v in
    let many : next s ≡ next r = sym (changed_next s n v) in
    record {
      acyclic = acyclic;
      variables = λ m w got.
          let within : m < next s = subst (λ (k : ℕ). m < k) (sym many) (slice_get_within r.variables m w got) in
          let here : variable r m ≡ w = get_or_from_slice_get r.variables m w free got in
          let old : IsVariable (next s) w = subst (IsVariable (next s)) here (changed_variable s n v m is made good within) in
          subst (λ (k : ℕ). IsVariable k w) many old;
      constraints = λ i c got.
          let old : IsWithinLimits c × ((m : ℕ) → SpeaksOf c m → m < next s) = is.constraints i c got in
          (old.0, λ m speaks. subst (λ (k : ℕ). m < k) many (old.1 m speaks));
      agents = λ i a got.
          let old : SpeaksBelow (next s) a.call × WatchBelow (next s) a.watches = is.agents i a got in
          (subst (λ (k : ℕ). SpeaksBelow k a.call) many old.0, subst (λ (k : ℕ). WatchBelow k a.watches) many old.1);
      waiting = λ i a got.
          let old : IsActivation s a = is.waiting i a got in
          record { made = old.made; value = λ t e. subst (λ (k : ℕ). SpeaksBelow k t) many (old.value t e) };
    }

-- ---- unbound variables and domains

from_variable : (v : Variable) (d : List Span) → domain_in v ≡ Some d → binding v ≡ None
from_variable free d is = refl
from_variable (within e) d is = refl
from_variable (bound t) d is = absurd (cc)

variable_from_domain : (v : Variable) (d : List Span) → domain_in v ≡ Some d → v ≡ within d
variable_from_domain free d is = absurd (cc)
variable_from_domain (within e) d is = cc
variable_from_domain (bound t) d is = absurd (cc)

variable_from_binding : (v : Variable) (t : Tree) → binding v ≡ Some t → v ≡ bound t
variable_from_binding free t is = absurd (cc)
variable_from_binding (within e) t is = absurd (cc)
variable_from_binding (bound u) t is = cc

made_if_not_free : (s : State) (n : ℕ) (d : List Span) → variable s n ≡ within d → n < next s
made_if_not_free s n d is = elim (cases_Bool (nat_lt n (next s))) [
  | inl hit ↦ ltb-true n (next s) hit
  | inr miss ↦ let past : variable s n ≡ free = get_or_past s.variables n free (ltb-false n (next s) miss) in absurd (cc)
]

-- a variable with a domain is unbound
pub domain_unbound : (s : State) (n : ℕ) (d : List Span) → domain_of s n ≡ Some d → held (bindings s) n ≡ None
domain_unbound s n d is = held_is s n ∙ from_variable (variable s n) d is

-- a domain is one, and has two or more values
pub domain_good : (s : State) (n : ℕ) (d : List Span) → IsState s → domain_of s n ≡ Some d → IsDomain d × (2 ≤ size_of d)
domain_good s n d is has =
    let at : variable s n ≡ within d = variable_from_domain (variable s n) d has in
    let made : n < next s = made_if_not_free s n d at in
    subst (IsVariable (next s)) at (state_variable s n is made)

pub bound_below : (s : State) (n : ℕ) (t : Tree) → IsState s → held (bindings s) n ≡ Some t → SpeaksBelow (next s) t
bound_below s n t is has =
    let at : variable s n ≡ bound t = variable_from_binding (variable s n) t (sym (held_is s n) ∙ has) in
    let below : n < next s = subst (λ (k : ℕ). n < k) (as_many s) (made (bindings s) n t has) in
    subst (IsVariable (next s)) at (state_variable s n is below)

-- ---- what a changed variable does to bindings and domains

pub same_or_not : (m n : ℕ) → (m ≡ n) ⊎ (m ≢ n)
same_or_not m n = elim (cases_Bool (m == n)) [ inl here ↦ inl (eqb-true m n here) | inr there ↦ inr (λ same. cc (eq-eqb m n same)) ]

pub held_here : (s : State) (n : ℕ) (v : Variable) → n < next s → held (bindings (with_variable s n v)) n ≡ binding v
held_here s n v h = held_is (with_variable s n v) n ∙ ap binding (changed_here s n v h)

pub held_elsewhere : (s : State) (n : ℕ) (v : Variable) (m : ℕ) → m ≢ n → held (bindings (with_variable s n v)) m ≡ held (bindings s) m
held_elsewhere s n v m other = held_is (with_variable s n v) m ∙ (ap binding (changed_elsewhere s n v m other) ∙ sym (held_is s m))

pub domain_here : (s : State) (n : ℕ) (v : Variable) → n < next s → domain_of (with_variable s n v) n ≡ domain_in v
domain_here s n v h = ap domain_in (changed_here s n v h)

pub domain_elsewhere : (s : State) (n : ℕ) (v : Variable) (m : ℕ) → m ≢ n → domain_of (with_variable s n v) m ≡ domain_of s m
domain_elsewhere s n v m other = ap domain_in (changed_elsewhere s n v m other)

-- a domain leaves the bindings as they are
pub domain_bindings : (s : State) (n : ℕ) (d : List Span) → held (bindings s) n ≡ None → bindings (with_domain s n d) ≡ bindings s
domain_bindings s n d is = changed_bindings s n (within d) ∙ (ap (set (bindings s) n) (sym is) ∙ set-get_or (bindings s) n None)

-- a binding
pub bound_bindings : (s : State) (n : ℕ) (u : Tree) → bindings (with_binding s n u) ≡ set (bindings s) n (Some u)
bound_bindings s n u = changed_bindings s n (bound u)

pub extends : {M : Type 0} (v w : StoreView M) → Keeps v w → Extend v.now.terms w.now.terms
extends v w keeps n x is = keeps.terms (record { number = n }) x is
