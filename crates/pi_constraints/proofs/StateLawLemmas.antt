-- The changes that a store makes keep a state one.
use Rattle.std.proofs.Common.{◌≡◌, ℕ, zero, suc, ◌<◌, List, [], ◌∷◌, ◌++◌, Some, refl, ap, sym, ◌∙◌, subst, inl, inr}
use Rattle.std.specs.Prelude.{slice_get, IsSomeAnd, length}
use Rattle.pi_terms.specs.Tree.{Tree}
use Rattle.pi_terms.specs.Variables.{Occurs}
use Rattle.pi_constraints.specs.Value.{IsAcyclic, value}
use Rattle.pi_constraints.specs.State.{State, Agent, within, bindings, next, followed, ended, end_agent, SpeaksBelow, WatchBelow, MayPost, IsActivation, IsState, with_waiting}
use Rattle.pi_constraints.specs.StateLaws.{BindingKeepsAState, BindingAtRootKeepsAState, DomainKeepsAState, ConstraintKeepsAState, EndedKeepsAState, WaitingKeepsAState, TakenKeepsAState}
use Rattle.pi_constraints.specs.declared.constraint.Constraint.{Constraint}
use Rattle.pi_constraints.specs.declared.event.Activation.{Activation}
use Rattle.pi_terms.proofs.GetLemmas.{get_append_cases}
use Rattle.pi_constraints.proofs.FollowLemmas.{followed_value, followed_below}
use Rattle.pi_constraints.proofs.StateLemmas.{as_many, IsState-changed, domain_bindings, bound_below}
use Rattle.pi_constraints.proofs.UnifyBindings.{bound_state}

-- ---- variables

pub binding-keeps-a-state : BindingKeepsAState
binding-keeps-a-state s n u is may below =
    bound_state s n u (record { state = is; made = subst (λ (k : ℕ). n < k) (as_many s) may.made; unbound = may.unbound; below = below; apart = may.apart })

pub binding-at-root-keeps-a-state : BindingAtRootKeepsAState
binding-at-root-keeps-a-state s n u is may below =
    let same : value (bindings s) (followed (bindings s) u) ≡ value (bindings s) u = followed_value (bindings s) u is.acyclic in
    let P : Tree → Type 0 = λ v. Occurs n v in
    binding-keeps-a-state s n (followed (bindings s) u) is
    (record { acyclic = may.acyclic; made = may.made; unbound = may.unbound; apart = λ occurs. may.apart (subst P same occurs) })
    (followed_below (next s) (bindings s) u (λ k w held. bound_below s k w is held) below)

pub domain-keeps-a-state : DomainKeepsAState
domain-keeps-a-state s n d is unbound domain two =
    IsState-changed s n (within d) is unbound.0 (domain, two) (subst IsAcyclic (sym (domain_bindings s n d unbound.1)) is.acyclic)

-- ---- constraints

posted : (s : State) (c : Constraint) (i : ℕ) (x : Constraint) → IsState s → MayPost s c → slice_get (s.constraints ++ c ∷ []) i ≡ Some x → MayPost s x
posted s c i x is may got = elim (get_append_cases s.constraints c i x got) [ inl old ↦ is.constraints i x old | inr new ↦ subst (MayPost s) (sym new.1) may ]

pub constraint-keeps-a-state : ConstraintKeepsAState
constraint-keeps-a-state s c is may = record {
  acyclic = is.acyclic;
  variables = is.variables;
  constraints = λ i x got. posted s c i x is may got;
  agents = is.agents;
  waiting = λ i a got. let old : IsActivation s a = is.waiting i a got in record { made = old.made; value = old.value };
}

-- ---- agents that end

-- what holds of each agent holds where one is ended
each-ended : (P : Agent → Type 0) → ((a : Agent) → P a → P (ended a)) → (xs : List Agent) (n i : ℕ) (a : Agent) →
    ((j : ℕ) (b : Agent) → slice_get xs j ≡ Some b → P b) → slice_get (end_agent xs n) i ≡ Some a → P a
unfolding end_agent
each-ended P still [] n i a all got = all i a got
each-ended P still (x ∷ xs) zero zero a all got = let same : ended x ≡ a = cc in subst P same (still x (all 0 x refl))
each-ended P still (x ∷ xs) zero (suc i) a all got = all (suc i) a got
each-ended P still (x ∷ xs) (suc n) zero a all got = all 0 a got
each-ended P still (x ∷ xs) (suc n) (suc i) a all got = each-ended P still xs n i a (λ j b here. all (suc j) b here) got

one-ended : (P : Agent → Type 0) → ((a : Agent) → P a → P (ended a)) → (xs : List Agent) (n i : ℕ) → IsSomeAnd (slice_get xs i) P → IsSomeAnd (slice_get (end_agent xs n) i) P
unfolding end_agent
one-ended P still [] n i h = h
one-ended P still (x ∷ xs) zero zero h = still x h
one-ended P still (x ∷ xs) zero (suc i) h = h
one-ended P still (x ∷ xs) (suc n) zero h = h
one-ended P still (x ∷ xs) (suc n) (suc i) h = one-ended P still xs n i h

pub ended-keeps-a-state : EndedKeepsAState
ended-keeps-a-state s n is = record {
  acyclic = is.acyclic;
  variables = is.variables;
  constraints = is.constraints;
  agents = λ i a got. each-ended (λ (x : Agent). SpeaksBelow (next s) x.call × WatchBelow (next s) x.watches) (λ x below. below) s.agents n i a is.agents got;
  waiting = λ i a got.
      let old : IsActivation s a = is.waiting i a got in
      record { made = one-ended (λ (x : Agent). a.watch < length x.watches) (λ x made. made) s.agents n a.agent old.made; value = old.value };
}

-- ---- activations that wait

others-wait : (s : State) (waiting : List Activation) → IsState s → ((i : ℕ) (a : Activation) → slice_get waiting i ≡ Some a → IsActivation s a) → IsState (with_waiting s waiting)
others-wait s waiting is all = record {
  acyclic = is.acyclic;
  variables = is.variables;
  constraints = is.constraints;
  agents = is.agents;
  waiting = λ i a got. let old : IsActivation s a = all i a got in record { made = old.made; value = old.value };
}

pub waiting-keeps-a-state : WaitingKeepsAState
waiting-keeps-a-state s a is may = others-wait s (s.waiting ++ a ∷ []) is (λ i x got. elim (get_append_cases s.waiting a i x got) [
  | inl old ↦ is.waiting i x old
  | inr new ↦ subst (IsActivation s) (sym new.1) may
])

pub taken-keeps-a-state : TakenKeepsAState
taken-keeps-a-state s a rest is first = others-wait s rest is (λ i x got. is.waiting (suc i) x (ap (λ xs. slice_get xs (suc i)) first ∙ got))
