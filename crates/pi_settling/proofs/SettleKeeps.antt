-- What settling as a function keeps of every state: how many variables there are, and what they are bound to.
use Rattle.std.specs.Prelude.{◌≡◌, ◌⊎◌, ℕ, zero, suc, ◌==◌, ℤ, Bool, true, false, List, [], ◌∷◌, length, filter, get_or, Option, Some, None, unwrap_or, refl}
use Rattle.std.proofs.Common.{sym, ◌∙◌, ap, subst, inl, inr}
use Rattle.pi_terms.specs.Tree.{Tree, var, int, atom, comp}
use Rattle.pi_terms.specs.Places.{held}
use Rattle.pi_constraints.specs.declared.constraint.Constraint.{Constraint}
use Rattle.pi_constraints.specs.Domain.{values_of}
use Rattle.pi_constraints.specs.Value.{Bindings}
use Rattle.pi_constraints.specs.State.{State, Variable, free, within, bound, binding, bindings, next, followed_for, followed}
use Rattle.pi_constraints.proofs.StateLemmas.{held_is, as_many}
use Rattle.pi_constraints.proofs.FollowLemmas.{IsNoVariable, followed_later}
use Rattle.pi_settling.specs.Values.{domain_of_values}
use Rattle.pi_settling.specs.Settle.{is_kept, integers_left, variable_with, variable_left, variables_left, with_variables, run_of, runs_of, count_all, until_same, passes, stable_state}
use Rattle.pi_settling.specs.SettleLaws.{SettlingMakesNoVariable, FollowedStay, FollowedToVariables, SettlingKeepsTheRest}
use Rattle.pi_settling.proofs.RootLemmas.{Kept}
use Rattle.pi_settling.proofs.SettleVariables.{parts-of}
use Rattle.pi_settling.proofs.SettleRuns.{run-parts}
use Rattle.pi_settling.proofs.SettleLemmas.{and-then}

-- ---- variables

bound-stays : (p : ℤ → Bool) (v w : Variable) (t : Tree) → variable_left p v ≡ Some w → binding v ≡ Some t → binding w ≡ Some t
bound-stays p free w t e is = absurd (cc)
bound-stays p (within d) w t e is = absurd (cc)
bound-stays p (bound u) w t e is = let same : bound u ≡ w = cc in ap binding (sym same) ∙ is

-- unbound still, or bound to an integer
abbrev IsItemNow : Option Tree → Type 0
IsItemNow o = (o ≡ None) ⊎ ((i : ℤ) × (o ≡ Some (int i)))

with-item : (is : List ℤ) (w : Variable) → variable_with is ≡ Some w → IsItemNow (binding w)
with-item [] w e = absurd (cc)
with-item (i ∷ []) w e = let same : bound (int i) ≡ w = cc in inr (i, ap binding (sym same))
with-item (i ∷ j ∷ rest) w e = let same : within (domain_of_values (i ∷ j ∷ rest)) ≡ w = cc in inl (ap binding (sym same))

unbound-item : (p : ℤ → Bool) (v w : Variable) → variable_left p v ≡ Some w → binding v ≡ None → IsItemNow (binding w)
unbound-item p free w e is = let same : free ≡ w = cc in inl (ap binding (sym same))
unbound-item p (within d) w e is = with-item (filter p (values_of d)) w e
unbound-item p (bound u) w e is = absurd (cc)

record StayBound (vs ws : List Variable) : Type 0 where
  count : length ws ≡ length vs
  each : (k : ℕ) (t : Tree) → binding (get_or vs k free) ≡ Some t → binding (get_or ws k free) ≡ Some t
  items : (k : ℕ) → binding (get_or vs k free) ≡ None → IsItemNow (binding (get_or ws k free))

one-more : (p : ℤ → Bool) (v w : Variable) (vs us : List Variable) → variable_left p v ≡ Some w → StayBound vs us → StayBound (v ∷ vs) (w ∷ us)
one-more p v w vs us e rest = record { count = ap suc rest.count; each = by; items = item }
  where
    item : (k : ℕ) → binding (get_or (v ∷ vs) k free) ≡ None → IsItemNow (binding (get_or (w ∷ us) k free))
    item zero is = unbound-item p v w e is
    item (suc k) is = rest.items k is

    by : (k : ℕ) (t : Tree) → binding (get_or (v ∷ vs) k free) ≡ Some t → binding (get_or (w ∷ us) k free) ≡ Some t
    by zero t is = bound-stays p v w t e is
    by (suc k) t is = rest.each k t is

variables-stay : (kept : ℕ → ℤ → Bool) (n : ℕ) (vs ws : List Variable) → variables_left kept n vs ≡ Some ws → StayBound vs ws
unfolding variables_left
variables-stay kept n [] ws e = let same : [] ≡ ws = cc in subst (StayBound []) same (record { count = refl; each = λ k t is. is; items = λ k is. inl is })
variables-stay kept n (v ∷ vs) ws e =
    let p = parts-of (variable_left (kept n) v) (variables_left kept (suc n) vs) ws e in
    subst (StayBound (v ∷ vs)) p.4 (one-more (kept n) v p.0 vs p.1 p.2 (variables-stay kept (suc n) vs p.1 p.3))

-- ---- states

-- as many variables, what is bound stays so, what isn't is bound to integers alone, and nothing else is another
record StaysBound (s r : State) : Type 0 where
  count : next r ≡ next s
  kept : Kept (bindings s) (bindings r)
  items : (n : ℕ) → held (bindings s) n ≡ None → IsItemNow (held (bindings r) n)
  constraints : r.constraints ≡ s.constraints
  agents : r.agents ≡ s.agents
  waiting : r.waiting ≡ s.waiting

itself : (s : State) → StaysBound s s
itself s = record { count = refl; kept = λ n u is. is; items = λ n is. inl is; constraints = refl; agents = refl; waiting = refl }

item-kept : (r q : State) (n : ℕ) → StaysBound r q → IsItemNow (held (bindings r) n) → IsItemNow (held (bindings q) n)
item-kept r q n g (inl is) = g.items n is
item-kept r q n g (inr (i, is)) = inr (i, g.kept n (int i) is)

compose : (s r q : State) → StaysBound s r → StaysBound r q → StaysBound s q
compose s r q f g = record {
  count = g.count ∙ f.count;
  kept = λ n u is. g.kept n u (f.kept n u is);
  items = λ n is. item-kept r q n g (f.items n is);
  constraints = g.constraints ∙ f.constraints;
  agents = g.agents ∙ f.agents;
  waiting = g.waiting ∙ f.waiting;
}

run-stays : (s : State) (c : Constraint) (r : State) → run_of c s ≡ Some r → StaysBound s r
unfolding run_of
run-stays s c r e =
    let p = run-parts (integers_left s c) (variables_left (is_kept s c) 0 s.variables) s r e in
    let h : StayBound s.variables p.0 = variables-stay (is_kept s c) 0 s.variables p.0 p.2 in
    subst (StaysBound s) p.3 (record {
      count = h.count;
      kept = λ n u is. held_is (with_variables s p.0) n ∙ h.each n u (sym (held_is s n) ∙ is);
      items = λ n is. subst IsItemNow (sym (held_is (with_variables s p.0) n)) (h.items n (sym (held_is s n) ∙ is));
      constraints = refl;
      agents = refl;
      waiting = refl;
    })

runs-stay : (cs : List Constraint) (s r : State) → runs_of cs s ≡ Some r → StaysBound s r
unfolding runs_of
runs-stay [] s r e = let same : s ≡ r = cc in subst (StaysBound s) same (itself s)
runs-stay (c ∷ cs) s r e =
    let w = and-then (runs_of cs) (run_of c s) r e in
    compose s w.0 r (run-stays s c w.0 w.1) (runs-stay cs w.0 r w.2)

one-of : (b : Bool) (q r : State) (f : State → Option State) → until_same b q f ≡ Some r → (q ≡ r) ⊎ (f q ≡ Some r)
one-of true q r f e = let same : q ≡ r = cc in inl same
one-of false q r f e = inr e

passes-stay : (k : ℕ) (s r : State) → passes k s ≡ Some r → StaysBound s r
unfolding passes
passes-stay zero s r e = let same : s ≡ r = cc in subst (StaysBound s) same (itself s)
passes-stay (suc k) s r e =
    let w = and-then (λ q. until_same (count_all q == count_all s) q (passes k)) (runs_of s.constraints s) r e in
    let here : StaysBound s w.0 = runs-stay s.constraints s w.0 w.1 in
    elim (one-of (count_all w.0 == count_all s) w.0 r (passes k) w.2) [
      | inl same ↦ subst (StaysBound s) same here
      | inr more ↦ compose s w.0 r here (passes-stay k w.0 r more)
    ]

settling-stays : (s r : State) → stable_state s ≡ Some r → StaysBound s r
unfolding stable_state
settling-stays s r e = passes-stay (suc (count_all s)) s r e

-- ---- the laws

pub settling_makes_no_variable : SettlingMakesNoVariable
settling_makes_no_variable s r e = (settling-stays s r e).count

end-stays : (s r : State) (t u : Tree) → StaysBound s r → IsNoVariable u → followed (bindings s) t ≡ u → followed (bindings r) t ≡ u
end-stays s r t u h none is = followed_later (bindings s) (bindings r) t u (as_many r ∙ (h.count ∙ sym (as_many s))) h.kept (λ n e. absurd (none n e)) is

pub followed_stay : FollowedStay
followed_stay s r t e =
    let h : StaysBound s r = settling-stays s r e in (
      λ i is. end-stays s r t (int i) h (λ n same. absurd (cc)) is,
      λ name is. end-stays s r t (atom name) h (λ n same. absurd (cc)) is,
      λ name ts is. end-stays s r t (comp name ts) h (λ n same. absurd (cc)) is,
    )

integer-followed : (k : ℕ) (b : Bindings) (i : ℤ) → followed_for k b (int i) ≡ int i
unfolding followed_for
integer-followed zero b i = refl
integer-followed (suc k) b i = refl

unbound-followed : (k : ℕ) (b : Bindings) (n : ℕ) → held b n ≡ None → followed_for k b (var n) ≡ var n
unfolding followed_for
unbound-followed zero b n is = refl
unbound-followed (suc k) b n is = ap (λ (o : Option Tree). followed_for k b (unwrap_or o (var n))) is ∙ unbound-followed k b n is

-- to the variable still, or to an integer
abbrev IsNow : Tree → ℕ → Type 0
IsNow t n = (t ≡ var n) ⊎ ((i : ℤ) × (t ≡ int i))

item-followed : (k : ℕ) (c : Bindings) (n : ℕ) (o : Option Tree) → held c n ≡ o → IsItemNow o → IsNow (followed_for k c (unwrap_or o (var n))) n
item-followed k c n o at (inl is) = inl (ap (λ (p : Option Tree). followed_for k c (unwrap_or p (var n))) is ∙ unbound-followed k c n (at ∙ is))
item-followed k c n o at (inr (i, is)) = inr (i, ap (λ (p : Option Tree). followed_for k c (unwrap_or p (var n))) is ∙ integer-followed k c i)

variable-later : (k : ℕ) (b c : Bindings) (t : Tree) (n : ℕ) → Kept b c → ((m : ℕ) → held b m ≡ None → IsItemNow (held c m)) → followed_for k b t ≡ var n → IsNow (followed_for k c t) n
unfolding followed_for
variable-later zero b c t n kept items e = inl e
variable-later (suc k) b c (var m) n kept items e =
    let each : (o : Option Tree) → held b m ≡ o → followed_for k b (unwrap_or o (var m)) ≡ var n → IsNow (followed_for k c (unwrap_or (held c m) (var m))) n =
    λ o. elim o as (λ o. held b m ≡ o → followed_for k b (unwrap_or o (var m)) ≡ var n → IsNow (followed_for k c (unwrap_or (held c m) (var m))) n) [
      | None ↦ λ none goes.
          let same : m ≡ n = (let itself : var m ≡ var n = sym (unbound-followed k b m none) ∙ goes in cc) in
          subst (IsNow (followed_for k c (unwrap_or (held c m) (var m)))) same (item-followed k c m (held c m) refl (items m none))
      | Some u ↦ λ some goes.
          subst (λ (p : Option Tree). IsNow (followed_for k c (unwrap_or p (var m))) n) (sym (kept m u some)) (variable-later k b c u n kept items goes)
    ] in
    each (held b m) refl e
variable-later (suc k) b c (int i) n kept items e = absurd (cc)
variable-later (suc k) b c (atom name) n kept items e = absurd (cc)
variable-later (suc k) b c (comp name ts) n kept items e = absurd (cc)

pub followed_to_variables : FollowedToVariables
unfolding followed
followed_to_variables s r t n e is =
    let h : StaysBound s r = settling-stays s r e in
    let many : length (bindings r) ≡ length (bindings s) = as_many r ∙ (h.count ∙ sym (as_many s)) in
    subst (λ (k : ℕ). IsNow (followed_for k (bindings r) t) n) (sym many) (variable-later (length (bindings s)) (bindings s) (bindings r) t n h.kept h.items is)

pub settling_keeps_the_rest : SettlingKeepsTheRest
settling_keeps_the_rest s r e = let h : StaysBound s r = settling-stays s r e in (h.constraints, h.agents, h.waiting)
