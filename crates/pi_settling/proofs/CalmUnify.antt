-- A unification leaves a state that may settle: what is at the places of constraints comes to an integer, or to a variable with a domain.
use Rattle.std.specs.Prelude.{◌≡◌, ⊤, ℕ, ℤ, List, [], ◌∷◌, Option, Some, None, Contains, refl}
use Rattle.std.proofs.Common.{sym, ◌∙◌, subst, inl, inr}
use Rattle.pi_terms.specs.Tree.{Tree, var, int, atom, comp}
use Rattle.pi_terms.specs.Substitution.{instance}
use Rattle.pi_constraints.specs.declared.constraint.Constraint.{Constraint}
use Rattle.pi_constraints.specs.declared.constraint.Item.{Item}
use Rattle.pi_constraints.specs.declared.domain.Span.{Span}
use Rattle.pi_constraints.specs.Domain.{IsWithinBounds, values_of, common}
use Rattle.pi_constraints.specs.Value.{value}
use Rattle.pi_constraints.specs.State.{State, Variable, within, bound, bindings, domain_of, followed, with_variable, IsState}
use Rattle.pi_constraints.specs.Unify.{confined, joined_with, joined, pairs_ahead, all_unified}
use Rattle.pi_constraints.proofs.ValueLemmas.{unbound_is_its_own_value}
use Rattle.pi_constraints.proofs.StateLemmas.{changed_next, domain_unbound, domain_good}
use Rattle.pi_settling.specs.Roots.{root_item, item_of}
use Rattle.pi_settling.specs.CalmLaws.{KeepsTheRest, UnifiedKeepsTheRest, UnifiedMaySettle}
use Rattle.pi_settling.proofs.RootLemmas.{root-by_value}
use Rattle.pi_settling.proofs.KeepLemmas.{MayCome}
use Rattle.pi_settling.proofs.CalmOutcomes.{OutcomeOf, Handles, outcome-of, Leads, pairs-lead}
use Rattle.pi_settling.proofs.CalmBinds.{MayBe, integer, variable, IsSound, Later, value-then, all-later}

-- ---- what items come to

item-may_be : (r : State) (k : ℕ) (w : Tree) → MayBe r w → MayCome r (item_of k w)
item-may_be r k w (integer i b) = inr (i, refl, b)
item-may_be r k w (variable m e has) = inl (m, e, refl, has)

item-then : (s r : State) (k : ℕ) (w : Tree) → Later s r → value (bindings s) (var k) ≡ w → MayCome s (item_of k w) → MayBe r (value (bindings r) (var k))
unfolding instance
item-then s r k (var m) l is (inl (n, d, e, has)) =
    let same : n ≡ m = cc in
    subst (MayBe r) (sym (value-then s r k (var m) l is)) (l.each m d (subst (λ (j : ℕ). domain_of s j ≡ Some d) same has))
item-then s r k (var m) l is (inr (i, e, b)) = absurd cc
item-then s r k (int i) l is (inl (n, d, e, has)) = absurd cc
item-then s r k (int i) l is (inr (j, e, b)) =
    let same : j ≡ i = cc in
    subst (MayBe r) (sym (value-then s r k (int i) l is)) (integer i (subst IsWithinBounds same b))
item-then s r k (atom name) l is (inl (n, d, e, has)) = absurd (let same : k ≡ n = cc in let own : value (bindings s) (var k) ≡ var k = unbound_is_its_own_value (bindings s) k (domain_unbound s k d (subst (λ (j : ℕ). domain_of s j ≡ Some d) (sym same) has)) in cc)
item-then s r k (atom name) l is (inr (j, e, b)) = absurd cc
item-then s r k (comp name ts) l is (inl (n, d, e, has)) = absurd (let same : k ≡ n = cc in let own : value (bindings s) (var k) ≡ var k = unbound_is_its_own_value (bindings s) k (domain_unbound s k d (subst (λ (j : ℕ). domain_of s j ≡ Some d) (sym same) has)) in cc)
item-then s r k (comp name ts) l is (inr (j, e, b)) = absurd cc

item-comes : (s r : State) (y : Item) → Later s r → MayCome s (root_item s y) → MayCome r (root_item r y)
item-comes s r (Item.Var k) l old =
    subst (MayCome r) (sym (root-by_value (bindings r) k l.now.acyclic))
    (item-may_be r k (value (bindings r) (var k)) (item-then s r k (value (bindings s) (var k)) l refl (subst (MayCome s) (root-by_value (bindings s) k l.before.acyclic) old)))
item-comes s r (Item.Int i) l (inl (n, d, e, has)) = absurd cc
item-comes s r (Item.Int i) l (inr (j, e, b)) = inr (j, e, b)

-- ---- all else

rest-none : (s : State) → KeepsTheRest s s
rest-none s = record { many = refl; constraints = refl; agents = refl; waiting = refl }

rest-then : (s r q : State) → KeepsTheRest s r → KeepsTheRest r q → KeepsTheRest s q
rest-then s r q h g = record { many = g.many ∙ h.many; constraints = g.constraints ∙ h.constraints; agents = g.agents ∙ h.agents; waiting = g.waiting ∙ h.waiting }

rest-changed : (s : State) (n : ℕ) (v : Variable) → KeepsTheRest s (with_variable s n v)
rest-changed s n v = record { many = changed_next s n v; constraints = refl; agents = refl; waiting = refl }

rest-twice : (s : State) (m n : ℕ) (v w : Variable) → KeepsTheRest s (with_variable (with_variable s m v) n w)
rest-twice s m n v w = rest-then s (with_variable s m v) (with_variable (with_variable s m v) n w) (rest-changed s m v) (rest-changed (with_variable s m v) n w)

rest-confined : (s : State) (low high : ℕ) (d : List Span) (vs : List ℤ) → OutcomeOf (KeepsTheRest s) (confined s low high d vs)
rest-confined s low high d [] = tt
rest-confined s low high d (i ∷ []) = rest-twice s high low (bound (var low)) (bound (int i))
rest-confined s low high d (i ∷ j ∷ rest) = rest-twice s high low (bound (var low)) (within d)

rest-joined : (s : State) (low high : ℕ) (d e : Option (List Span)) → OutcomeOf (KeepsTheRest s) (joined_with s low high d e)
rest-joined s low high d None = rest-changed s high (bound (var low))
rest-joined s low high None (Some e) = rest-twice s high low (bound (var low)) (within e)
rest-joined s low high (Some d) (Some e) = rest-confined s low high (common d e) (values_of (common d e))

abbrev Any : ℕ → Type 0
Any n = ⊤

rest-handles : (s : State) → Handles (KeepsTheRest s) Any s
unfolding joined
rest-handles s = record { assigns = λ n t other any apart e. rest-changed s n (bound t); joins = λ low high less p q. rest-joined s low high (domain_of s low) (domain_of s high) }

rest-leads : Leads (λ s. ⊤) KeepsTheRest
rest-leads = record {
  itself = λ s any. rest-none s;
  further = rest-then;
  good = λ s r rest. tt;
  pair = λ s p any. outcome-of (KeepsTheRest s) Any s (followed (bindings s) p.0) (followed (bindings s) p.1) (rest-handles s) (λ n e. tt) (λ n e. tt);
}

pub unified_keeps_the_rest : UnifiedKeepsTheRest
unfolding all_unified
unified_keeps_the_rest s r t u e = pairs-lead (λ s. ⊤) KeepsTheRest rest-leads (pairs_ahead s ((t, u) ∷ [])) s r ((t, u) ∷ []) tt e

-- ---- a unification

sound-state : (s : State) → IsState s → IsSound s
sound-state s is = record { acyclic = is.acyclic; domains = λ n d has. domain_good s n d is has }

pub unified_may_settle : UnifiedMaySettle
unfolding all_unified
unified_may_settle s r t u is may e c y posted at =
    let later : Later s r = all-later (pairs_ahead s ((t, u) ∷ [])) s r ((t, u) ∷ []) (sound-state s is) e in
    let before : Contains s.constraints c = subst (λ (cs : List Constraint). Contains cs c) (unified_keeps_the_rest s r t u e).constraints posted in
    item-comes s r y later (may c y before at)
