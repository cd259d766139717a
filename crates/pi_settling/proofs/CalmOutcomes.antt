-- What holds of each state that a pair of a unification makes, and of the one that all pairs come to.
use Rattle.std.specs.Prelude.{◌≡◌, ⊤, ℕ, zero, suc, ◌<◌, ◌==◌, nat_lt, Bool, true, false, not, ◌&&◌, cond, List, [], ◌∷◌, ◌++◌, Some, refl}
use Rattle.std.proofs.Common.{arith, tests, subst, ltb-true, ltb-false}
use Rattle.pi_terms.specs.Tree.{Tree, var, int, atom, comp}
use Rattle.pi_terms.specs.Variables.{Occurs}
use Rattle.pi_constraints.specs.Value.{value}
use Rattle.pi_constraints.specs.State.{State, bindings, domain_of, followed, with_binding}
use Rattle.pi_constraints.specs.Unify.{Pair, Outcome, clash, changed, parts, does_occur, admits, assigned, joined, outcome, go_on, unified_for}
use Rattle.pi_constraints.proofs.FollowLemmas.{IsNoVariable}
use Rattle.pi_constraints.proofs.UnifyOutcome.{does_occur_not}

-- ---- outcomes

abbrev pub OutcomeOf : (State → Type 0) → Outcome → Type 0
OutcomeOf P clash = ⊤
OutcomeOf P (changed r) = P r
OutcomeOf P (parts qs) = ⊤

-- what is asked of the ways in which a pair changes a state, where variables at its roots are free in some way
pub record Handles (P : State → Type 0) (Free : ℕ → Type 0) (s : State) : Type 0 where
  pub assigns : (n : ℕ) (t : Tree) → IsNoVariable t → Free n → (Occurs n (value (bindings s) t) → ⊥) → admits (domain_of s n) t ≡ true → P (with_binding s n t)
  pub joins : (low high : ℕ) → low < high → Free low → Free high → OutcomeOf P (joined s low high)

assigned-of : (P : State → Type 0) (s : State) (n : ℕ) (t : Tree) → ((Occurs n (value (bindings s) t) → ⊥) → admits (domain_of s n) t ≡ true → P (with_binding s n t)) → OutcomeOf P (assigned s n t)
unfolding assigned
assigned-of P s n t h = by (does_occur n (value (bindings s) t)) (admits (domain_of s n) t) refl refl
  where
    by : (p q : Bool) → does_occur n (value (bindings s) t) ≡ p → admits (domain_of s n) t ≡ q → OutcomeOf P (cond (not p && q) (changed (with_binding s n t)) clash)
    by true q e f = tt
    by false true e f = h (does_occur_not n (value (bindings s) t) e) f
    by false false e f = tt

joined-of : (P : State → Type 0) (Free : ℕ → Type 0) (s : State) (m n : ℕ) → Handles P Free s → Free m → Free n → OutcomeOf P (cond (m == n) (parts []) (cond (nat_lt m n) (joined s m n) (joined s n m)))
joined-of P Free s m n h mfree nfree = by (m == n) (nat_lt m n) refl refl
  where
    by : (p q : Bool) → (m == n) ≡ p → nat_lt m n ≡ q → OutcomeOf P (cond p (parts []) (cond q (joined s m n) (joined s n m)))
    by true q e f = tt
    by false true e f = h.joins m n (ltb-true m n f) mfree nfree
    by false false e f = h.joins n m (grind (arith, tests, ltb-false m n f, e)) nfree mfree

either-of : (P : State → Type 0) (b : Bool) (qs : List Pair) → OutcomeOf P (cond b (parts qs) clash)
either-of P true qs = tt
either-of P false qs = tt

-- a term that is no variable, or a free one
abbrev IsEnd : (ℕ → Type 0) → Tree → Type 0
IsEnd Free t = (n : ℕ) → t ≡ var n → Free n

pub outcome-of : (P : State → Type 0) (Free : ℕ → Type 0) (s : State) (t u : Tree) → Handles P Free s → IsEnd Free t → IsEnd Free u → OutcomeOf P (outcome s t u)
unfolding outcome
outcome-of P Free s (var m) (var n) h a b = joined-of P Free s m n h (a m refl) (b n refl)
outcome-of P Free s (var n) (int i) h a b = assigned-of P s n (int i) (h.assigns n (int i) (λ m e. cc) (a n refl))
outcome-of P Free s (var n) (atom f) h a b = assigned-of P s n (atom f) (h.assigns n (atom f) (λ m e. cc) (a n refl))
outcome-of P Free s (var n) (comp f ts) h a b = assigned-of P s n (comp f ts) (h.assigns n (comp f ts) (λ m e. cc) (a n refl))
outcome-of P Free s (int i) (var n) h a b = assigned-of P s n (int i) (h.assigns n (int i) (λ m e. cc) (b n refl))
outcome-of P Free s (int i) (int j) h a b = either-of P _ []
outcome-of P Free s (int i) (atom f) h a b = tt
outcome-of P Free s (int i) (comp f ts) h a b = tt
outcome-of P Free s (atom f) (var n) h a b = assigned-of P s n (atom f) (h.assigns n (atom f) (λ m e. cc) (b n refl))
outcome-of P Free s (atom f) (int i) h a b = tt
outcome-of P Free s (atom f) (atom g) h a b = either-of P _ []
outcome-of P Free s (atom f) (comp g us) h a b = tt
outcome-of P Free s (comp f ts) (var n) h a b = assigned-of P s n (comp f ts) (h.assigns n (comp f ts) (λ m e. cc) (b n refl))
outcome-of P Free s (comp f ts) (int i) h a b = tt
outcome-of P Free s (comp f ts) (atom g) h a b = tt
outcome-of P Free s (comp f ts) (comp g us) h a b = either-of P _ _

-- ---- all pairs

-- the outcome of a pair
abbrev pub pair_outcome : State → Pair → Outcome
pair_outcome s p = outcome s (followed (bindings s) p.0) (followed (bindings s) p.1)

-- from a good state to those after it
pub record Leads (Good : State → Type 0) (R : State → State → Type 0) : Type 0 where
  pub itself : (s : State) → Good s → R s s
  pub further : (s r q : State) → R s r → R r q → R s q
  pub good : (s r : State) → R s r → Good r
  pub pair : (s : State) (p : Pair) → Good s → OutcomeOf (R s) (pair_outcome s p)

pub pairs-lead : (Good : State → Type 0) (R : State → State → Type 0) → Leads Good R → (k : ℕ) (s r : State) (ps : List Pair) → Good s → unified_for k s ps ≡ Some r → R s r
unfolding unified_for
pairs-lead Good R l zero s r [] good same = let here : s ≡ r = cc in subst (R s) here (l.itself s good)
pairs-lead Good R l (suc k) s r [] good same = let here : s ≡ r = cc in subst (R s) here (l.itself s good)
pairs-lead Good R l zero s r (p ∷ ps) good same = absurd cc
pairs-lead Good R l (suc k) s r (p ∷ ps) good same = by (λ q qs fine. pairs-lead Good R l k q r qs fine) (pair_outcome s p) (l.pair s p good) same
  where
    by : ((q : State) (qs : List Pair) → Good q → unified_for k q qs ≡ Some r → R q r) → (o : Outcome) → OutcomeOf (R s) o → go_on (unified_for k) s ps o ≡ Some r → R s r
    by rest clash h left = absurd cc
    by rest (changed q) h left = l.further s q r h (rest q ps (l.good s q h) left)
    by rest (parts qs) h left = rest s (qs ++ ps) good left
