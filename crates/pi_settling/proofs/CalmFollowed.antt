-- What terms are followed to stays where what is bound stays so, in every state.
use Rattle.std.specs.Prelude.{◌≡◌, ℕ, zero, suc, ◌≤◌, List, [], ◌∷◌, length, map, All, Option, Some, None, unwrap_or, refl}
use Rattle.std.proofs.Common.{arith, sym, ◌∙◌, ap, subst, inl, inr}
use Rattle.pi_terms.specs.Tree.{Tree, var, int, atom, comp}
use Rattle.pi_terms.specs.Places.{held}
use Rattle.pi_traces.specs.Trace.{Trace, one, done, answers}
use Rattle.pi_constraints.specs.declared.constraint.Constraint.{Constraint}
use Rattle.pi_constraints.specs.Value.{Bindings}
use Rattle.pi_constraints.specs.State.{State, Variable, binding, bindings, next, followed_for, followed, with_variable, with_constraint}
use Rattle.pi_constraints.specs.Evaluation.{with_new_variables}
use Rattle.pi_constraints.proofs.FollowLemmas.{IsNoVariable}
use Rattle.pi_constraints.proofs.KeepsLemmas.{news-next}
use Rattle.pi_constraints.proofs.StateLemmas.{held_is, as_many, changed_next, same_or_not, held_elsewhere}
use Rattle.pi_settling.specs.Stable.{IsStable}
use Rattle.pi_settling.specs.Load.{load, load_of_failure}
use Rattle.pi_settling.specs.Settled.{loaded, with_events, IsSettled}
use Rattle.pi_settling.specs.Confined.{confined}
use Rattle.pi_settling.specs.Posted.{with_constraints}
use Rattle.pi_settling.specs.CalmLaws.{FollowedStay, StableKeepsFollowed, SettledKeepsFollowed, NewVariablesKeepFollowed, ConfinedKeepsFollowed, ConstraintsKeepFollowed}
use Rattle.pi_settling.proofs.RootLemmas.{Kept}
use Rattle.pi_settling.proofs.TwiceLemmas.{stable-keeps}
use Rattle.pi_settling.proofs.ConfinedLemmas.{confining_binds_nothing}
use Rattle.pi_settling.proofs.CalmItems.{news-at}

-- ---- more is bound

itself : (k : ℕ) (c : Bindings) (t : Tree) → IsNoVariable t → followed_for k c t ≡ t
unfolding followed_for
itself zero c t other = refl
itself (suc k) c (var n) other = absurd (other n refl)
itself (suc k) c (int n) other = refl
itself (suc k) c (atom name) other = refl
itself (suc k) c (comp name ts) other = refl

unbound-itself : (k : ℕ) (b : Bindings) (n : ℕ) → held b n ≡ None → followed_for k b (var n) ≡ var n
unfolding followed_for
unbound-itself zero b n is = refl
unbound-itself (suc k) b n is = ap (λ (o : Option Tree). followed_for k b (unwrap_or o (var n))) is ∙ unbound-itself k b n is

-- further, and through more bindings
followed-further : (k j : ℕ) (b c : Bindings) → k ≤ j → Kept b c → (t u : Tree) → IsNoVariable u → followed_for k b t ≡ u → followed_for j c t ≡ u
unfolding followed_for
followed-further zero j b c less keeps t u other found = subst (λ (x : Tree). followed_for j c x ≡ u) (sym found) (itself j c u other)
followed-further (suc k) zero b c less keeps t u other found = absurd (omega (arith, less))
followed-further (suc k) (suc j) b c less keeps (int n) u other found = found
followed-further (suc k) (suc j) b c less keeps (atom name) u other found = found
followed-further (suc k) (suc j) b c less keeps (comp name ts) u other found = found
followed-further (suc k) (suc j) b c less keeps (var n) u other found = go (λ v at. followed-further k j b c (omega (arith, less)) keeps v u other at) (held b n) refl
  where
    go : ((v : Tree) → followed_for k b v ≡ u → followed_for j c v ≡ u) → (o : Option Tree) → held b n ≡ o → followed_for j c (unwrap_or (held c n) (var n)) ≡ u
    go later None at = absurd (other n (sym found ∙ (ap (λ (o : Option Tree). followed_for k b (unwrap_or o (var n))) at ∙ unbound-itself k b n at)))
    go later (Some v) at = ap (λ (o : Option Tree). followed_for j c (unwrap_or o (var n))) (keeps n v at) ∙ later v (sym (ap (λ (o : Option Tree). followed_for k b (unwrap_or o (var n))) at) ∙ found)

pub followed-stay : (s r : State) → next s ≤ next r → Kept (bindings s) (bindings r) → FollowedStay s r
unfolding followed
followed-stay s r more keeps t u other is =
    followed-further (length (bindings s)) (length (bindings r)) (bindings s) (bindings r) (omega (arith, more, as_many s, as_many r)) keeps t u other is

pub stay-same : (s r : State) → bindings r ≡ bindings s → FollowedStay s r
stay-same s r same t u other is = ap (λ (b : Bindings). followed b t) same ∙ is

pub stay-then : (s r q : State) → FollowedStay s r → FollowedStay r q → FollowedStay s q
stay-then s r q h g t u other is = g t u other (h t u other is)

-- ---- one variable that wasn't bound, and new ones

pub changed-keeps : (s : State) (n : ℕ) (v : Variable) → held (bindings s) n ≡ None → Kept (bindings s) (bindings (with_variable s n v))
changed-keeps s n v none k u is = elim (same_or_not k n) [
  | inl here ↦ absurd (let old : held (bindings s) k ≡ None = ap (held (bindings s)) here ∙ none in cc)
  | inr other ↦ held_elsewhere s n v k other ∙ is
]

pub changed-stay : (s : State) (n : ℕ) (v : Variable) → held (bindings s) n ≡ None → FollowedStay s (with_variable s n v)
changed-stay s n v none = followed-stay s (with_variable s n v) (omega (arith, changed_next s n v)) (changed-keeps s n v none)

pub news-held : (k : ℕ) (s : State) (n : ℕ) → held (bindings (with_new_variables k s)) n ≡ held (bindings s) n
news-held k s n = held_is (with_new_variables k s) n ∙ (ap binding (news-at k s n) ∙ sym (held_is s n))

pub new_variables_keep_followed : NewVariablesKeepFollowed
new_variables_keep_followed k s = followed-stay s (with_new_variables k s) (omega (arith, news-next k s)) (λ n u is. news-held k s n ∙ is)

-- ---- domains and constraints

pub confined_keeps_followed : ConfinedKeepsFollowed
confined_keeps_followed s items = stay-same s (confined s items) (confining_binds_nothing s items)

pub with-variables : (cs : List Constraint) (s : State) → (with_constraints cs s).variables ≡ s.variables
unfolding with_constraints
with-variables [] s = refl
with-variables (c ∷ cs) s = with-variables cs (with_constraint s c)

pub constraints_keep_followed : ConstraintsKeepFollowed
constraints_keep_followed s cs = stay-same s (with_constraints cs s) (ap (map binding) (with-variables cs s))

-- ---- settling

pub stable_keeps_followed : StableKeepsFollowed
stable_keeps_followed s r f = followed-stay s r (omega (arith, f.count)) (stable-keeps s r f)

answers-loaded : (k : ℕ) (t : Trace State) → answers (loaded k t) ≡ answers t
unfolding loaded answers
answers-loaded zero t = refl
answers-loaded (suc k) t = refl

none-all : (P : State → Type 0) → All P []
none-all P k d l = absurd (omega (arith, l))

one-all : (P : State → Type 0) (r : State) → P r → All P (r ∷ [])
one-all P r h zero d l = h
one-all P r h (suc k) d l = absurd (omega (arith, l))

-- what holds of the stable state with its events holds of what settling comes to
pub all-settled : (P : State → Type 0) (before s : State) (t : Trace State) → IsSettled before s t → ((r : State) → IsStable s r → P (with_events before r)) → All P (answers t)
unfolding answers
all-settled P before s t (inl (e, is)) each = subst (All P) (sym (ap answers is ∙ answers-loaded (load_of_failure before s) done)) (none-all P)
all-settled P before s t (inr (r, f, is)) each =
    subst (All P) (sym (ap answers is ∙ answers-loaded (load before s r) (one (with_events before r)))) (one-all P (with_events before r) (each r f))

pub settled_keeps_followed : SettledKeepsFollowed
settled_keeps_followed before s t is = all-settled (FollowedStay s) before s t is (λ r f. stable_keeps_followed s r f)
