-- States that bind more variables than another, all of them to integers. In every state, also one that no store has, that is what narrowing, confining and settling come to.
use Rattle.std.specs.Prelude.{◌≡◌, ◌≢◌, ◌⊎◌, ℕ, zero, suc, ◌==◌, ◌<◌, ◌≤◌, ℤ, Bool, true, false, cond, List, [], ◌∷◌, length, filter, get_or, Option, Some, None, refl}
use Rattle.std.proofs.Common.{arith, sym, ◌∙◌, ap, subst, inl, inr}
use Rattle.pi_terms.specs.Tree.{Tree, int}
use Rattle.pi_terms.specs.Places.{held}
use Rattle.pi_constraints.specs.declared.constraint.Constraint.{Constraint}
use Rattle.pi_constraints.specs.declared.constraint.Item.{Item}
use Rattle.pi_constraints.specs.declared.domain.Span.{Span}
use Rattle.pi_constraints.specs.Domain.{values_of}
use Rattle.pi_constraints.specs.State.{State, Variable, free, within, bound, binding, bindings, next, with_variable, with_binding, with_domain}
use Rattle.pi_constraints.proofs.StateLemmas.{variable, held_is, same_or_not, changed_next, changed_here, changed_elsewhere}
use Rattle.pi_settling.specs.Roots.{root_item, all_values}
use Rattle.pi_settling.specs.Values.{domain_of_values}
use Rattle.pi_settling.specs.Confined.{with_default, confined_at, confined}
use Rattle.pi_settling.specs.Choices.{with_values, narrowed_to}
use Rattle.pi_settling.specs.Settle.{is_kept, integers_left, variable_with, variable_left, variables_left, run_of, runs_of, count_all, until_same, passes, stable_state, settlement as settlement_of_goal}
use Rattle.pi_settling.proofs.SettleVariables.{parts-of}
use Rattle.pi_settling.proofs.SettleRuns.{run-parts}
use Rattle.pi_settling.proofs.SettleLemmas.{and-then, leaves_the_stable_state}
use Rattle.pi_settling.proofs.TwiceLemmas.{past_free, less_or_not}
use Rattle.pi_meaning.specs.Shared.Settle.{is_unchanged, settlement}

-- ---- one variable

-- unbound still, or bound to an integer
abbrev pub IsItemNow : Option Tree → Type 0
IsItemNow o = (o ≡ None) ⊎ ((i : ℤ) × (o ≡ Some (int i)))

-- what is bound stays so, what isn't is bound to integers alone, and nothing gets free
pub record Becomes (v w : Variable) : Type 0 where
  pub kept : (t : Tree) → binding v ≡ Some t → binding w ≡ Some t
  pub item : binding v ≡ None → IsItemNow (binding w)
  pub freed : w ≡ free → v ≡ free

becomes-itself : (v : Variable) → Becomes v v
becomes-itself v = record { kept = λ t is. is; item = λ is. inl is; freed = λ is. is }

item-later : (v w : Variable) → Becomes v w → IsItemNow (binding v) → IsItemNow (binding w)
item-later v w g (inl is) = g.item is
item-later v w g (inr (i, is)) = inr (i, g.kept (int i) is)

becomes-then : (v w x : Variable) → Becomes v w → Becomes w x → Becomes v x
becomes-then v w x f g = record { kept = λ t is. g.kept t (f.kept t is); item = λ is. item-later w x g (f.item is); freed = λ is. f.freed (g.freed is) }

-- an unbound variable that is bound to an integer or has a domain
from-unbound : (v w : Variable) → binding v ≡ None → IsItemNow (binding w) → (w ≡ free → ⊥) → Becomes v w
from-unbound v w none now other = record { kept = λ t is. absurd (let no : None ≡ Some t = sym none ∙ is in cc); item = λ is. now; freed = λ is. absurd (other is) }

from-values : (d : List Span) (is : List ℤ) (w : Variable) → variable_with is ≡ Some w → Becomes (within d) w
from-values d [] w e = absurd (cc)
from-values d (i ∷ []) w e = let same : bound (int i) ≡ w = cc in subst (Becomes (within d)) same (from-unbound (within d) (bound (int i)) refl (inr (i, refl)) (λ no. absurd (cc)))
from-values d (i ∷ j ∷ rest) w e =
    let left : Variable = within (domain_of_values (i ∷ j ∷ rest)) in
    let same : left ≡ w = cc in
    subst (Becomes (within d)) same (from-unbound (within d) left refl (inl refl) (λ no. absurd (cc)))

left-becomes : (p : ℤ → Bool) (v w : Variable) → variable_left p v ≡ Some w → Becomes v w
left-becomes p free w e = let same : free ≡ w = cc in subst (Becomes free) same (becomes-itself free)
left-becomes p (within d) w e = from-values d (filter p (values_of d)) w e
left-becomes p (bound t) w e = let same : bound t ≡ w = cc in subst (Becomes (bound t)) same (becomes-itself (bound t))

-- ---- all of them

record AllBecome (vs ws : List Variable) : Type 0 where
  count : length ws ≡ length vs
  each : (k : ℕ) → Becomes (get_or vs k free) (get_or ws k free)

one-more : (v w : Variable) (vs ws : List Variable) → Becomes v w → AllBecome vs ws → AllBecome (v ∷ vs) (w ∷ ws)
one-more v w vs ws here rest = record { count = ap suc rest.count; each = by }
  where
    by : (k : ℕ) → Becomes (get_or (v ∷ vs) k free) (get_or (w ∷ ws) k free)
    by zero = here
    by (suc k) = rest.each k

all-become : (kept : ℕ → ℤ → Bool) (n : ℕ) (vs ws : List Variable) → variables_left kept n vs ≡ Some ws → AllBecome vs ws
unfolding variables_left
all-become kept n [] ws e = let same : [] ≡ ws = cc in subst (AllBecome []) same (record { count = refl; each = λ k. becomes-itself free })
all-become kept n (v ∷ vs) ws e =
    let p = parts-of (variable_left (kept n) v) (variables_left kept (suc n) vs) ws e in
    subst (AllBecome (v ∷ vs)) p.4 (one-more v p.0 vs p.1 (left-becomes (kept n) v p.0 p.2) (all-become kept (suc n) vs p.1 p.3))

-- ---- states

-- as many variables, and each is what it may become
pub record BindsIntegers (s r : State) : Type 0 where
  pub count : next r ≡ next s
  pub each : (n : ℕ) → Becomes (variable s n) (variable r n)

pub binds-itself : (s : State) → BindsIntegers s s
binds-itself s = record { count = refl; each = λ n. becomes-itself (variable s n) }

pub binds-then : (s r q : State) → BindsIntegers s r → BindsIntegers r q → BindsIntegers s q
binds-then s r q f g = record { count = g.count ∙ f.count; each = λ n. becomes-then (variable s n) (variable r n) (variable q n) (f.each n) (g.each n) }

-- what a variable is bound to stays, and one that isn't is bound to integers alone
pub binds-kept : (s r : State) → BindsIntegers s r → (n : ℕ) (t : Tree) → held (bindings s) n ≡ Some t → held (bindings r) n ≡ Some t
binds-kept s r h n t is = held_is r n ∙ (h.each n).kept t (sym (held_is s n) ∙ is)

pub binds-items : (s r : State) → BindsIntegers s r → (n : ℕ) → held (bindings s) n ≡ None → IsItemNow (held (bindings r) n)
binds-items s r h n is = subst IsItemNow (sym (held_is r n)) ((h.each n).item (sym (held_is s n) ∙ is))

-- ---- a variable that is narrowed

changed-binds : (s : State) (n : ℕ) (v : Variable) → held (bindings s) n ≡ None → IsItemNow (binding v) → (v ≡ free → ⊥) → BindsIntegers s (with_variable s n v)
changed-binds s n v none now other = record { count = changed_next s n v; each = λ m. at m (same_or_not m n) }
  where
    r : State
    r = with_variable s n v

    here : (n < next s) ⊎ (next s ≤ n) → Becomes (variable s n) (variable r n)
    here (inl made) = subst (Becomes (variable s n)) (sym (changed_here s n v made)) (from-unbound (variable s n) v (sym (held_is s n) ∙ none) now other)
    here (inr past) =
        let there : variable r n ≡ variable s n = past_free r n (omega (arith, changed_next s n v, past)) ∙ sym (past_free s n past) in
        subst (Becomes (variable s n)) (sym there) (becomes-itself (variable s n))

    at : (m : ℕ) → (m ≡ n) ⊎ (m ≢ n) → Becomes (variable s m) (variable r m)
    at m (inl same) = subst (λ (k : ℕ). Becomes (variable s k) (variable r k)) (sym same) (here (less_or_not n (next s)))
    at m (inr apart) = subst (Becomes (variable s m)) (sym (changed_elsewhere s n v m apart)) (becomes-itself (variable s m))

values-bind : (s r : State) (n : ℕ) (d : List Span) (is : List ℤ) → held (bindings s) n ≡ None → with_values s n d is ≡ Some r → BindsIntegers s r
values-bind s r n d [] none e = absurd (cc)
values-bind s r n d (i ∷ []) none e = let same : with_binding s n (int i) ≡ r = cc in subst (BindsIntegers s) same (changed-binds s n (bound (int i)) none (inr (i, refl)) (λ no. absurd (cc)))
values-bind s r n d (i ∷ j ∷ rest) none e = let same : with_domain s n d ≡ r = cc in subst (BindsIntegers s) same (changed-binds s n (within d) none (inl refl) (λ no. absurd (cc)))

pub narrowing-binds : (s r : State) (n : ℕ) (d : List Span) → held (bindings s) n ≡ None → narrowed_to s n d ≡ Some r → BindsIntegers s r
narrowing-binds s r n d none e = values-bind s r n d (values_of d) none e

-- ---- variables that are confined

default-binds : (s : State) (n : ℕ) (v : Variable) → variable s n ≡ v → BindsIntegers s (with_default s n v)
default-binds s n free is = changed-binds s n (within all_values) (held_is s n ∙ ap binding is) (inl refl) (λ no. absurd (cc))
default-binds s n (within d) is = binds-itself s
default-binds s n (bound t) is = binds-itself s

pub item-binds : (s : State) (x : Item) → BindsIntegers s (confined_at s x)
item-binds s (Item.Var n) = default-binds s n (variable s n) refl
item-binds s (Item.Int i) = binds-itself s

pub confining-binds : (s : State) (xs : List Item) → BindsIntegers s (confined s xs)
unfolding confined
confining-binds s [] = binds-itself s
confining-binds s (x ∷ xs) =
    let r : State = confined_at s (root_item s x) in
    binds-then s r (confined r xs) (item-binds s (root_item s x)) (confining-binds r xs)

-- ---- settling

run-binds : (s : State) (c : Constraint) (r : State) → run_of c s ≡ Some r → BindsIntegers s r
unfolding run_of
run-binds s c r e =
    let p = run-parts (integers_left s c) (variables_left (is_kept s c) 0 s.variables) s r e in
    let all : AllBecome s.variables p.0 = all-become (is_kept s c) 0 s.variables p.0 p.2 in
    subst (BindsIntegers s) p.3 (record { count = all.count; each = all.each })

runs-bind : (cs : List Constraint) (s r : State) → runs_of cs s ≡ Some r → BindsIntegers s r
unfolding runs_of
runs-bind [] s r e = let same : s ≡ r = cc in subst (BindsIntegers s) same (binds-itself s)
runs-bind (c ∷ cs) s r e =
    let w = and-then (runs_of cs) (run_of c s) r e in
    binds-then s w.0 r (run-binds s c w.0 w.1) (runs-bind cs w.0 r w.2)

one-of : (b : Bool) (q r : State) (f : State → Option State) → until_same b q f ≡ Some r → (q ≡ r) ⊎ (f q ≡ Some r)
one-of true q r f e = let same : q ≡ r = cc in inl same
one-of false q r f e = inr e

passes-bind : (k : ℕ) (s r : State) → passes k s ≡ Some r → BindsIntegers s r
unfolding passes
passes-bind zero s r e = let same : s ≡ r = cc in subst (BindsIntegers s) same (binds-itself s)
passes-bind (suc k) s r e =
    let w = and-then (λ q. until_same (count_all q == count_all s) q (passes k)) (runs_of s.constraints s) r e in
    let here : BindsIntegers s w.0 = runs-bind s.constraints s w.0 w.1 in
    elim (one-of (count_all w.0 == count_all s) w.0 r (passes k) w.2) [
      | inl same ↦ subst (BindsIntegers s) same here
      | inr more ↦ binds-then s w.0 r here (passes-bind k w.0 r more)
    ]

stable-binds : (s r : State) → stable_state s ≡ Some r → BindsIntegers s r
unfolding stable_state
stable-binds s r e = passes-bind (suc (count_all s)) s r e

goal-binds : (before s q : State) → (settlement_of_goal before s).left ≡ Some q → BindsIntegers s q
goal-binds before s q e =
    let there = leaves_the_stable_state before s q e in
    let stable : BindsIntegers s there.0 = stable-binds s there.0 there.1 in
    subst (BindsIntegers s) (sym there.2) (record { count = stable.count; each = stable.each })

by-change : (b : Bool) (before s q : State) → (cond b (record { load = 0; left = Some s }) (settlement_of_goal before s)).left ≡ Some q → BindsIntegers s q
by-change true before s q e = let same : s ≡ q = cc in subst (BindsIntegers s) same (binds-itself s)
by-change false before s q e = goal-binds before s q e

pub settlement-binds : (before s q : State) → (settlement before s).left ≡ Some q → BindsIntegers s q
unfolding settlement
settlement-binds before s q e = by-change (is_unchanged before s) before s q e
