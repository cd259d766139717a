-- States from which goals of a run begin: evaluation keeps them so, and what a goal leaves is settled to one.
use Rattle.std.proofs.Common.{◌≡◌, ℕ, zero, suc, ◌≤◌, ◌==◌, Bool, true, false, List, [], ◌∷◌, ◌++◌, length, refl, ap, sym, subst, ◌∙◌, arith, append_assoc, append-nil}
use Rattle.std.specs.Prelude.{ℤ, Some, not, ◌&&◌, replicate, slice_index_or}
use Rattle.std.specs.Ordering.{is_eq, int_cmp}
use Rattle.std.proofs.lemmas.Bool.Decides.{nat_tests}
use Rattle.std.proofs.lemmas.Int.{ints}
use Rattle.pi_terms.specs.Tree.{Tree, Trees}
use Rattle.pi_terms.specs.Places.{Places}
use Rattle.pi_constraints.specs.declared.constraint.Constraint.{Constraint}
use Rattle.pi_constraints.specs.declared.domain.Span.{Span}
use Rattle.pi_constraints.specs.State.{State, Variable, free, within, bound, binding, next, with_new, SpeaksBelow, PlacesBelow}
use Rattle.pi_constraints.specs.Evaluation.{Evaluated, evaluated, EvaluatedAll, evaluated_all, with_new_variables}
use Rattle.pi_constraints.proofs.KeepsLemmas.{TreesBelow, news-later, EvaluatedBelow, AllBelow, evaluated-below, evaluated-all-below}
use Rattle.pi_constraints.proofs.StateLemmas.{held_is}
use Rattle.pi_traces.specs.Trace.{Trace, then}
use Rattle.pi_traces.proofs.AnswerLemmas.{EachAnswer, each-map, each-then}
use Rattle.pi_settling.specs.Calm.{IsCalm}
use Rattle.pi_settling.specs.Load.{same_domain, is_another}
use Rattle.pi_settling.specs.Stable.{IsStable}
use Rattle.pi_settling.proofs.CalmLemmas.{stable_is_calm, calm_goes_by_variables, new_variables_keep_calm, evaluation_makes_variables, evaluation_of_all_makes_variables}
use Rattle.pi_settling.proofs.CalmEvents.{events_keep_calm}
use Rattle.pi_settling.proofs.SettleLemmas.{gives_the_stable_state}
use Rattle.pi_meaning.specs.Shared.Follows.{Follows}
use Rattle.pi_meaning.specs.Shared.Settle.{is_free, are_unchanged, is_unchanged, settled}
use Rattle.pi_meaning.proofs.Shared.SettleLemmas.{more-posted, settled-each}
use Rattle.pi_meaning.proofs.CoreMeaning.LeftLemmas.{Left}

-- such a state after another one: with its variables, and maybe more
abbrev pub CalmLater : State → State → Type 0
CalmLater s r = IsCalm r × (next s ≤ next r)

pub calm-itself : (s : State) → IsCalm s → CalmLater s s
calm-itself s is = (is, omega arith)

pub calm-further : (s r q : State) → next s ≤ next r → CalmLater r q → CalmLater s q
calm-further s r q h a = (a.0, omega (arith, h, a.1))

-- what follows such states is later than the first
pub onward : (s : State) (t : Trace State) (f : State → Trace State) → EachAnswer (CalmLater s) t → ((r : State) → CalmLater s r → EachAnswer (CalmLater r) (f r)) → EachAnswer (CalmLater s) (then t f)
onward s t f a each = each-then (CalmLater s) (CalmLater s) t f a (λ r k. each-map (CalmLater r) (CalmLater s) (λ q m. calm-further s r q k.1 m) (f r) (each r k))

pub news-calm : (k : ℕ) (s : State) → IsCalm s → CalmLater s (with_new_variables k s)
news-calm k s is = (new_variables_keep_calm k s is, (news-later k s is.state).1)

-- ---- what terms come to

pub record CalmEvaluated (s : State) (x : Evaluated) : Type 0 where
  pub state : IsCalm x.state
  pub more : next s ≤ next x.state
  pub below : SpeaksBelow (next x.state) x.tree
  pub slots : PlacesBelow (next x.state) x.slots

pub record CalmAll (s : State) (x : EvaluatedAll) : Type 0 where
  pub state : IsCalm x.state
  pub more : next s ≤ next x.state
  pub below : TreesBelow (next x.state) x.trees
  pub slots : PlacesBelow (next x.state) x.slots

-- a state that new variables alone were made in
made-calm : (s r : State) → IsCalm s → ((k : ℕ) × (r ≡ with_new_variables k s)) → IsCalm r
made-calm s r is made = subst IsCalm (sym made.1) (new_variables_keep_calm made.0 s is)

pub evaluated-calm : (t : Tree) (e : Places) (s : State) → IsCalm s → PlacesBelow (next s) e → CalmEvaluated s (evaluated t e s)
evaluated-calm t e s is slots =
    let a : EvaluatedBelow s (evaluated t e s) = evaluated-below t e s is.state slots in
    record { state = made-calm s (evaluated t e s).state is (evaluation_makes_variables t e s); more = a.more; below = a.below; slots = a.slots }

pub evaluated-all-calm : (ts : Trees) (e : Places) (s : State) → IsCalm s → PlacesBelow (next s) e → CalmAll s (evaluated_all ts e s)
evaluated-all-calm ts e s is slots =
    let a : AllBelow s (evaluated_all ts e s) = evaluated-all-below ts e s is.state slots in
    record { state = made-calm s (evaluated_all ts e s).state is (evaluation_of_all_makes_variables ts e s); more = a.more; below = a.below; slots = a.slots }

-- ---- a goal that changed nothing leaves a calm state: the variables are those that there were, and new ones

both-parts : (p q : Bool) → (p && q) ≡ true → (p ≡ true) × (q ≡ true)
both-parts true q h = (refl, h)
both-parts false q h = absurd cc

same-int : (i j : ℤ) → is_eq (int_cmp i j) ≡ true → i ≡ j
same-int i j e = grind (arith, ints)

span-same : (s t : Span) → s.lo ≡ t.lo → s.hi ≡ t.hi → s ≡ t
span-same s t lo hi = λ i. record { lo = lo i; hi = hi i }

domain-same : (d e : List Span) → same_domain d e ≡ true → d ≡ e
unfolding same_domain
domain-same [] [] h = refl
domain-same [] (t ∷ ts) h = absurd cc
domain-same (s ∷ ss) [] h = absurd cc
domain-same (s ∷ ss) (t ∷ ts) h =
    let parts = both-parts (is_eq (int_cmp s.lo t.lo)) (is_eq (int_cmp s.hi t.hi) && same_domain ss ts) h in
    let rest = both-parts (is_eq (int_cmp s.hi t.hi)) (same_domain ss ts) parts.1 in
    let first : s ≡ t = span-same s t (same-int s.lo t.lo parts.0) (same-int s.hi t.hi rest.0) in
    let later : ss ≡ ts = domain-same ss ts rest.1 in λ i. first i ∷ later i

not-not : (b : Bool) → not (not b) ≡ true → b ≡ true
not-not true h = refl
not-not false h = absurd cc

-- a bound variable stays so
variable-same : (v w : Variable) → not (is_another v w) ≡ true → ((t : Tree) → v ≡ bound t → w ≡ bound t) → w ≡ v
variable-same free free h keeps = refl
variable-same free (within e) h keeps = absurd cc
variable-same free (bound u) h keeps = absurd cc
variable-same (within d) free h keeps = absurd cc
variable-same (within d) (within e) h keeps = ap within (sym (domain-same d e (not-not (same_domain d e) h)))
variable-same (within d) (bound u) h keeps = absurd cc
variable-same (bound t) w h keeps = keeps t refl

free-one : (w : Variable) → is_free w ≡ true → w ≡ free
free-one free h = refl
free-one (within d) h = absurd cc
free-one (bound t) h = absurd cc

abbrev Keeps : List Variable → List Variable → Type 0
Keeps vs ws = (n : ℕ) (t : Tree) → slice_index_or vs n free ≡ bound t → slice_index_or ws n free ≡ bound t

with-free : (vs ws : List Variable) → are_unchanged vs ws ≡ true → Keeps vs ws → (k : ℕ) × (ws ≡ vs ++ replicate k free)
unfolding are_unchanged
with-free [] [] h keeps = (0, refl)
with-free [] (w ∷ ws) h keeps =
    let parts = both-parts (is_free w) (are_unchanged [] ws) h in
    let rest = with-free [] ws parts.1 (λ n t e. absurd cc) in
    (suc rest.0, λ i. free-one w parts.0 i ∷ rest.1 i)
with-free (v ∷ vs) [] h keeps = absurd cc
with-free (v ∷ vs) (w ∷ ws) h keeps =
    let parts = both-parts (not (is_another v w)) (are_unchanged vs ws) h in
    let rest = with-free vs ws parts.1 (λ n t e. keeps (suc n) t e) in
    (rest.0, λ i. variable-same v w parts.0 (λ t e. keeps 0 t e) i ∷ rest.1 i)

news-variables : (k : ℕ) (s : State) → (with_new_variables k s).variables ≡ s.variables ++ replicate k free
unfolding with_new_variables
news-variables zero s = sym (append-nil s.variables)
news-variables (suc k) s = news-variables k (with_new s) ∙ append_assoc s.variables (free ∷ []) (replicate k free)

bound-by : (v : Variable) (t : Tree) → v ≡ bound t → binding v ≡ Some t
bound-by v t e = ap binding e

binds : (v : Variable) (t : Tree) → binding v ≡ Some t → v ≡ bound t
binds free t e = absurd cc
binds (within d) t e = absurd cc
binds (bound u) t e = let same : u ≡ t = cc in ap bound same

none-posted : (cs ds : List Constraint) → length cs ≡ length (cs ++ ds) → ds ≡ []
none-posted cs [] e = refl
none-posted [] (d ∷ ds) e = absurd (omega (arith, e))
none-posted (c ∷ cs) (d ∷ ds) e = none-posted cs (d ∷ ds) (omega (arith, e))

unchanged-calm : (before s : State) → IsCalm before → Left before s → is_unchanged before s ≡ true → IsCalm s
unfolding is_unchanged
unchanged-calm before s calm left h =
    let parts = both-parts (length before.constraints == length s.constraints) (are_unchanged before.variables s.variables) h in
    let many : length before.constraints ≡ length s.constraints = grind (arith, nat_tests, parts.0) in
    let f : Follows before s = left.follows in
    let none : f.posted ≡ [] = none-posted before.constraints f.posted (many ∙ ap length f.constraints) in
    let posted : s.constraints ≡ before.constraints = f.constraints ∙ (ap (λ (cs : List Constraint). before.constraints ++ cs) none ∙ append-nil before.constraints) in
    let found : (k : ℕ) × (s.variables ≡ before.variables ++ replicate k free) =
    with-free before.variables s.variables parts.1 (λ n t e. binds (slice_index_or s.variables n free) t (sym (held_is s n) ∙ f.bound n t (held_is before n ∙ bound-by (slice_index_or before.variables n free) t e))) in
    calm_goes_by_variables (with_new_variables found.0 before) s (new_variables_keep_calm found.0 before calm) left.state (found.1 ∙ sym (news-variables found.0 before)) (posted ∙ sym (more-posted found.0 before))

-- ---- settling

pub settled-calm : (s r : State) → IsCalm s → Left s r → EachAnswer (CalmLater s) (settled s r)
settled-calm s r calm left =
    settled-each (CalmLater s) s r (λ unchanged. (unchanged-calm s r calm left unchanged, left.follows.count))
    (λ q is.
    let stable : IsStable r q = gives_the_stable_state r q left.state left.settles is in
    (events_keep_calm s q (stable_is_calm r q left.state left.settles stable), omega (arith, left.follows.count, stable.count)))
