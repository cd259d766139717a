-- Lemmas on settling: a goal that changed nothing, states without constraints, and what settling leaves.
use Rattle.std.proofs.Common.{◌≡◌, ℕ, zero, suc, ◌+◌, ◌==◌, List, [], ◌∷◌, ◌++◌, length, Bool, true, false, cond, refl, ap, sym, subst, ◌∙◌, eq-eqb}
use Rattle.std.specs.Prelude.{Option, Some, None, not, ◌&&◌, option_and_then, sum_by}
use Rattle.pi_constraints.specs.declared.event.Event.{Event}
use Rattle.pi_constraints.specs.State.{State, Variable, free, within, bound, bindings, with_new, with_waiting}
use Rattle.pi_constraints.specs.Evaluation.{with_new_variables}
use Rattle.pi_traces.specs.Trace.{Trace, done, one, then}
use Rattle.pi_traces.proofs.AnswerLemmas.{EachAnswer, each-one}
use Rattle.pi_settling.specs.Load.{is_another, count_due, count_lost, load}
use Rattle.pi_settling.specs.Answers.{activations_from, activations}
use Rattle.pi_settling.specs.Events.{events_between}
use Rattle.pi_settling.specs.Settled.{loaded, with_events}
use Rattle.pi_settling.specs.Settle.{Settlement, settlement_by, until_same, runs_of, count_all, passes, stable_state, answer_with, settlement as settlement_of_goal}
use Rattle.pi_settling.proofs.LoadLemmas.{same-itself}
use Rattle.pi_meaning.specs.Shared.Settle.{are_unchanged, is_unchanged, settlement, settled}

-- ---- loads

-- what follows a load stands after it
pub then-loaded : {A B : Type 0} (n : ℕ) (t : Trace A) (f : A → Trace B) → then (loaded n t) f ≡ loaded n (then t f)
unfolding loaded then
then-loaded zero t f = refl
then-loaded (suc n) t f = refl

-- ---- a goal that changed nothing

not-another : (v : Variable) → is_another v v ≡ false
not-another free = refl
not-another (within d) = ap not (same-itself d)
not-another (bound t) = refl

itself-unchanged : (vs : List Variable) → are_unchanged vs vs ≡ true
unfolding are_unchanged
itself-unchanged [] = refl
itself-unchanged (v ∷ vs) = ap (λ b. not b && are_unchanged vs vs) (not-another v) ∙ itself-unchanged vs

passed-both : (p q : Bool) → (p && q) ≡ true → (p ≡ true) × (q ≡ true)
passed-both true q h = (refl, h)
passed-both false q h = absurd cc

-- one more variable that is free
pub new-unchanged : (vs ws : List Variable) → are_unchanged vs ws ≡ true → are_unchanged vs (ws ++ free ∷ []) ≡ true
unfolding are_unchanged
new-unchanged [] [] h = refl
new-unchanged [] (w ∷ ws) h = let k : _ = passed-both _ _ h in ap (λ b. b && are_unchanged [] (ws ++ free ∷ [])) k.0 ∙ new-unchanged [] ws k.1
new-unchanged (v ∷ vs) [] h = absurd cc
new-unchanged (v ∷ vs) (w ∷ ws) h = let k : _ = passed-both _ _ h in ap (λ b. b && are_unchanged vs (ws ++ free ∷ [])) k.0 ∙ new-unchanged vs ws k.1

more-unchanged : (k : ℕ) (vs : List Variable) (s : State) → are_unchanged vs s.variables ≡ true → are_unchanged vs (with_new_variables k s).variables ≡ true
unfolding with_new_variables
more-unchanged zero vs s h = h
more-unchanged (suc k) vs s h = more-unchanged k vs (with_new s) (new-unchanged vs s.variables h)

pub more-posted : (k : ℕ) (s : State) → (with_new_variables k s).constraints ≡ s.constraints
unfolding with_new_variables
more-posted zero s = refl
more-posted (suc k) s = more-posted k (with_new s)

-- new variables change nothing
pub news-unchanged : (k : ℕ) (s : State) → is_unchanged s (with_new_variables k s) ≡ true
unfolding is_unchanged
news-unchanged k s =
    let many : length s.constraints == length (with_new_variables k s).constraints ≡ true = ap (λ cs. length s.constraints == length cs) (more-posted k s) ∙ eq-eqb (length s.constraints) (length s.constraints) refl in
    ap (λ b. b && are_unchanged s.variables (with_new_variables k s).variables) many ∙ more-unchanged k s.variables s (itself-unchanged s.variables)

pub same-unchanged : (s : State) → is_unchanged s s ≡ true
unfolding with_new_variables
same-unchanged s = news-unchanged zero s

abbrev pub nothing_to_settle : State → Settlement
nothing_to_settle s = record { load = 0; left = Some s }

pub settlement-unchanged : (before s : State) → is_unchanged before s ≡ true → settlement before s ≡ nothing_to_settle s
unfolding settlement
settlement-unchanged before s h = ap (λ b. cond b (nothing_to_settle s) (settlement_of_goal before s)) h

pub settled-alone : (before s : State) → settlement before s ≡ nothing_to_settle s → settled before s ≡ one s
unfolding settled loaded
settled-alone before s h = ap (λ m. loaded m.load (answer_with m.left)) h

pub settlement-same : (s : State) → settlement s s ≡ nothing_to_settle s
settlement-same s = settlement-unchanged s s (same-unchanged s)

pub settled-same : (s : State) → settled s s ≡ one s
settled-same s = settled-alone s s (settlement-same s)

pub settlement-new : (k : ℕ) (s : State) → settlement s (with_new_variables k s) ≡ nothing_to_settle (with_new_variables k s)
settlement-new k s = settlement-unchanged s (with_new_variables k s) (news-unchanged k s)

pub settled-new : (k : ℕ) (s : State) → settled s (with_new_variables k s) ≡ one (with_new_variables k s)
settled-new k s = settled-alone s (with_new_variables k s) (settlement-new k s)

-- ---- where no constraint was posted and no agent made

pub stable-plain : (s : State) → s.constraints ≡ [] → stable_state s ≡ Some s
unfolding stable_state passes runs_of
stable-plain s h =
    let more : State → Option State = passes (count_all s) in
    let same : (count_all s == count_all s) ≡ true = eq-eqb (count_all s) (count_all s) refl in
    subst (λ cs. option_and_then (λ r. until_same (count_all r == count_all s) r more) (runs_of cs s) ≡ Some s) (sym h) (ap (λ b. until_same b s more) same)

none-wake : (s : State) (es : List Event) → s.agents ≡ [] → activations s es ≡ []
unfolding activations activations_from
none-wake s [] h = refl
none-wake s (e ∷ es) h = ap (λ xs. activations_from (bindings s) e 0 xs ++ activations s es) h ∙ none-wake s es h

append-none : {A : Type 0} (xs : List A) → xs ++ [] ≡ xs
append-none [] = refl
append-none (x ∷ xs) = ap (λ ys. x ∷ ys) (append-none xs)

pub no-events : (before s : State) → s.agents ≡ [] → with_events before s ≡ s
no-events before s h = ap (λ xs. with_waiting s (s.waiting ++ xs)) (none-wake s (events_between before s) h) ∙ ap (with_waiting s) (append-none s.waiting)

load-plain : (before s : State) → s.constraints ≡ [] → load before s s ≡ 0
unfolding count_due
load-plain before s h = ap (λ cs. count_due before s 0 cs + sum_by (count_lost s s) cs) h

of-goal-plain : (before s : State) → s.constraints ≡ [] → s.agents ≡ [] → settlement_of_goal before s ≡ nothing_to_settle s
unfolding settlement_of_goal
of-goal-plain before s h k =
    ap (settlement_by before s) (stable-plain s h)
    ∙ (ap (λ n. record { load = n; left = Some (with_events before s) }) (load-plain before s h) ∙ ap nothing_to_settle (no-events before s k))

either-way : {A : Type 0} (b : Bool) (x y : A) → y ≡ x → cond b x y ≡ x
either-way true x y h = refl
either-way false x y h = h

pub settlement-plain : (before s : State) → s.constraints ≡ [] → s.agents ≡ [] → settlement before s ≡ nothing_to_settle s
unfolding settlement
settlement-plain before s h k = either-way (is_unchanged before s) (nothing_to_settle s) (settlement_of_goal before s) (of-goal-plain before s h k)

-- ---- what settling leaves

loaded-each : {A : Type 0} (P : A → Type 0) (n : ℕ) (t : Trace A) → EachAnswer P t → EachAnswer P (loaded n t)
unfolding loaded EachAnswer
loaded-each P zero t h = h
loaded-each P (suc n) t h = h

by-stable : (P : State → Type 0) (before s : State) → ((q : State) → stable_state s ≡ Some q → P (with_events before q)) → (o : Option State) → stable_state s ≡ o →
    EachAnswer P (loaded (settlement_by before s o).load (answer_with (settlement_by before s o).left))
unfolding EachAnswer
by-stable P before s each None is = loaded-each P (settlement_by before s None).load done tt
by-stable P before s each (Some q) is = loaded-each P (settlement_by before s (Some q)).load (one (with_events before q)) (each-one P (with_events before q) (each q is))

by-change : (P : State → Type 0) (before s : State) → (b : Bool) → is_unchanged before s ≡ b → (is_unchanged before s ≡ true → P s) → ((q : State) → stable_state s ≡ Some q → P (with_events before q)) →
    EachAnswer P (loaded (cond b (nothing_to_settle s) (settlement_of_goal before s)).load (answer_with (cond b (nothing_to_settle s) (settlement_of_goal before s)).left))
unfolding loaded settlement_of_goal
by-change P before s true is h each = each-one P s (h is)
by-change P before s false is h each = by-stable P before s each (stable_state s) refl

-- what holds of a state that nothing changed, and of each stable state with its events, holds of what settling leaves
pub settled-each : (P : State → Type 0) (before s : State) → (is_unchanged before s ≡ true → P s) → ((q : State) → stable_state s ≡ Some q → P (with_events before q)) → EachAnswer P (settled before s)
unfolding settled settlement
settled-each P before s h each = by-change P before s (is_unchanged before s) refl h each
