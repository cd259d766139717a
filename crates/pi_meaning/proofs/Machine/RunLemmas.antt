-- Lemmas on what runs: levels at which states drain, goals and the frames behind them.
use Rattle.std.proofs.Common.{◌≡◌, ℕ, zero, suc, ◌+◌, List, [], ◌∷◌, length, refl, ap, ◌∙◌}
use Rattle.std.specs.Prelude.{Option, Some, None}
use Rattle.pi_terms.specs.Places.{Places}
use Rattle.pi_constraints.specs.State.{State}
use Rattle.pi_core.specs.GoalTree.{GoalTree, GoalTrees, no_goals, goal}
use Rattle.pi_core.specs.CoreTree.{PredTree}
use Rattle.pi_traces.specs.Trace.{Trace, one, then}
use Rattle.pi_meaning.specs.CoreMeaning.Builtins.{Builtins}
use Rattle.pi_meaning.specs.Shared.Drain.{drained}
use Rattle.pi_meaning.specs.Shared.Level.{Level, level_of, Point, calls_at}
use Rattle.pi_meaning.specs.CoreMeaning.Meaning.{Action, draining, strictly, meaning, meaning_of_all}
use Rattle.pi_meaning.specs.CoreMeaning.Rules.{calls_of, quiet_level, level_at}
use Rattle.pi_traces.proofs.TraceLemmas.{then-assoc, alt-done}
use Rattle.pi_meaning.specs.Machine.Configuration.{Frame, more, return, give, Entry, Now, behind, returning}
use Rattle.pi_meaning.specs.Machine.Remaining.{point, continued, run_from, around, now_trace}
use Rattle.pi_meaning.proofs.Machine.RuleForms.{then-same}

-- ---- levels

-- the calls at a level are those of the program
unfoldable pub CallsAre : Builtins → List PredTree → Level → Type 0
CallsAre given preds l = (inner : Option Level) × (below : Option Level) × (calls_at l ≡ calls_of given preds inner below)

level-of-calls : (given : Builtins) (preds : List PredTree) (inner below : Option Level) → CallsAre given preds (level_of (calls_of given preds inner below) below)
unfolding CallsAre
level-of-calls given preds inner None = (inner, None, refl)
level-of-calls given preds inner (Some l) = (inner, Some l, refl)

quiet-calls : (given : Builtins) (preds : List PredTree) (below : Option Level) (k : ℕ) → CallsAre given preds (quiet_level given preds below k)
unfolding quiet_level
quiet-calls given preds below zero = level-of-calls given preds None below
quiet-calls given preds below (suc k) = level-of-calls given preds (Some (quiet_level given preds below k)) below

pub calls-are : (given : Builtins) (preds : List PredTree) (d : ℕ) → CallsAre given preds (level_at given preds d)
unfolding level_at
calls-are given preds zero = quiet-calls given preds None (length preds)
calls-are given preds (suc d) = quiet-calls given preds (Some (level_at given preds d)) (suc (length preds + d))

-- each state is drained as it is
pub drains-at : (given : Builtins) (preds : List PredTree) (l : Level) → CallsAre given preds l → (s : State) → (calls_at l).drained s ≡ one s
unfolding CallsAre calls_of drained
drains-at given preds l h s = ap (λ c. c.drained s) h.2

-- what drains first goes on
pub draining-goes_on : (given : Builtins) (preds : List PredTree) (l : Level) → CallsAre given preds l → (act : Action) (e : Places) (s : State) →
    draining act (point l e s) ≡ act (point l e s)
unfolding draining then
draining-goes_on given preds l h act e s =
    ap (λ t. then t (λ r. act (point l e r))) (drains-at given preds l h s) ∙ alt-done (act (point l e s))

-- ---- frames

pub behind-continued : (given : Builtins) (l : Level) (gs : GoalTrees) (k : List Frame) (p : Point) → then (meaning_of_all given gs p) (continued given l k) ≡ continued given l (behind gs k) p
unfolding continued meaning_of_all then
behind-continued given l no_goals k p = alt-done (continued given l k p)
behind-continued given l (goal g gs) k p = refl

pub returning-continued : (given : Builtins) (l : Level) (e : Places) (k : List Frame) (p : Point) → continued given l (returning e k) p ≡ continued given l k (point l e p.state)
unfolding continued
returning-continued given l e [] p = refl
returning-continued given l e (more gs ∷ k) p = refl
returning-continued given l e (return f ∷ k) p = refl
returning-continued given l e (give t ∷ k) p = refl

-- a goal, and what is behind it
pub goal-first : (given : Builtins) (l : Level) (g : GoalTree) (gs : GoalTrees) (e : Places) (s : State) (k : List Frame) →
    run_from given l (goal g gs) e s k ≡ then (meaning given g (point l e s)) (continued given l (behind gs k))
unfolding meaning_of_all
goal-first given l g gs e s k =
    then-assoc (meaning given g (point l e s)) (meaning_of_all given gs) (continued given l k)
    ∙ then-same (meaning given g (point l e s)) (λ q. then (meaning_of_all given gs q) (continued given l k)) (continued given l (behind gs k)) (behind-continued given l gs k)

-- one goal
pub goal-alone : (given : Builtins) (l : Level) (g : GoalTree) (e : Places) (s : State) (k : List Frame) →
    run_from given l (goal g no_goals) e s k ≡ then (meaning given g (point l e s)) (continued given l k)
goal-alone given l g e s k = goal-first given l g no_goals e s k

-- the goal of a level
pub goal-strict : (given : Builtins) (l : Level) (g : GoalTree) (e : Places) (s : State) → run_from given l (goal g no_goals) e s [] ≡ strictly (meaning given g) (point l e s)
unfolding strictly continued
goal-strict given l g e s = goal-alone given l g e s []

-- no goals
pub no-goal : (given : Builtins) (l : Level) (e : Places) (s : State) (k : List Frame) → run_from given l no_goals e s k ≡ continued given l k (point l e s)
unfolding meaning_of_all then
no-goal given l e s k = alt-done (continued given l k (point l e s))

-- ---- all of a configuration, before the answers are told

abbrev pub remains : Builtins → Level → Now → List Entry → Trace Point
remains given l now es = around given l es (now_trace given l now) []
