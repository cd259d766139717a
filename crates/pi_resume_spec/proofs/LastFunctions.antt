-- Calls of functions last as long as their level is deep, by the core meaning.
use Rattle.std.specs.Prelude.{ℕ, suc, ◌≤◌, false, List, [], ◌∷◌, Option, Some, None, Contains, replicate, codes, ⊤, refl}
use Rattle.std.proofs.Common.{arith, inl, inr}
use Rattle.pi_terms.specs.Tree.{Tree, comp, Trees}
use Rattle.pi_terms.specs.Places.{Places}
use Rattle.pi_constraints.specs.State.{State, bindings}
use Rattle.pi_constraints.specs.HeadMatch.{matched_all_in}
use Rattle.pi_effects.specs.Exception.{exception_with}
use Rattle.pi_core.specs.GoalTree.{GoalTree, truth}
use Rattle.pi_core.specs.CoreTree.{ClauseTree, PredTree}
use Rattle.pi_traces.specs.Trace.{Trace, one}
use Rattle.pi_traces.proofs.LastLemmas.{Lasts, Any, any-falls, done-lasts, raise-lasts, one-lasts, then-lasts, chosen-lasts}
use Rattle.pi_meaning.specs.Shared.Raise.{raised_with}
use Rattle.pi_meaning.specs.Shared.Level.{Level, Applied, Point}
use Rattle.pi_meaning.specs.CoreMeaning.Builtins.{Builtins}
use Rattle.pi_meaning.specs.CoreMeaning.Meaning.{meaning, strictly}
use Rattle.pi_meaning.specs.CoreMeaning.Quiet.{Callee, TicksBetween, Reaches, ReachesFrom, Passes}
use Rattle.pi_meaning.specs.CoreMeaning.Rules.{guarded, rule_by, rules_by, rule_before, rules, value_at, value_run, function_run}
use Rattle.pi_meaning.proofs.CoreMeaning.QuietGoals.{worth, Fits, LevelLasts, BuiltinsLast, Left, Deepens, onward, strictly-deepens, goal-deepens}

-- the calls that a way from the clause leads to may be made
abbrev pub ClauseFits : (preds : List PredTree) → TicksBetween preds → ℕ → ClauseTree → Type 0
ClauseFits preds r f clause = (c : Callee) → ReachesFrom c clause → Fits preds r f c

guarded-deepens : (preds : List PredTree) (r : TicksBetween preds) (b : Builtins) → BuiltinsLast preds r b → (g : GoalTree) → Deepens preds r (guarded b g) (λ c. Reaches c g) (Passes g)
unfolding Deepens Passes
guarded-deepens preds r b lasting truth f fits d p h l = one-lasts (Left preds r f ⊤) d p (h, inl (l, tt))
guarded-deepens preds r b lasting g f fits d p h l = strictly-deepens preds r (meaning b g) (λ c. Reaches c g) (Passes g) (goal-deepens preds r b lasting g) f fits d p h l

value-lasts : (j : ℕ) (t : Option Tree) (x : Point) → Lasts Any j (value_at t x)
unfolding Lasts
value-lasts j None x = done-lasts {A = Applied} Any j
value-lasts j (Some t) x = (tt, λ is. cc)

run-lasts : (preds : List PredTree) (r : TicksBetween preds) (b : Builtins) → BuiltinsLast preds r b → (f : ℕ) (c : ClauseTree) → ClauseFits preds r f c → (k : ℕ) (q : Point) → Left preds r f (Passes c.guard) k q →
    Lasts Any k (value_run b c q)
run-lasts preds r b lasting f c fits k q o =
    let P : Type 0 = Passes c.guard in
    then-lasts (Left preds r f P) Any any-falls k (strictly (meaning b c.body) q) (value_at c.value)
    (onward preds r f P P (strictly (meaning b c.body)) (λ x. Reaches x c.body) (Passes c.body)
    (strictly-deepens preds r (meaning b c.body) (λ x. Reaches x c.body) (Passes c.body) (goal-deepens preds r b lasting c.body)) (λ z x reach. fits x (inr (z, reach))) (λ x y. x) k q o)
    (λ j x m n. value-lasts j c.value x)

rule-lasts : (preds : List PredTree) (r : TicksBetween preds) (b : Builtins) → BuiltinsLast preds r b → (f d : ℕ) (l : Level) → d ≤ worth l → LevelLasts preds r f l → (c : ClauseTree) → ClauseFits preds r f c →
    (s : State) (rest : Trace Applied) → Lasts Any d rest → (e : Option Places) → Lasts Any d (rule_before b l (rule_by c false (λ p. value_run b c p)) s rest e)
unfolding Deepens
rule-lasts preds r b lasting f d l h last c fits s rest a None = a
rule-lasts preds r b lasting f d l h last c fits s rest a (Some e) =
    let p : Point = record { level = l; slots = e; state = s } in
    chosen-lasts (Left preds r f (Passes c.guard)) Any any-falls d (guarded b c.guard p) (λ q. value_run b c q) rest
    (guarded-deepens preds r b lasting c.guard f (λ x reach. fits x (inl reach)) d p h last) (λ k q m o. run-lasts preds r b lasting f c fits k q o) a

rules-last : (preds : List PredTree) (r : TicksBetween preds) (b : Builtins) → BuiltinsLast preds r b → (f d : ℕ) (l : Level) → d ≤ worth l → LevelLasts preds r f l → (i : ℕ) (cs : List ClauseTree) →
    ((c : ClauseTree) → Contains cs c → ClauseFits preds r f c) → (ts : Trees) (s : State) → Lasts Any d (rules (rules_by b l (λ c. false) (λ i c p. value_run b c p)) i cs ts s)
unfolding rules
rules-last preds r b lasting f d l h last i [] fits ts s = done-lasts Any d
rules-last preds r b lasting f d l h last i (c ∷ cs) fits ts s =
    rule-lasts preds r b lasting f d l h last c (fits c (0, omega arith, refl)) s (rules (rules_by b l (λ c. false) (λ i c p. value_run b c p)) (suc i) cs ts s)
    (rules-last preds r b lasting f d l h last (suc i) cs (λ x within. let few = within.1 in fits x (suc within.0, omega (arith, few), within.2)) ts s) (matched_all_in (bindings s) c.head ts (replicate c.slots None))

pub function-lasts : (preds : List PredTree) (r : TicksBetween preds) (b : Builtins) → BuiltinsLast preds r b → (f d : ℕ) (l : Level) → d ≤ worth l → LevelLasts preds r f l → (pred : PredTree) →
    ((c : ClauseTree) → Contains pred.clauses c → ClauseFits preds r f c) → (ts : Trees) (s : State) → Lasts Any d (function_run b l pred ts s)
unfolding function_run raised_with
function-lasts preds r b lasting f d l h last pred fits ts s =
    let unresolved : Trace Applied = raised_with (codes "unresolved_function_call") (comp pred.name ts) s in
    chosen-lasts Any Any any-falls d (rules (rules_by b l (λ c. false) (λ i c p. value_run b c p)) 0 pred.clauses ts s) (λ a. one a) unresolved
    (rules-last preds r b lasting f d l h last 0 pred.clauses fits ts s) (λ k a m o. one-lasts Any k a tt) (raise-lasts {A = Applied} Any d (exception_with (codes "unresolved_function_call") (comp pred.name ts) s))
