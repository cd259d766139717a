-- Rules and levels last as long as they are worth, where Ticks stand between the calls of quiet predicates; so each query
-- has a run.
use Rattle.std.proofs.Common.{◌≡◌, inl, inr, ℕ, zero, suc, ◌+◌, ◌-◌, ◌<◌, ◌≤◌, Bool, true, false, not, cond, List, [], ◌∷◌, ◌++◌, length, refl, ap, sym, ◌∙◌, subst, arith}
use Rattle.std.specs.Prelude.{Option, Some, None, Contains, replicate, codes, option_and_then, ⊤}
use Rattle.std.specs.List.{list_any}
use Rattle.pi_terms.specs.Tree.{Tree, comp, Trees, tree_count}
use Rattle.pi_core.specs.GoalTree.{GoalTree, truth}
use Rattle.pi_terms.specs.Places.{Places}
use Rattle.pi_constraints.specs.State.{State, bindings}
use Rattle.pi_traces.specs.Trace.{Trace, one, done, then}
use Rattle.pi_traces.specs.Depth.{Cut, cut, CutWithoutDeep}
use Rattle.pi_meaning.specs.Shared.View.{View}
use Rattle.pi_meaning.specs.CoreMeaning.Builtins.{Builtins}
use Rattle.pi_meaning.specs.CoreMeaning.Instances.{is_called_by_name, built_later, whole}
use Rattle.pi_meaning.specs.Shared.Settle.{settled_from}
use Rattle.pi_meaning.specs.Shared.Drain.{drained}
use Rattle.pi_constraints.specs.HeadMatch.{matched_all_in}
use Rattle.pi_effects.specs.Exception.{exception_with}
use Rattle.pi_meaning.specs.Shared.Raise.{raised_with}
use Rattle.pi_meaning.specs.Shared.Level.{Level, lowest, over, level_of, Calls, Applied, Point, ticked}
use Rattle.pi_core.specs.CoreTree.{ClauseTree, PredTree, QueryTree, backtracks, find_pred}
use Rattle.pi_meaning.specs.CoreMeaning.Facts.{fits_modes, fact_terms, unified_with, facts}
use Rattle.pi_meaning.specs.CoreMeaning.Meaning.{slot_value, meaning, strictly}
use Rattle.pi_meaning.specs.CoreMeaning.Rules.{guarded, chosen_rule, rule_before, rules, suspended, body_or_agent, pred_run, value_at, value_run, function_run, entered, call_run, application_run, calls_of, quiet_level, level_at, rule_by, rules_by}
use Rattle.pi_meaning.specs.CoreMeaning.Quiet.{Callee, Passes, Reaches, ReachesFrom, TicksBetween}
use Rattle.pi_meaning.specs.CoreMeaning.Run.{Solution, solution, told, answered_with, query_start, query_trace, IsRunUnder}
use Rattle.pi_syntax.specs.declared.program.Mode.{Mode}
use Rattle.pi_core.specs.declared.core_program.SlotWatch.{SlotWatch}
use Rattle.pi_core.specs.declared.core_program.NameSlot.{NameSlot}
use Rattle.pi_traces.proofs.LastLemmas.{Lasts, Any, any-falls, less-left, done-lasts, raise-lasts, one-lasts, alt-lasts, then-lasts, chosen-lasts, cut-lasts}
use Rattle.pi_meaning.proofs.CoreMeaning.QuietGoals.{worth, counted, worth-counted, Fits, callee, CallsLast, LevelLasts, BuiltinsLast, Left, Deepens, onward, strictly-deepens, within-lasts, settled-lasts, goal-deepens}
use Rattle.pi_meaning.proofs.CoreMeaning.QuietCalls.{whole-lasts}

-- from an answer of a goal, what does not last by the level
after-goal : {X : Type 0} (preds : List PredTree) (r : TicksBetween preds) (built : Builtins) (lasting : BuiltinsLast preds r built) (g : GoalTree) (f : ℕ) (P : Type 0) → (P → (c : Callee) → Reaches c g → Fits preds r f c) →
    (k : ℕ) (q : Point) → Left preds r f P k q → (h : Point → Trace X) → ((j : ℕ) (x : Point) → Lasts Any j (h x)) → Lasts Any k (then (strictly (meaning built g) q) h)
after-goal preds r built lasting g f P fits k q o h a =
    then-lasts (Left preds r f P) Any any-falls k (strictly (meaning built g) q) h
    (onward preds r f P P (strictly (meaning built g)) (λ c. Reaches c g) (Passes g)
    (strictly-deepens preds r (meaning built g) (λ c. Reaches c g) (Passes g) (goal-deepens preds r built lasting g)) fits (λ x y. x) k q o)
    (λ j x m n. a j x)

after-body : {X : Type 0} (preds : List PredTree) (r : TicksBetween preds) (built : Builtins) (lasting : BuiltinsLast preds r built) (g : GoalTree) (f : ℕ) (P : Type 0) → (P → (c : Callee) → Reaches c g → Fits preds r f c) →
    (k : ℕ) (q : Point) → Left preds r f P k q → (h : Point → Trace X) → ((j : ℕ) (x : Point) → Lasts Any j (h x)) → Lasts Any k (then (meaning built g q) h)
after-body preds r built lasting g f P fits k q o h a =
    then-lasts (Left preds r f P) Any any-falls k (meaning built g q) h
    (onward preds r f P P (meaning built g) (λ c. Reaches c g) (Passes g) (goal-deepens preds r built lasting g) fits (λ x y. x) k q o)
    (λ j x m n. a j x)

-- the calls that a way from the clause leads to may be made
abbrev pub ClauseFits : (preds : List PredTree) → TicksBetween preds → ℕ → ClauseTree → Type 0
ClauseFits preds r f clause = (c : Callee) → ReachesFrom c clause → Fits preds r f c

-- what a rule that applies does lasts
abbrev DoesLast : {X : Type 0} (preds : List PredTree) → TicksBetween preds → ℕ → (ℕ → ClauseTree → Point → Trace X) → Type 0
DoesLast preds r f does = (i : ℕ) (c : ClauseTree) → ClauseFits preds r f c → (k : ℕ) (q : Point) → Left preds r f (Passes c.guard) k q → Lasts Any k (does i c q)

chosen-rule-lasts : {X : Type 0} (d : ℕ) (back : Bool) (t rest : Trace X) → Lasts Any d t → Lasts Any d rest → Lasts Any d (chosen_rule back t rest)
chosen-rule-lasts d true t rest a b = alt-lasts Any any-falls d t rest a b
chosen-rule-lasts d false t rest a b = a

-- a rule's condition lasts as long as its level is deep
guarded-deepens : (preds : List PredTree) (r : TicksBetween preds) (built : Builtins) (lasting : BuiltinsLast preds r built) (g : GoalTree) → Deepens preds r (guarded built g) (λ c. Reaches c g) (Passes g)
unfolding Deepens Passes
guarded-deepens preds r built lasting truth f fits d p h l = one-lasts (Left preds r f ⊤) d p (h, inl (l, tt))
guarded-deepens preds r built lasting g f fits d p h l =
    strictly-deepens preds r (meaning built g) (λ c. Reaches c g) (Passes g) (goal-deepens preds r built lasting g) f fits d p h l

rule-lasts : {X : Type 0} (preds : List PredTree) (r : TicksBetween preds) (built : Builtins) (lasting : BuiltinsLast preds r built) (f d : ℕ) (l : Level) → d ≤ worth l → LevelLasts preds r f l →
    (c : ClauseTree) → ClauseFits preds r f c → (back : Bool) (does : Point → Trace X) → ((k : ℕ) (q : Point) → Left preds r f (Passes c.guard) k q → Lasts Any k (does q)) →
    (s : State) (rest : Trace X) → Lasts Any d rest → (e : Option Places) → Lasts Any d (rule_before built l (rule_by c back does) s rest e)
unfolding Deepens
rule-lasts preds r built lasting f d l h last c fits back does a s rest b None = b
rule-lasts preds r built lasting f d l h last c fits back does a s rest b (Some e) =
    let p : Point = record { level = l; slots = e; state = s } in
    chosen-lasts (Left preds r f (Passes c.guard)) Any any-falls d (guarded built c.guard p) (λ q. chosen_rule back (does q) rest) rest
    (guarded-deepens preds r built lasting c.guard f (λ x reach. fits x (inl reach)) d p h last)
    (λ k q m o. chosen-rule-lasts k back (does q) rest (a k q o) (less-left Any any-falls d k m rest b)) b

rules-last : {X : Type 0} (preds : List PredTree) (r : TicksBetween preds) (built : Builtins) (lasting : BuiltinsLast preds r built) (f d : ℕ) (l : Level) → d ≤ worth l → LevelLasts preds r f l →
    (back : ClauseTree → Bool) (does : ℕ → ClauseTree → Point → Trace X) → DoesLast preds r f does → (i : ℕ) (cs : List ClauseTree) → ((c : ClauseTree) → Contains cs c → ClauseFits preds r f c) →
    (ts : Trees) (s : State) → Lasts Any d (rules (rules_by built l back does) i cs ts s)
unfolding rules
rules-last preds r built lasting f d l h last back does a i [] fits ts s = done-lasts Any d
rules-last preds r built lasting f d l h last back does a i (c ∷ cs) fits ts s =
    let this : ClauseFits preds r f c = fits c (0, omega arith, refl) in
    rule-lasts preds r built lasting f d l h last c this (back c) (does i c) (a i c this) s (rules (rules_by built l back does) (suc i) cs ts s)
    (rules-last preds r built lasting f d l h last back does a (suc i) cs (λ x within. fits x (suc within.0, omega (arith, within.1), within.2)) ts s)
    (matched_all_in (bindings s) c.head ts (replicate c.slots None))

-- Bodies, values, facts

body-lasts : (preds : List PredTree) (r : TicksBetween preds) (built : Builtins) (lasting : BuiltinsLast preds r built) (t : Tree) (f i : ℕ) (c : ClauseTree) → ClauseFits preds r f c → (ws : List SlotWatch) →
    (k : ℕ) (q : Point) → Left preds r f (Passes c.guard) k q → Lasts Any k (body_or_agent built t i c ws q)
body-lasts preds r built lasting t f i c fits [] k q o =
    after-body preds r built lasting c.body f (Passes c.guard) (λ z x reach. fits x (inr (z, reach))) k q o (λ x. one x.state) (λ j x. one-lasts Any j x.state tt)
body-lasts preds r built lasting t f i c fits (w ∷ ws) k q o = one-lasts Any k (suspended t i (w ∷ ws) q.slots q.state) tt

value-lasts : (j : ℕ) (t : Option Tree) (x : Point) → Lasts Any j (value_at t x)
unfolding Lasts
value-lasts j None x = done-lasts {A = Applied} Any j
value-lasts j (Some t) x = (tt, λ is. cc)

run-lasts : (preds : List PredTree) (r : TicksBetween preds) (built : Builtins) (lasting : BuiltinsLast preds r built) (f : ℕ) (c : ClauseTree) → ClauseFits preds r f c →
    (k : ℕ) (q : Point) → Left preds r f (Passes c.guard) k q → Lasts Any k (value_run built c q)
run-lasts preds r built lasting f c fits k q o =
    after-goal preds r built lasting c.body f (Passes c.guard) (λ z x reach. fits x (inr (z, reach))) k q o (value_at c.value) (λ j x. value-lasts j c.value x)

settled-from-lasts : (d : ℕ) (s : State) (o : Option State) → Lasts Any d (settled_from s o)
settled-from-lasts d s None = done-lasts Any d
settled-from-lasts d s (Some t) = settled-lasts d s t

facts-last : (d : ℕ) (cs : List ClauseTree) (ts : Trees) (s : State) → Lasts Any d (facts cs ts s)
unfolding facts
facts-last d [] ts s = done-lasts Any d
facts-last d (c ∷ cs) ts s =
    let o : Option State = option_and_then (unified_with ts) (fact_terms c.head (replicate c.slots None) s) in
    alt-lasts Any any-falls d (settled_from s o) (facts cs ts s) (settled-from-lasts d s o) (facts-last d cs ts s)

tested-lasts : (d : ℕ) (b : Bool) (t : Trace State) → Lasts Any d t → Lasts Any d (cond b t done)
tested-lasts d true t a = a
tested-lasts d false t a = done-lasts Any d

-- Calls

pred-lasts : (preds : List PredTree) (r : TicksBetween preds) (built : Builtins) (lasting : BuiltinsLast preds r built) (f d : ℕ) (l : Level) → d ≤ worth l → LevelLasts preds r f l → (pred : PredTree) →
    ((c : ClauseTree) → Contains pred.clauses c → ClauseFits preds r f c) → (index : Option (List (List Mode))) (ts : Trees) (s : State) → Lasts Any d (pred_run built l pred index ts s)
unfolding pred_run
pred-lasts preds r built lasting f d l h last pred fits None ts s =
    rules-last preds r built lasting f d l h last (λ c. backtracks c.back c.watches) (λ i c p. body_or_agent built (comp pred.name ts) i c c.watches p)
    (λ i c this k q o. body-lasts preds r built lasting (comp pred.name ts) f i c this c.watches k q o) 0 pred.clauses fits ts s
pred-lasts preds r built lasting f d l h last pred fits (Some lists) ts s =
    tested-lasts d (list_any (λ modes. fits_modes (bindings s) modes ts) lists) (facts pred.clauses ts s) (facts-last d pred.clauses ts s)

unresolved-lasts : (d : ℕ) (name : List ℕ) (t : Tree) (s : State) → Lasts {A = Applied} Any d (raised_with name t s)
unfolding raised_with
unresolved-lasts d name t s = raise-lasts Any d (exception_with name t s)

function-lasts : (preds : List PredTree) (r : TicksBetween preds) (built : Builtins) (lasting : BuiltinsLast preds r built) (f d : ℕ) (l : Level) → d ≤ worth l → LevelLasts preds r f l → (pred : PredTree) →
    ((c : ClauseTree) → Contains pred.clauses c → ClauseFits preds r f c) → (ts : Trees) (s : State) → Lasts Any d (function_run built l pred ts s)
unfolding function_run
function-lasts preds r built lasting f d l h last pred fits ts s =
    let unresolved : Trace Applied = raised_with (codes "unresolved_function_call") (comp pred.name ts) s in
    chosen-lasts Any Any any-falls d (rules (rules_by built l (λ c. false) (λ i c p. value_run built c p)) 0 pred.clauses ts s) (λ a. one a) unresolved
    (rules-last preds r built lasting f d l h last (λ c. false) (λ i c p. value_run built c p) (λ i c this k q o. run-lasts preds r built lasting f c this k q o) 0 pred.clauses fits ts s)
    (λ k a m o. one-lasts Any k a tt) (unresolved-lasts d (codes "unresolved_function_call") (comp pred.name ts) s)

-- what it is worth, and counts, above an optional level
abbrev worth_over : Option Level → ℕ
worth_over None = 0
worth_over (Some l) = counted l

abbrev counted_over : Option Level → ℕ
counted_over None = 0
counted_over (Some l) = suc (worth l)

worth-over-counted : (o : Option Level) → worth_over o ≤ counted_over o
worth-over-counted None = omega arith
worth-over-counted (Some l) = (worth-counted l).1

abbrev BelowLasts : (preds : List PredTree) → TicksBetween preds → Option Level → Type 0
BelowLasts preds r None = ⊤
BelowLasts preds r (Some l) = LevelLasts preds r (length preds) l

-- the level that quiet calls go to: as deep, with one fewer to nest
InnerLasts : (preds : List PredTree) → TicksBetween preds → ℕ → ℕ → Option Level → Type 0
InnerLasts preds r f d None = f ≡ 0
InnerLasts preds r f d (Some l) = (k : ℕ) × (f ≡ suc k) × (d ≤ worth l) × LevelLasts preds r k l

-- a clause of a predicate at a full level
full-fits : (preds : List PredTree) (r : TicksBetween preds) (c : ClauseTree) → ClauseFits preds r (length preds) c
full-fits preds r c x reach other quiet = r.below x other quiet

-- what a counted call enters lasts behind its Tick
ticked-lasts : {X : Type 0} (preds : List PredTree) (r : TicksBetween preds) (below : Option Level) → BelowLasts preds r below → (pred : PredTree) → (run : Level → Trace X) →
    ((k d : ℕ) (l : Level) → d ≤ worth l → LevelLasts preds r k l → ((x : ClauseTree) → Contains pred.clauses x → ClauseFits preds r k x) → Lasts Any d (run l)) →
    Lasts Any (counted_over below) (ticked below run)
unfolding Lasts
ticked-lasts preds r None b pred run go = λ e. refl
ticked-lasts preds r (Some l) b pred run go =
    let left : suc (worth l) - 1 ≡ worth l = omega arith in
    subst (λ d. Lasts Any d (run l)) (sym left) (go (length preds) (worth l) l (omega arith) b (λ x within. full-fits preds r x))

-- what a call enters lasts: behind its Tick, or by the level of quiet calls
entered-lasts : {X : Type 0} (preds : List PredTree) (r : TicksBetween preds) (f : ℕ) (inner below : Option Level) → BelowLasts preds r below →
    InnerLasts preds r f (worth_over below) inner → (c : Callee) → Fits preds r f c → (pred : PredTree) → find_pred c.function c.name c.arity preds ≡ Some pred →
    (run : Level → Trace X) →
    ((k d : ℕ) (l : Level) → d ≤ worth l → LevelLasts preds r k l → ((x : ClauseTree) → Contains pred.clauses x → ClauseFits preds r k x) → Lasts Any d (run l)) →
    (quiet : Bool) → pred.quiet ≡ quiet → Lasts Any (worth_over below) (entered quiet inner below run)
unfolding InnerLasts
entered-lasts preds r f inner below b a c fits pred is run go false q =
    less-left Any any-falls (counted_over below) (worth_over below) (worth-over-counted below) (ticked below run) (ticked-lasts preds r below b pred run go)
entered-lasts preds r f None below b a c fits pred is run go true q =
    let less : r.rank c < f = fits pred (is, q) in absurd (omega (arith, less, a))
entered-lasts preds r f (Some l) below b a c fits pred is run go true q =
    let less : r.rank c < f = fits pred (is, q) in
    go a.0 (worth_over below) l a.2 a.3
    (λ x within d reach other quiet. let falls : r.rank d < r.rank c = r.falls c d pred other x (is, q) within reach quiet in omega (arith, falls, less, a.1))

call-lasts : (preds : List PredTree) (r : TicksBetween preds) (built : Builtins) (lasting : BuiltinsLast preds r built) (f : ℕ) (inner below : Option Level) → BelowLasts preds r below →
    InnerLasts preds r f (worth_over below) inner → (name : List ℕ) (ts : Trees) (s : State) → Fits preds r f (callee false name (tree_count ts)) →
    (o : Option PredTree) → find_pred false name (tree_count ts) preds ≡ o → Lasts Any (worth_over below) (call_run built inner below o ts s)
call-lasts preds r built lasting f inner below b a name ts s fits None is = done-lasts Any (worth_over below)
call-lasts preds r built lasting f inner below b a name ts s fits (Some pred) is =
    entered-lasts preds r f inner below b a (callee false name (tree_count ts)) fits pred is (λ l. pred_run built l pred pred.index ts s)
    (λ k d l h last this. pred-lasts preds r built lasting k d l h last pred this pred.index ts s) pred.quiet refl

-- a call of a predicate that `call` finds
loud-entered : {X : Type 0} (preds : List PredTree) (r : TicksBetween preds) (inner below : Option Level) → BelowLasts preds r below → (pred : PredTree) → (run : Level → Trace X) →
    ((k d : ℕ) (l : Level) → d ≤ worth l → LevelLasts preds r k l → ((x : ClauseTree) → Contains pred.clauses x → ClauseFits preds r k x) → Lasts Any d (run l)) →
    (quiet : Bool) → not quiet ≡ true → Lasts Any (counted_over below) (entered quiet inner below run)
loud-entered preds r inner below b pred run go false loud = ticked-lasts preds r below b pred run go
loud-entered preds r inner below b pred run go true loud = absurd cc

loud-lasts : (preds : List PredTree) (r : TicksBetween preds) (built : Builtins) (lasting : BuiltinsLast preds r built) (inner below : Option Level) → BelowLasts preds r below →
    (o : Option PredTree) → is_called_by_name o ≡ true → (ts : Trees) (s : State) → Lasts Any (counted_over below) (call_run built inner below o ts s)
loud-lasts preds r built lasting inner below b None loud ts s = absurd cc
loud-lasts preds r built lasting inner below b (Some pred) loud ts s =
    loud-entered preds r inner below b pred (λ l. pred_run built l pred pred.index ts s)
    (λ k d l h last this. pred-lasts preds r built lasting k d l h last pred this pred.index ts s) pred.quiet loud

application-lasts : (preds : List PredTree) (r : TicksBetween preds) (built : Builtins) (lasting : BuiltinsLast preds r built) (f : ℕ) (inner below : Option Level) → BelowLasts preds r below →
    InnerLasts preds r f (worth_over below) inner → (name : List ℕ) (ts : Trees) (s : State) → Fits preds r f (callee true name (tree_count ts)) →
    (o : Option PredTree) → find_pred true name (tree_count ts) preds ≡ o → Lasts Any (worth_over below) (application_run built inner below o ts s)
application-lasts preds r built lasting f inner below b a name ts s fits None is = done-lasts Any (worth_over below)
application-lasts preds r built lasting f inner below b a name ts s fits (Some pred) is =
    entered-lasts preds r f inner below b a (callee true name (tree_count ts)) fits pred is (λ l. function_run built l pred ts s)
    (λ k d l h last this. function-lasts preds r built lasting k d l h last pred this ts s) pred.quiet refl

drained-lasts : (d : ℕ) (s : State) → Lasts Any d (drained s)
unfolding drained
drained-lasts d s = one-lasts Any d s tt

calls-of-last : (preds : List PredTree) (r : TicksBetween preds) (built : Builtins) (lasting : BuiltinsLast preds r built) (f : ℕ) (inner below : Option Level) → BelowLasts preds r below →
    InnerLasts preds r f (worth_over below) inner → CallsLast preds r f (worth_over below) (counted_over below) (calls_of built preds inner below)
unfolding calls_of
calls-of-last preds r built lasting f inner below b a = record {
  called = λ name ts s fits. call-lasts preds r built lasting f inner below b a name ts s fits (find_pred false name (tree_count ts) preds) refl;
  applied = λ name ts s fits. application-lasts preds r built lasting f inner below b a name ts s fits (find_pred true name (tree_count ts) preds) refl;
  loud = λ name ts s found. loud-lasts preds r built lasting inner below b (find_pred false name (tree_count ts) preds) found ts s;
  drained = λ k s. drained-lasts k s;
}

-- Levels

level-of-lasts : (preds : List PredTree) (r : TicksBetween preds) (f : ℕ) (c : Calls) (below : Option Level) → CallsLast preds r f (worth_over below) (counted_over below) c → BelowLasts preds r below →
    LevelLasts preds r f (level_of c below)
level-of-lasts preds r f c None a b = a
level-of-lasts preds r f c (Some l) a b = (a, b)

worth-of : (c : Calls) (below : Option Level) → worth (level_of c below) ≡ worth_over below
worth-of c None = refl
worth-of c (Some l) = refl

counted-of : (c : Calls) (below : Option Level) → counted (level_of c below) ≡ counted_over below
counted-of c None = refl
counted-of c (Some l) = refl

quiet-worth : (built : Builtins) (preds : List PredTree) (below : Option Level) (k : ℕ) → worth (quiet_level built preds below k) ≡ worth_over below
unfolding quiet_level
quiet-worth built preds below zero = worth-of (calls_of built preds None below) below
quiet-worth built preds below (suc k) = worth-of (calls_of built preds (Some (quiet_level built preds below k)) below) below

quiet-counted : (built : Builtins) (preds : List PredTree) (below : Option Level) (k : ℕ) → counted (quiet_level built preds below k) ≡ counted_over below
unfolding quiet_level
quiet-counted built preds below zero = counted-of (calls_of built preds None below) below
quiet-counted built preds below (suc k) = counted-of (calls_of built preds (Some (quiet_level built preds below k)) below) below

quiet-lasts : (preds : List PredTree) (r : TicksBetween preds) (built : Builtins) (lasting : BuiltinsLast preds r built) (below : Option Level) → BelowLasts preds r below → (k : ℕ) → LevelLasts preds r k (quiet_level built preds below k)
unfolding quiet_level InnerLasts
quiet-lasts preds r built lasting below b zero =
    level-of-lasts preds r 0 (calls_of built preds None below) below (calls-of-last preds r built lasting 0 None below b refl) b
quiet-lasts preds r built lasting below b (suc k) =
    let inner : Level = quiet_level built preds below k in
    let same : worth inner ≡ worth_over below = quiet-worth built preds below k in
    level-of-lasts preds r (suc k) (calls_of built preds (Some inner) below) below
    (calls-of-last preds r built lasting (suc k) (Some inner) below b (k, refl, omega (arith, same), quiet-lasts preds r built lasting below b k)) b

-- where more may nest, fewer may
fewer-calls : (preds : List PredTree) (r : TicksBetween preds) (f k d e : ℕ) → k ≤ f → (c : Calls) → CallsLast preds r f d e c → CallsLast preds r k d e c
fewer-calls preds r f k d e h c a = record {
  called = λ name ts s fits. a.called name ts s (λ pred quiet. let less : r.rank (callee false name (tree_count ts)) < k = fits pred quiet in omega (arith, less, h));
  applied = λ name ts s fits. a.applied name ts s (λ pred quiet. let less : r.rank (callee true name (tree_count ts)) < k = fits pred quiet in omega (arith, less, h));
  loud = a.loud;
  drained = a.drained;
}

fewer : (preds : List PredTree) (r : TicksBetween preds) (f k : ℕ) → k ≤ f → (l : Level) → LevelLasts preds r f l → LevelLasts preds r k l
fewer preds r f k h (lowest c) a = fewer-calls preds r f k 0 0 h c a
fewer preds r f k h (over c l) a = (fewer-calls preds r f k (counted l) (suc (worth l)) h c a.0, a.1)

level-lasts : (preds : List PredTree) (r : TicksBetween preds) (built : Builtins) (lasting : BuiltinsLast preds r built) (d : ℕ) → LevelLasts preds r (length preds) (level_at built preds d)
unfolding level_at
level-lasts preds r built lasting zero = quiet-lasts preds r built lasting None tt (length preds)
level-lasts preds r built lasting (suc d) =
    let below : Option Level = Some (level_at built preds d) in
    fewer preds r (suc (length preds + d)) (length preds) (omega arith) (quiet_level built preds below (suc (length preds + d)))
    (quiet-lasts preds r built lasting below (level-lasts preds r built lasting d) (suc (length preds + d)))

-- with two more of the depth a level is worth one Tick more
abbrev twice : ℕ → ℕ
twice zero = zero
twice (suc n) = suc (suc (twice n))

level-worth : (built : Builtins) (preds : List PredTree) (n : ℕ) → worth (level_at built preds (twice n)) ≡ n
unfolding level_at
level-worth built preds zero = quiet-worth built preds None (length preds)
level-worth built preds (suc n) =
    quiet-worth built preds (Some (level_at built preds (suc (twice n)))) (suc (length preds + suc (twice n)))
    ∙ (quiet-counted built preds (Some (level_at built preds (twice n))) (suc (length preds + twice n)) ∙ ap suc (level-worth built preds n))

-- Queries

told-lasts : (j : ℕ) (names : List NameSlot) (x : Solution) (t : Trace Solution) → Lasts Any j t → Lasts Any j (told names x t)
unfolding told
told-lasts j [] x t a = a
told-lasts j (n ∷ names) x t a = within-lasts Any j (slot_value n.slot x.slots x.state) (told names x t) (told-lasts j names x t a)

query-lasts : (program : List PredTree) (q : QueryTree) (r : TicksBetween (program ++ q.helpers)) (built : Builtins) → BuiltinsLast (program ++ q.helpers) r built → (n : ℕ) →
    Lasts Any n (query_trace built program q (twice n))
unfolding query_trace
query-lasts program q r built lasting n =
    let preds : List PredTree = program ++ q.helpers in
    let l : Level = level_at built preds (twice n) in
    let deep : worth l ≡ n = level-worth built preds n in
    after-goal preds r built lasting q.goal (length preds) ⊤ (λ z c reach pred quiet. r.below c pred quiet) n (query_start l q)
    (omega (arith, deep), inl (level-lasts preds r built lasting (twice n), tt)) (answered_with q.names)
    (λ j x. told-lasts j q.names (solution x) (one (solution x)) (one-lasts Any j (solution x) tt))

-- so a depth of twice n + 1 reaches to Tick number n + 1
pub depth-reaches : (v : View) (program : List PredTree) (q : QueryTree) → TicksBetween (program ++ q.helpers) → (n : ℕ) →
    (d : ℕ) × CutWithoutDeep n (query_trace (whole v built_later (program ++ q.helpers)) program q d)
depth-reaches v program q r n =
    let built : Builtins = whole v built_later (program ++ q.helpers) in
    (twice (suc n), cut-lasts Any n (query_trace built program q (twice (suc n))) (query-lasts program q r built (whole-lasts v (program ++ q.helpers) r) (suc n)))

pub query-runs : (v : View) (program : List PredTree) (q : QueryTree) → TicksBetween (program ++ q.helpers) → (n : ℕ) →
    (c : Cut Solution) × IsRunUnder (whole v built_later (program ++ q.helpers)) program q n c
query-runs v program q r n =
    let built : Builtins = whole v built_later (program ++ q.helpers) in
    let deep : (d : ℕ) × CutWithoutDeep n (query_trace built program q d) = depth-reaches v program q r n in
    (cut n (query_trace built program q deep.0), record { depth = deep.0; reaches = deep.1; is_cut = refl })
