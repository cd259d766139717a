-- Lemmas on rules and levels: each depth adds to the one before, and built-ins of which one does the same and maybe more.
use Rattle.std.proofs.Common.{ℕ, zero, suc, ◌+◌, ◌≤◌, List, [], ◌∷◌, length, arith}
use Rattle.std.specs.Prelude.{Bool, true, false, Option, Some, None, replicate, codes, ⊤}
use Rattle.pi_terms.specs.Tree.{Tree, comp, Trees, tree_count}
use Rattle.pi_terms.specs.Places.{Places}
use Rattle.pi_constraints.specs.State.{State, bindings}
use Rattle.pi_traces.specs.Trace.{Trace, Done, Tick, one}
use Rattle.pi_traces.specs.Related.{BelowBy, deeper_by, end_by, note_by}
use Rattle.pi_core.specs.GoalTree.{GoalTree, truth}
use Rattle.pi_meaning.specs.CoreMeaning.Builtins.{Builtins, BuiltinsOnlyAdd}
use Rattle.pi_meaning.specs.Shared.Drain.{drained}
use Rattle.pi_constraints.specs.HeadMatch.{matched_all_in}
use Rattle.pi_meaning.specs.Shared.Raise.{raised_with}
use Rattle.pi_meaning.specs.Shared.Level.{Level, level_of, Calls, Applied, Point, CallsBelow, LevelBelow, PointBelow, same_but_level, ticked, unticked}
use Rattle.pi_core.specs.CoreTree.{ClauseTree, PredTree, backtracks, find_pred}
use Rattle.pi_meaning.specs.CoreMeaning.Facts.{facts_called}
use Rattle.pi_meaning.specs.CoreMeaning.Meaning.{meaning, strictly}
use Rattle.pi_meaning.specs.CoreMeaning.Rules.{guarded, chosen_rule, rule_before, rules, suspended, body_or_agent, pred_run, value_at, value_run, function_run, entered, call_run, application_run, calls_of, quiet_level, level_at, rule_by, rules_by}
use Rattle.pi_syntax.specs.declared.program.Mode.{Mode}
use Rattle.pi_core.specs.declared.core_program.SlotWatch.{SlotWatch}
use Rattle.pi_traces.proofs.RelatedLemmas.{Same, same, below-by, by-same, by-one, by-alt, by-then, by-chosen}
use Rattle.pi_traces.proofs.BelowLemmas.{below-refl}
use Rattle.pi_meaning.proofs.CoreMeaning.MeaningLemmas.{place, Callable, CallsMore, CallsIn, more-below, more-strictly, anything, calls-any, only-more}

-- a rule's condition does the same and maybe more at a higher place
guarded-below : (K : Callable) (b d : Builtins) → CallsMore K b d → (g : GoalTree) → CallsIn K g → (p q : Point) → PointBelow p q → BelowBy PointBelow (guarded b g p) (guarded d g q)
guarded-below K b d more truth k p q h = by-one PointBelow p q h
guarded-below K b d more g k p q h = more-strictly K b d more g k p q h

-- each call of a clause, of all clauses of a predicate, and of all predicates is of this kind
pub record ClauseCalls (K : Callable) (c : ClauseTree) : Type 0 where
  pub guard : CallsIn K c.guard
  pub body : CallsIn K c.body

abbrev pub ClausesCall : Callable → List ClauseTree → Type 0
ClausesCall K [] = ⊤
ClausesCall K (c ∷ cs) = ClauseCalls K c × ClausesCall K cs

abbrev pub FoundCall : Callable → Option PredTree → Type 0
FoundCall K None = ⊤
FoundCall K (Some pred) = ClausesCall K pred.clauses

abbrev pub ProgramCalls : Callable → List PredTree → Type 0
ProgramCalls K preds = (function : Bool) (name : List ℕ) (k : ℕ) → FoundCall K (find_pred function name k preds)

-- what a rule that applies does is no more than what it does at a higher place
pub DoesMore : {X : Type 0} → Callable → (does other : ℕ → ClauseTree → Point → Trace X) → Type 0
DoesMore K does other = (i : ℕ) (c : ClauseTree) → ClauseCalls K c → (p q : Point) → PointBelow p q → BelowBy Same (does i c p) (other i c q)

pub chosen-rule-below : {X : Type 0} (back : Bool) (t t' rest rest' : Trace X) → BelowBy Same t t' → BelowBy Same rest rest' →
    BelowBy Same (chosen_rule back t rest) (chosen_rule back t' rest')
chosen-rule-below true t t' rest rest' a b = by-alt Same t t' rest rest' a b
chosen-rule-below false t t' rest rest' a b = a

rule-below : {X : Type 0} (K : Callable) (b d : Builtins) → CallsMore K b d → (l m : Level) → LevelBelow l m → (c : ClauseTree) → ClauseCalls K c → (back : Bool)
    (does other : Point → Trace X) → ((p q : Point) → PointBelow p q → BelowBy Same (does p) (other q)) → (s : State) (rest rest' : Trace X) → BelowBy Same rest rest' →
    (e : Option Places) → BelowBy Same (rule_before b l (rule_by c back does) s rest e) (rule_before d m (rule_by c back other) s rest' e)
rule-below K b d more l m h c k back does other a s rest rest' r None = r
rule-below K b d more l m h c k back does other a s rest rest' r (Some e) =
    by-chosen PointBelow Same (guarded b c.guard (place l e s)) (guarded d c.guard (place m e s))
    (λ p. chosen_rule back (does p) rest) (λ p. chosen_rule back (other p) rest') rest rest'
    (guarded-below K b d more c.guard k.guard (place l e s) (place m e s) (same_but_level h e s))
    (λ p q x. chosen-rule-below back (does p) (other q) rest rest' (a p q x) r) r

rules-below : {X : Type 0} (K : Callable) (b d : Builtins) → CallsMore K b d → (l m : Level) → LevelBelow l m → (back : ClauseTree → Bool)
    (does other : ℕ → ClauseTree → Point → Trace X) → DoesMore K does other → (i : ℕ) (cs : List ClauseTree) → ClausesCall K cs → (ts : Trees) (s : State) →
    BelowBy Same (rules (rules_by b l back does) i cs ts s) (rules (rules_by d m back other) i cs ts s)
unfolding rules DoesMore
rules-below K b d more l m h back does other a i [] k ts s = end_by Done
rules-below K b d more l m h back does other a i (c ∷ cs) k ts s =
    rule-below K b d more l m h c k.0 (back c) (does i c) (other i c) (a i c k.0) s (rules (rules_by b l back does) (suc i) cs ts s) (rules (rules_by d m back other) (suc i) cs ts s)
    (rules-below K b d more l m h back does other a (suc i) cs k.1 ts s) (matched_all_in (bindings s) c.head ts (replicate c.slots None))

-- Bodies, agents and values

same-state : (p q : Point) → PointBelow p q → BelowBy Same (one p.state) (one q.state)
same-state _ _ (same_but_level h e s) = by-one Same s s (same s)

same-agent : (t : Tree) (i : ℕ) (ws : List SlotWatch) (p q : Point) → PointBelow p q →
    BelowBy Same (one (suspended t i ws p.slots p.state)) (one (suspended t i ws q.slots q.state))
same-agent t i ws _ _ (same_but_level h e s) = by-same (one (suspended t i ws e s))

body-below : (K : Callable) (b d : Builtins) → CallsMore K b d → (t : Tree) (i : ℕ) (c : ClauseTree) → ClauseCalls K c → (ws : List SlotWatch) (p q : Point) → PointBelow p q →
    BelowBy Same (body_or_agent b t i c ws p) (body_or_agent d t i c ws q)
body-below K b d more t i c k [] p q r =
    by-then PointBelow Same (meaning b c.body p) (meaning d c.body q) (λ x. one x.state) (λ x. one x.state) (more-below K b d more c.body k.body p q r) same-state
body-below K b d more t i c k (w ∷ ws) p q r = same-agent t i (w ∷ ws) p q r

pub value-at-level : (t : Option Tree) (l m : Level) (e : Places) (s : State) → BelowBy Same (value_at t (place l e s)) (value_at t (place m e s))
value-at-level None l m e s = end_by Done
value-at-level (Some t) l m e s = by-same (value_at (Some t) (place l e s))

same-value : (t : Option Tree) (p q : Point) → PointBelow p q → BelowBy Same (value_at t p) (value_at t q)
same-value t _ _ (same_but_level {l = l} {m = m} h e s) = value-at-level t l m e s

value-below : (K : Callable) (b d : Builtins) → CallsMore K b d → (c : ClauseTree) → ClauseCalls K c → (p q : Point) → PointBelow p q → BelowBy Same (value_run b c p) (value_run d c q)
value-below K b d more c k p q r =
    by-then PointBelow Same (strictly (meaning b c.body) p) (strictly (meaning d c.body) q) (value_at c.value) (value_at c.value)
    (more-strictly K b d more c.body k.body p q r) (same-value c.value)

-- Calls

pred-below : (K : Callable) (b d : Builtins) → CallsMore K b d → (l m : Level) → LevelBelow l m → (pred : PredTree) → ClausesCall K pred.clauses →
    (index : Option (List (List Mode))) (ts : Trees) (s : State) → BelowBy Same (pred_run b l pred index ts s) (pred_run d m pred index ts s)
unfolding DoesMore pred_run
pred-below K b d more l m h pred k None ts s =
    rules-below K b d more l m h (λ c. backtracks c.back c.watches) (λ i c p. body_or_agent b (comp pred.name ts) i c c.watches p)
    (λ i c p. body_or_agent d (comp pred.name ts) i c c.watches p)
    (λ i c j p q r. body-below K b d more (comp pred.name ts) i c j c.watches p q r) 0 pred.clauses k ts s
pred-below K b d more l m h pred k (Some lists) ts s = by-same (facts_called lists pred.clauses ts s)

function-below : (K : Callable) (b d : Builtins) → CallsMore K b d → (l m : Level) → LevelBelow l m → (pred : PredTree) → ClausesCall K pred.clauses → (ts : Trees) (s : State) →
    BelowBy Same (function_run b l pred ts s) (function_run d m pred ts s)
unfolding DoesMore function_run
function-below K b d more l m h pred k ts s =
    let unresolved : Trace Applied = raised_with (codes "unresolved_function_call") (comp pred.name ts) s in
    by-chosen Same Same (rules (rules_by b l (λ c. false) (λ i c p. value_run b c p)) 0 pred.clauses ts s) (rules (rules_by d m (λ c. false) (λ i c p. value_run d c p)) 0 pred.clauses ts s)
    (λ a. one a) (λ a. one a) unresolved unresolved
    (rules-below K b d more l m h (λ c. false) (λ i c p. value_run b c p) (λ i c p. value_run d c p) (λ i c j p q r. value-below K b d more c j p q r) 0 pred.clauses k ts s)
    (λ x y r. by-one Same x y r) (by-same unresolved)

-- where there is a level, there is one above it
abbrev pub OptionalBelow : Option Level → Option Level → Type 0
OptionalBelow None k = ⊤
OptionalBelow (Some l) None = ⊥
OptionalBelow (Some l) (Some m) = LevelBelow l m

unticked-below : {X : Type 0} (j k : Option Level) → OptionalBelow j k → (f g : Level → Trace X) → ((l m : Level) → LevelBelow l m → BelowBy Same (f l) (g m)) →
    BelowBy Same (unticked j f) (unticked k g)
unticked-below None k h f g a = deeper_by (unticked k g)
unticked-below (Some l) None h f g a = absurd h
unticked-below (Some l) (Some m) h f g a = a l m h

ticked-below : {X : Type 0} (j k : Option Level) → OptionalBelow j k → (f g : Level → Trace X) → ((l m : Level) → LevelBelow l m → BelowBy Same (f l) (g m)) →
    BelowBy Same (ticked j f) (ticked k g)
ticked-below None k h f g a = deeper_by (ticked k g)
ticked-below (Some l) None h f g a = absurd h
ticked-below (Some l) (Some m) h f g a = note_by Tick (a l m h)

entered-below : {X : Type 0} (quiet : Bool) (inner inner' below below' : Option Level) → OptionalBelow inner inner' → OptionalBelow below below' →
    (f g : Level → Trace X) → ((l m : Level) → LevelBelow l m → BelowBy Same (f l) (g m)) →
    BelowBy Same (entered quiet inner below f) (entered quiet inner' below' g)
entered-below true inner inner' below below' h k f g a = unticked-below inner inner' h f g a
entered-below false inner inner' below below' h k f g a = ticked-below below below' k f g a

call-below : (K : Callable) (b d : Builtins) → CallsMore K b d → (inner inner' below below' : Option Level) → OptionalBelow inner inner' → OptionalBelow below below' →
    (found : Option PredTree) → FoundCall K found → (ts : Trees) (s : State) → BelowBy Same (call_run b inner below found ts s) (call_run d inner' below' found ts s)
call-below K b d more inner inner' below below' h j None k ts s = end_by Done
call-below K b d more inner inner' below below' h j (Some pred) k ts s =
    entered-below pred.quiet inner inner' below below' h j (λ l. pred_run b l pred pred.index ts s) (λ l. pred_run d l pred pred.index ts s)
    (λ l m a. pred-below K b d more l m a pred k pred.index ts s)

application-below : (K : Callable) (b d : Builtins) → CallsMore K b d → (inner inner' below below' : Option Level) → OptionalBelow inner inner' → OptionalBelow below below' →
    (found : Option PredTree) → FoundCall K found → (ts : Trees) (s : State) → BelowBy Same (application_run b inner below found ts s) (application_run d inner' below' found ts s)
application-below K b d more inner inner' below below' h j None k ts s = end_by Done
application-below K b d more inner inner' below below' h j (Some pred) k ts s =
    entered-below pred.quiet inner inner' below below' h j (λ l. function_run b l pred ts s) (λ l. function_run d l pred ts s)
    (λ l m a. function-below K b d more l m a pred k ts s)

calls-of-below : (K : Callable) (b d : Builtins) → CallsMore K b d → (preds : List PredTree) → ProgramCalls K preds → (inner inner' below below' : Option Level) →
    OptionalBelow inner inner' → OptionalBelow below below' → CallsBelow (calls_of b preds inner below) (calls_of d preds inner' below')
unfolding calls_of
calls-of-below K b d more preds k inner inner' below below' h j = record {
  called = λ name ts s.
      let found : Option PredTree = find_pred false name (tree_count ts) preds in
      below-by (call_run b inner below found ts s) (call_run d inner' below' found ts s)
      (call-below K b d more inner inner' below below' h j found (k false name (tree_count ts)) ts s);
  applied = λ name ts s.
      let found : Option PredTree = find_pred true name (tree_count ts) preds in
      below-by (application_run b inner below found ts s) (application_run d inner' below' found ts s)
      (application-below K b d more inner inner' below below' h j found (k true name (tree_count ts)) ts s);
  drained = λ s. below-refl (drained s);
}

-- Levels

level-of-below : (c d : Calls) (j k : Option Level) → CallsBelow c d → OptionalBelow j k → LevelBelow (level_of c j) (level_of d k)
level-of-below c d None None h a = h
level-of-below c d None (Some m) h a = h
level-of-below c d (Some l) None h a = absurd a
level-of-below c d (Some l) (Some m) h a = (h, a)

quiet-below : (K : Callable) (b d : Builtins) → CallsMore K b d → (preds : List PredTree) → ProgramCalls K preds → (below below' : Option Level) → OptionalBelow below below' →
    (j k : ℕ) → j ≤ k → LevelBelow (quiet_level b preds below j) (quiet_level d preds below' k)
unfolding quiet_level
quiet-below K b d more preds known below below' h zero zero a =
    level-of-below (calls_of b preds None below) (calls_of d preds None below') below below' (calls-of-below K b d more preds known None None below below' tt h) h
quiet-below K b d more preds known below below' h zero (suc k) a =
    let inner : Option Level = Some (quiet_level d preds below' k) in
    level-of-below (calls_of b preds None below) (calls_of d preds inner below') below below' (calls-of-below K b d more preds known None inner below below' tt h) h
quiet-below K b d more preds known below below' h (suc j) zero a = absurd (omega (arith, a))
quiet-below K b d more preds known below below' h (suc j) (suc k) a =
    let inner : Option Level = Some (quiet_level b preds below j) in
    let inner' : Option Level = Some (quiet_level d preds below' k) in
    level-of-below (calls_of b preds inner below) (calls_of d preds inner' below') below below'
    (calls-of-below K b d more preds known inner inner' below below' (quiet-below K b d more preds known below below' h j k (omega (arith, a))) h) h

-- at one depth
pub levels-below : (K : Callable) (b d : Builtins) → CallsMore K b d → (preds : List PredTree) → ProgramCalls K preds → (n : ℕ) → LevelBelow (level_at b preds n) (level_at d preds n)
unfolding level_at
levels-below K b d more preds known zero = quiet-below K b d more preds known None None tt (length preds) (length preds) (omega arith)
levels-below K b d more preds known (suc n) =
    quiet-below K b d more preds known (Some (level_at b preds n)) (Some (level_at d preds n)) (levels-below K b d more preds known n)
    (suc (length preds + n)) (suc (length preds + n)) (omega arith)

-- ---- with the same built-ins, of which more depth only adds to each call

clause-any : (c : ClauseTree) → ClauseCalls anything c
clause-any c = record { guard = calls-any c.guard; body = calls-any c.body }

clauses-any : (cs : List ClauseTree) → ClausesCall anything cs
clauses-any [] = tt
clauses-any (c ∷ cs) = (clause-any c, clauses-any cs)

found-any : (found : Option PredTree) → FoundCall anything found
found-any None = tt
found-any (Some pred) = clauses-any pred.clauses

program-any : (preds : List PredTree) → ProgramCalls anything preds
program-any preds function name k = found-any (find_pred function name k preds)

quiet-more : (b : Builtins) → BuiltinsOnlyAdd b → (preds : List PredTree) (below below' : Option Level) → OptionalBelow below below' → (j k : ℕ) → j ≤ k →
    LevelBelow (quiet_level b preds below j) (quiet_level b preds below' k)
quiet-more b adds preds below below' h j k a = quiet-below anything b b (only-more b adds) preds (program-any preds) below below' h j k a

pub level-below : (b : Builtins) → BuiltinsOnlyAdd b → (preds : List PredTree) (n : ℕ) → LevelBelow (level_at b preds n) (level_at b preds (suc n))
unfolding level_at
level-below b adds preds zero = quiet-more b adds preds None (Some (level_at b preds zero)) tt (length preds) (suc (length preds + 0)) (omega arith)
level-below b adds preds (suc n) =
    quiet-more b adds preds (Some (level_at b preds n)) (Some (level_at b preds (suc n))) (level-below b adds preds n)
    (suc (length preds + n)) (suc (length preds + suc n)) (omega arith)

-- where a quiet call goes to, the level is still above that of one depth less
pub quiet-deeper : (b : Builtins) → BuiltinsOnlyAdd b → (preds : List PredTree) (n : ℕ) → LevelBelow (level_at b preds n) (quiet_level b preds (Some (level_at b preds n)) (length preds + n))
unfolding level_at
quiet-deeper b adds preds zero = quiet-more b adds preds None (Some (level_at b preds zero)) tt (length preds) (length preds + 0) (omega arith)
quiet-deeper b adds preds (suc n) =
    quiet-more b adds preds (Some (level_at b preds n)) (Some (level_at b preds (suc n))) (level-below b adds preds n)
    (suc (length preds + n)) (length preds + suc n) (omega arith)
