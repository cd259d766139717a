-- Rules: what a call of the program's predicates and functions does, at each depth (A User's Guide to Picat, 'Predicates
-- and Functions', and for action rules 'Action Rules'; ticks, quiet predicates and depths are own).
use Rattle.pi_core.specs.CoreTree.{backtracks, find_pred, ClauseTree, PredTree}
use Rattle.std.specs.Prelude.{ℕ, zero, suc, ◌+◌, Bool, true, false, List, [], ◌∷◌, length, map, replicate, Option, Some, None, codes}
use Rattle.pi_terms.specs.Tree.{Tree, var, comp, Trees, no_trees, tree, trees_of, tree_count}
use Rattle.pi_terms.specs.Places.{Places}
use Rattle.pi_constraints.specs.State.{State, bindings, WatchTree, on_ins, on_bound, on_dom, on_dom_any, on_posted, with_agent}
use Rattle.pi_traces.specs.Trace.{Trace, done, one, alt, then}
use Rattle.pi_traces.specs.Control.{chosen}
use Rattle.pi_core.specs.GoalTree.{GoalTree, truth}
use Rattle.pi_meaning.specs.CoreMeaning.Builtins.{Builtins}
use Rattle.pi_meaning.specs.Shared.Drain.{drained}
use Rattle.pi_constraints.specs.Evaluation.{Evaluated, evaluated, EvaluatedAll, evaluated_all}
use Rattle.pi_constraints.specs.HeadMatch.{matched_all_in}
use Rattle.pi_meaning.specs.Shared.Raise.{raised_with}
use Rattle.pi_meaning.specs.Shared.Level.{Level, Applied, Calls, level_of, ticked, unticked, Point}
use Rattle.pi_meaning.specs.CoreMeaning.Meaning.{Action, meaning, strictly}
use Rattle.pi_meaning.specs.CoreMeaning.Facts.{facts_called}
use Rattle.pi_core.specs.declared.core_program.SlotWatch.{SlotWatch}
use Rattle.pi_syntax.specs.declared.program.Mode.{Mode}

-- A rule's condition is a strict place, so that its answers count when nothing waits any more. `truth` stands for no
-- condition: such a rule has no strict place before its body, and what waits is run by the body's first goal.
abbrev pub guarded : Builtins → GoalTree → Action
guarded b truth p = one p
guarded b g p = strictly (meaning b g) p

-- Rules in order. A rule applies where its head matches and its condition has an answer, of which the first one counts. A
-- committed rule ends the choice; of a backtrackable one the later rules are alternatives. An action rule is committed,
-- and so is each rule of a function.

abbrev pub chosen_rule : {X : Type 0} → Bool → Trace X → Trace X → Trace X
chosen_rule true t rest = alt t rest
chosen_rule false t rest = t

-- a rule, whether it is backtrackable, and what it does where it applies
pub record RuleBy (X : Type 0) : Type 0 where
  pub clause : ClauseTree
  pub back : Bool
  pub does : Point → Trace X

abbrev pub rule_by : {X : Type 0} → ClauseTree → Bool → (Point → Trace X) → RuleBy X
rule_by c back does = record { clause = c; back = back; does = does }

abbrev pub rule_before : {X : Type 0} → Builtins → Level → RuleBy X → State → Trace X → Option Places → Trace X
rule_before b l r s rest None = rest
rule_before b l r s rest (Some e) =
    chosen (guarded b r.clause.guard (record { level = l; slots = e; state = s })) (λ p. chosen_rule r.back (r.does p) rest) rest

-- by what built-ins and at what level rules are run; `back` says whether a rule is backtrackable, `does` what a rule that
-- applies does, by its number
pub record RulesBy (X : Type 0) : Type 0 where
  pub builtins : Builtins
  pub level : Level
  pub back : ClauseTree → Bool
  pub does : ℕ → ClauseTree → Point → Trace X

abbrev pub rules_by : {X : Type 0} → Builtins → Level → (ClauseTree → Bool) → (ℕ → ClauseTree → Point → Trace X) → RulesBy X
rules_by b l back does = record { builtins = b; level = l; back = back; does = does }

-- no rule, no answer
unfoldable pub rules : {X : Type 0} → RulesBy X → ℕ → List ClauseTree → Trees → State → Trace X
rules r i [] ts s = done
rules r i (c ∷ cs) ts s =
    rule_before r.builtins r.level (rule_by c (r.back c) (r.does i c)) s (rules r (suc i) cs ts s)
    (matched_all_in (bindings s) c.head ts (replicate c.slots None))

-- A predicate's rule runs its body. An action rule has one answer instead, in which the call is a new agent.

-- the slots of the events' variables, as terms
abbrev pub slot_of : SlotWatch → ℕ
slot_of (SlotWatch.Ins k) = k
slot_of (SlotWatch.Bound k) = k
slot_of (SlotWatch.Dom k into) = k
slot_of (SlotWatch.DomAny k into) = k
slot_of (SlotWatch.Posted k into) = k

-- an event of the term that its slot comes to
abbrev pub watch_tree : SlotWatch → Tree → WatchTree
watch_tree (SlotWatch.Ins k) t = on_ins t
watch_tree (SlotWatch.Bound k) t = on_bound t
watch_tree (SlotWatch.Dom k into) t = on_dom t into
watch_tree (SlotWatch.DomAny k into) t = on_dom_any t into
watch_tree (SlotWatch.Posted k into) t = on_posted t into

unfoldable pub watch_trees : List SlotWatch → Trees → List WatchTree
watch_trees [] ts = []
watch_trees (w ∷ ws) no_trees = []
watch_trees (w ∷ ws) (tree t ts) = watch_tree w t ∷ watch_trees ws ts

-- the state with the call as a new agent, by the number of the rule
abbrev pub suspended : Tree → ℕ → List SlotWatch → Places → State → State
suspended the_call i ws e s =
    let all : EvaluatedAll = evaluated_all (trees_of (map (λ w. var (slot_of w)) ws)) e s in
    with_agent all.state (record { call = the_call; rule = i; watches = watch_trees ws all.trees; alive = true })

abbrev pub body_run : Builtins → ClauseTree → Point → Trace State
body_run b c p = then (meaning b c.body p) (λ q. one q.state)

abbrev pub body_or_agent : Builtins → Tree → ℕ → ClauseTree → List SlotWatch → Point → Trace State
body_or_agent b the_call i c [] p = body_run b c p
body_or_agent b the_call i c (w ∷ ws) p = one (suspended the_call i (w ∷ ws) p.slots p.state)

-- the clauses of a predicate are rules, or facts behind an `index`
unfoldable pub pred_run : Builtins → Level → PredTree → Option (List (List Mode)) → Trees → State → Trace State
pred_run b l pred None ts s =
    rules (rules_by b l (λ c. backtracks c.back c.watches) (λ i c p. body_or_agent b (comp pred.name ts) i c c.watches p)) 0 pred.clauses ts s
pred_run b l pred (Some lists) ts s = facts_called lists pred.clauses ts s

-- A function's rule runs its body, and then evaluates its value; the first answer is the call's. Where there is none the
-- call is raised as unresolved.

abbrev pub value_at : Option Tree → Point → Trace Applied
value_at None p = done
value_at (Some t) p = let e : Evaluated = evaluated t p.slots p.state in one (record { value = e.tree; state = e.state })

abbrev pub value_run : Builtins → ClauseTree → Point → Trace Applied
value_run b c p = then (strictly (meaning b c.body) p) (value_at c.value)

unfoldable pub function_run : Builtins → Level → PredTree → Trees → State → Trace Applied
function_run b l pred ts s =
    chosen (rules (rules_by b l (λ c. false) (λ i c p. value_run b c p)) 0 pred.clauses ts s) (λ a. one a)
    (raised_with (codes "unresolved_function_call") (comp pred.name ts) s)

-- The one predicate, or the one function, of a name and a number of arguments.

-- A call is one Tick and then the clauses at the lower level. A quiet predicate's is the clauses alone: it takes nothing
-- from the depth, only from the number of quiet calls that may nest.

abbrev pub entered : {X : Type 0} → Bool → Option Level → Option Level → (Level → Trace X) → Trace X
entered true inner below f = unticked inner f
entered false inner below f = ticked below f

abbrev pub call_run : Builtins → Option Level → Option Level → Option PredTree → Trees → State → Trace State
call_run b inner below None ts s = done
call_run b inner below (Some pred) ts s = entered pred.quiet inner below (λ l. pred_run b l pred pred.index ts s)

abbrev pub application_run : Builtins → Option Level → Option Level → Option PredTree → Trees → State → Trace Applied
application_run b inner below None ts s = done
application_run b inner below (Some pred) ts s = entered pred.quiet inner below (λ l. function_run b l pred ts s)

-- what calls do, by the level for quiet calls and the level for all others
unfoldable pub calls_of : Builtins → List PredTree → Option Level → Option Level → Calls
calls_of b preds inner below = record {
  called = λ name ts s. call_run b inner below (find_pred false name (tree_count ts) preds) ts s;
  applied = λ name ts s. application_run b inner below (find_pred true name (tree_count ts) preds) ts s;
  drained = drained;
}

-- the level above another one, where so many quiet calls may nest
unfoldable pub quiet_level : Builtins → List PredTree → Option Level → ℕ → Level
quiet_level b preds below zero = level_of (calls_of b preds None below) below
quiet_level b preds below (suc k) = level_of (calls_of b preds (Some (quiet_level b preds below k)) below) below

-- The level of a depth. Where Ticks stand between the calls of quiet predicates (`Quiet`), no more of these calls nest than
-- there are predicates, so that they take nothing from the depth. The depth is added so that a quiet call leads to a level
-- that is still above that of one depth less.
unfoldable pub level_at : Builtins → List PredTree → ℕ → Level
level_at b preds zero = quiet_level b preds None (length preds)
level_at b preds (suc d) = quiet_level b preds (Some (level_at b preds d)) (suc (length preds + d))
