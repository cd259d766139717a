-- One step of the machine.
use Rattle.std.specs.Prelude.{ℕ, zero, suc, nat_lt, cond, ℤ, pos, Bool, true, false, List, [], ◌∷◌, ◌++◌, Option, Some, None, Result, Ok, Err, option_and_then, is_some, codes, slice_set, replicate}
use Rattle.std.specs.List.{list_any}
use Rattle.pi_terms.specs.Tree.{Tree, int, atom, comp, Trees, no_trees, tree, trees_of, tree_count, cells, most_cells}
use Rattle.pi_terms.specs.Places.{Places, held}
use Rattle.pi_terms.specs.Copy.{copy, new_variables}
use Rattle.pi_constraints.specs.Value.{value}
use Rattle.pi_constraints.specs.State.{State, bindings, next, empty_state, followed}
use Rattle.pi_constraints.specs.Unify.{unified}
use Rattle.pi_core.specs.GoalTree.{GoalTree, truth, fail, tick, call, apply, seq, alternatives, if_else, not, once, collect, count, catch, GoalTrees, no_goals, goal}
use Rattle.pi_core.specs.CoreTree.{ClauseTree, PredTree, QueryTree, find_pred, leaves_others}
use Rattle.pi_traces.specs.Trace.{End, Done, Raise}
use Rattle.pi_effects.specs.Effect.{Effect, Succeeds, Fails, Writes, Raises, FunctionEffect, Gives, Refuses}
use Rattle.pi_effects.specs.Exception.{type_error}
use Rattle.pi_effects.specs.Items.{each_tree}
use Rattle.pi_meaning.specs.Shared.Effects.{predicate_effect, value_effect}
use Rattle.pi_meaning.specs.Shared.Names.{is_later_predicate, is_later_function, is_planner, is_resource, is_call}
use Rattle.pi_meaning.specs.Shared.Calls.{Called as Named, called_by}
use Rattle.pi_meaning.specs.CoreMeaning.Instances.{is_called_by_name}
use Rattle.pi_meaning.specs.Machine.NamedGoals.{slots_from, goal_by_name}
use Rattle.pi_meaning.specs.Machine.Filled.{are_filled}
use Rattle.pi_meaning.specs.Shared.Within.{Within, a_query, a_body, is_body}
use Rattle.pi_meaning.specs.Shared.View.{View}
use Rattle.pi_constraints.specs.Evaluation.{Evaluated, evaluated, EvaluatedAll, evaluated_all, with_new_variables}
use Rattle.pi_constraints.specs.HeadMatch.{matched_all_in}
use Rattle.pi_meaning.specs.CoreMeaning.Facts.{fact_terms, unified_with, fits_modes}
use Rattle.pi_meaning.specs.CoreMeaning.Meaning.{slot_value}
use Rattle.pi_syntax.specs.declared.program.Mode.{Mode}
use Rattle.pi_terms.specs.ListCopies.{list_of_copies, new_in_all}
use Rattle.pi_meaning.specs.CoreMeaning.Run.{Solution}
use Rattle.pi_core.specs.declared.core_program.NameSlot.{NameSlot}
use Rattle.pi_meaning.specs.Machine.Configuration.{Frame, more, return, give, Back, Called, Choice, rules_left, facts_left, branches_left, alternatives_left, Search, Found, Strict, once_level, not_level, if_level, guard_level, value_level, list_level, number_level, search_level, Entry, choice, strict, catch_level, left, Now, going, settling, telling, failed, raising, Config, config, behind, returning, after_body, in_places}
use Rattle.pi_settling.specs.Settle.{Settlement}
use Rattle.pi_settling.specs.Reading.{Operand, reads, refuses, operand_value}
use Rattle.pi_settling.specs.Read.{operand_in}
use Rattle.pi_settling.specs.Posted.{posted_in}
use Rattle.pi_settling.specs.Rounds.{better_sign, count_better}
use Rattle.pi_prop_spec.specs.Steps.{Refusal}
use Rattle.pi_prop_spec.specs.Postings.{Posting, posting_in, raised_by}
use Rattle.pi_settling.specs.Words.{plain_words, second_of}
use Rattle.pi_constraints.specs.declared.constraint.Item.{Item}
use Rattle.pi_settling.specs.Options.{Options, Objective, ValueWord}
use Rattle.pi_settling.specs.Asked.{Asked, labels, raises}
use Rattle.pi_settling.specs.SolveCalls.{solve_asked}
use Rattle.pi_settling.specs.Confined.{confined}
use Rattle.pi_settling.specs.Choices.{Pending, pending, picked, Alternative, alternatives as alternatives_of, left_by, narrowed_to}
use Rattle.pi_meaning.specs.Shared.Settle.{settlement}

-- what a step comes to: the next configuration; the same after a Tick; the same, where a quiet call was entered; the same, where `call` has led one
-- down; a load and the next configuration; a text that is written and the next one; an answer and the next one; the end
pub data Outcome : Type 0 where
  silently : Config → Outcome
  with_tick : Config → Outcome
  quietly : Config → Outcome
  deeper : Config → Outcome
  loading : ℕ → Config → Outcome
  writing : List ℕ → Config → Outcome
  answering : Solution → Config → Outcome
  ending : End → Outcome

-- ---- parts of steps

abbrev pub back_to : Places → State → List Frame → Back
back_to e s k = record { slots = e; state = s; frames = k }

-- one goal
abbrev pub run_goal : GoalTree → Places → State → List Frame → Now
run_goal g e s k = going (goal g no_goals) e s k

-- the goal of a new level
abbrev pub inside : GoalTree → Places → State → Entry → List Entry → Config
inside g e s level es = config (run_goal g e s []) (level ∷ es)

-- the first branch; the others stay as a choice
abbrev pub branch : GoalTrees → Back → List Entry → Config
branch no_goals b es = config failed es
branch (goal g no_goals) b es = config (run_goal g b.slots b.state b.frames) es
branch (goal g (goal h hs)) b es = config (run_goal g b.slots b.state b.frames) (choice (branches_left (goal h hs)) b ∷ es)

-- a rule whose guard has an answer: a backtrackable one keeps the rules behind it, where there are any
abbrev pub later_rules : Bool → Called → List ClauseTree → Back → List Entry → List Entry
later_rules false called cs b es = es
later_rules true called [] b es = es
later_rules true called (c ∷ cs) b es = choice (rules_left called (c ∷ cs)) b ∷ es

-- a rule that is tried: the call, the rule and those after it, what the call comes back to, and the stack
pub record Trial : Type 0 where
  pub called : Called
  pub rule : ClauseTree
  pub later : List ClauseTree
  pub back : Back
  pub stack : List Entry

abbrev pub trial : Called → ClauseTree → List ClauseTree → Back → List Entry → Trial
trial called c cs b es = record { called = called; rule = c; later = cs; back = b; stack = es }

-- the body of a rule that applies, with these slots
abbrev pub taken : Trial → Places → State → Config
taken t e s =
    config (run_goal t.rule.body e s (after_body t.called.function t.rule t.back.frames))
    (later_rules (leaves_others t.called.function t.rule) t.called t.later t.back t.stack)

-- the guard of a rule whose head matches; `true` needs no level
abbrev pub guarding : GoalTree → Trial → Places → Config
guarding truth t e = taken t e t.back.state
guarding g t e = inside g e t.back.state (strict (guard_level t.called t.rule t.later) t.back) t.stack

-- the first rule whose head matches
abbrev pub tried : Trial → Option Places → Config → Config
tried t None otherwise = otherwise
tried t (Some e) otherwise = guarding t.rule.guard t e

unfoldable pub try_rules : Called → List ClauseTree → Back → List Entry → Config
try_rules called [] b es = config failed es
try_rules called (c ∷ cs) b es =
    tried (trial called c cs b es) (matched_all_in (bindings b.state) c.head called.args (replicate c.slots None)) (try_rules called cs b es)

-- ---- facts

-- the state in which a call's arguments are those of a fact
abbrev pub with_fact : Trees → State → ClauseTree → Option State
with_fact ts s c = option_and_then (unified_with ts) (fact_terms c.head (replicate c.slots None) s)

-- the facts from the first one on that unifies with a call
unfoldable pub from_unifying : Trees → State → List ClauseTree → List ClauseTree
from_unifying ts s [] = []
from_unifying ts s (c ∷ cs) = cond (is_some (with_fact ts s c)) (c ∷ cs) (from_unifying ts s cs)

-- facts are kept where there are any
abbrev pub later_facts : Trees → List ClauseTree → Back → List Entry → List Entry
later_facts ts [] b es = es
later_facts ts (c ∷ cs) b es = choice (facts_left ts (c ∷ cs)) b ∷ es

-- A fact that unifies: that is settled, and what is behind the call goes on. Those behind the fact stay from the next one on that unifies too, so
-- that nothing is left where none does.
abbrev pub fact_tried : Trees → List ClauseTree → Back → List Entry → Option State → Config → Config
fact_tried ts cs b es None otherwise = otherwise
fact_tried ts cs b es (Some r) otherwise = config (settling b.state r no_goals b.slots b.frames) (later_facts ts (from_unifying ts b.state cs) b es)

-- the first fact that unifies
unfoldable pub try_facts : Trees → List ClauseTree → Back → List Entry → Config
try_facts ts [] b es = config failed es
try_facts ts (c ∷ cs) b es = fact_tried ts cs b es (with_fact ts b.state c) (try_facts ts cs b es)

-- the clauses of a predicate: rules, or facts, of which a call fails that no mode list fits
unfoldable pub try_clauses : Option (List (List Mode)) → List ClauseTree → Trees → Back → List Entry → Config
try_clauses None cs ts b es = try_rules (record { function = false; args = ts }) cs b es
try_clauses (Some lists) cs ts b es = cond (list_any (λ modes. fits_modes (bindings b.state) modes ts) lists) (try_facts ts cs b es) (config failed es)

-- what is raised where a term is too large to be copied
abbrev pub ball_of : Tree → Tree → Tree
ball_of t ball = cond (nat_lt most_cells (cells t)) (atom (codes "term_too_large")) ball

-- a function call without an answer
abbrev pub unresolved : Tree → State → Tree
unresolved called s = let t : Tree = value (bindings s) called in ball_of t (comp (codes "unresolved_function_call") (tree (copy 0 t) no_trees))

-- ---- goals

-- what comes after a goal: the goals after it in its block, the frames, and the stack
pub record Rest : Type 0 where
  pub goals : GoalTrees
  pub frames : List Frame
  pub stack : List Entry

abbrev pub with_rest : GoalTrees → List Frame → List Entry → Rest
with_rest gs k es = record { goals = gs; frames = k; stack = es }

-- a call by a name, with its arguments as they are written and as they are evaluated
pub record NameCall : Type 0 where
  pub name : List ℕ
  pub args : List Tree
  pub all : EvaluatedAll

abbrev pub name_call : List ℕ → List Tree → EvaluatedAll → NameCall
name_call name args all = record { name = name; args = args; all = all }

-- a text that is written; what belongs to the body of a planner call may write none
abbrev pub written_now : Bool → List ℕ → GoalTrees → Places → State → List Frame → Now
written_now true text gs e s k = raising (atom (codes "output_in_plan"))
written_now false text gs e s k = telling text gs e s k

-- after the effect of a predicate, whose goal began in this state
abbrev pub done_now : View → State → Effect → GoalTrees → Places → List Frame → Now
done_now v before (Succeeds s) gs e k = settling before s gs e k
done_now v before Fails gs e k = failed
done_now v before (Writes text s) gs e k = written_now (is_body v.within) text gs e s k
done_now v before (Raises ball) gs e k = raising ball

-- after that of a function, whose value goes into a slot
abbrev pub given_now : FunctionEffect → ℕ → GoalTrees → Places → List Frame → Now
given_now (Gives t s) into gs e k = going gs (slice_set e into (Some t)) s k
given_now (Refuses ball) into gs e k = raising ball

-- what is raised of a name with so many arguments that isn't known
abbrev pub unknown_ball : List ℕ → ℕ → Tree
unknown_ball name k = comp (codes "unknown_name") (tree (atom name) (tree (int (pos k)) no_trees))

-- a call of a predicate of the program
abbrev pub call_step : Bool → Config → Outcome
call_step true c = quietly c
call_step false c = with_tick c

abbrev pub predicate_step : Option PredTree → EvaluatedAll → List Frame → List Entry → Outcome
predicate_step None all k es = silently (config failed es)
predicate_step (Some pred) all k es =
    call_step pred.quiet (try_clauses pred.index pred.clauses all.trees (back_to [] all.state (returning all.slots k)) es)

-- ---- labelling

-- alternatives are kept where there are any
abbrev pub later_alternatives : List ℕ → List Tree → Pending → List Alternative → Back → List Entry → List Entry
later_alternatives name args p [] b es = es
later_alternatives name args p (a ∷ alts) b es = choice (alternatives_left name args p (a ∷ alts)) b ∷ es

-- An alternative is settled, and from what that leaves the call labels on: its arguments are evaluated, so it asks for the same once more. One that leaves no value fails.
abbrev pub alternative_now : GoalTree → Back → Option State → Now
alternative_now g b None = failed
alternative_now g b (Some r) = settling b.state r (goal g no_goals) b.slots b.frames

-- a Tick and the first of these alternatives; the others stay
abbrev pub alternatives_step : List ℕ → List Tree → Pending → List Alternative → Back → List Entry → Outcome
alternatives_step name args p [] b es = silently (config failed es)
alternatives_step name args p (a ∷ alts) b es =
    with_tick (config (alternative_now (call name args) b (narrowed_to b.state p.variable (left_by a p.domain))) (later_alternatives name args p alts b es))

-- how the call labels on after an alternative: its arguments, and what it comes back to
pub record Again : Type 0 where
  pub args : List Tree
  pub back : Back

-- The call labels on as it is written, in its slots, which hold each of its variables by now. One that names a slot which its block lacks (no clause or query that is run has such a
-- goal) would make another variable each time: it labels on in slots of its own, which hold its arguments.
abbrev pub again_by : Bool → NameCall → State → Rest → Again
again_by true c s r = record { args = c.args; back = back_to c.all.slots s (behind r.goals r.frames) }
again_by false c s r =
    record { args = slots_from 0 (tree_count c.all.trees); back = back_to (in_places c.all.trees) s (returning c.all.slots (behind r.goals r.frames)) }

abbrev pub again : NameCall → State → Rest → Again
again c s r = again_by (are_filled c.all.slots (trees_of c.args)) c s r

-- where no variable is unbound, the goals after the call go on; else one is picked, and its alternatives are what is left to be tried
abbrev pub label_step : NameCall → ValueWord → State → Rest → Option Pending → Config
label_step c w s r None = config (going r.goals c.all.slots s r.frames) r.stack
label_step c w s r (Some p) =
    let a : Again = again c s r in config failed (choice (alternatives_left c.name a.args p (alternatives_of w p.domain)) a.back ∷ r.stack)

-- ---- searches

-- the arguments of the call that labels in a round, which runs in slots of its own
abbrev pub search_args : Search → Trees
search_args x = tree (plain_words x.options) (tree x.vars no_trees)

abbrev pub search_slots : Search → Places
search_slots x = in_places (search_args x)

abbrev pub round_goal : GoalTree
round_goal = call (codes "solve") (slots_from 0 2)

abbrev pub round_call : Search → State → NameCall
round_call x s = name_call (codes "solve") (slots_from 0 2) (record { trees = search_args x; slots = search_slots x; state = s })

-- what the first round posts, by how its expression is read, and what a later one does, by its goal: it is settled, or something is raised
abbrev pub begun_now : Search → State → Operand → Now
begun_now x s (reads r sum) = settling s r no_goals (search_slots x) []
begun_now x s (refuses ball) = raising ball

abbrev pub bettered_now : Search → State → Result Posting Refusal → Now
bettered_now x s (Ok p) = settling s (posted_in s p) no_goals (search_slots x) []
bettered_now x s (Err r) = raising (raised_by s r)

-- the goal that says that the expression has a better value than this one
abbrev pub better_goal : Objective → ℤ → Tree
better_goal b v = comp (better_sign b.greatest) (tree b.expression (tree (int v) no_trees))

-- a search begins: the options and the variables are the call's two arguments
abbrev pub search_of : Options → Objective → Trees → Search
search_of o b ts = record { options = o; objective = b; vars = second_of ts }

abbrev pub search_step : Search → NameCall → Rest → Config
search_step x c r =
    config (begun_now x c.all.state (operand_in x.objective.expression c.all.state))
    (strict (search_level x false None) (back_to c.all.slots c.all.state (behind r.goals r.frames)) ∷ r.stack)

-- the answer of a search, where there is one
abbrev pub searched : Option Found → Back → List Entry → Config
searched None b es = config failed es
searched (Some f) b es = config (going no_goals b.slots f.state b.frames) es

-- A round's answer, with this value: it is the search's where no integer is better, or no more rounds may follow; else the next round begins, from the state in which the call began.
unfoldable pub next_round : ℕ → Search → State → ℤ → Back → List Entry → Config
next_round zero x q v b es = config (going no_goals b.slots q b.frames) es
next_round (suc n) x q v b es =
    config (bettered_now x b.state (posting_in b.state (better_goal x.objective v))) (strict (search_level x false (Some (record { state = q; left = n }))) b ∷ es)

-- how many rounds may follow an answer with this value
abbrev pub rounds_after : Objective → Option Found → ℤ → ℕ
rounds_after b None v = count_better b.greatest v
rounds_after b (Some f) v = f.left

abbrev pub weighed_step : Search → Option Found → State → Option ℤ → Back → List Entry → Config
weighed_step x f q None b es = config (raising (type_error (codes "integer") x.objective.expression q)) es
weighed_step x f q (Some v) b es = next_round (rounds_after x.objective f v) x q v b es

abbrev pub worth_in : Search → State → Option ℤ
worth_in x s = operand_value (operand_in x.objective.expression s)

-- ---- calls of `solve`

abbrev pub labels_step : Option Objective → Options → List Item → NameCall → Rest → Config
labels_step (Some b) o items c r = search_step (search_of o b c.all.trees) c r
labels_step None o items c r =
    let s : State = confined c.all.state items in
    label_step c o.value s r (picked (pending s items) o.variable)

abbrev pub solve_step : Option Asked → NameCall → Rest → Config
solve_step None c r = config (raising (unknown_ball c.name (tree_count c.all.trees))) r.stack
solve_step (Some (raises ball)) c r = config (raising ball) r.stack
solve_step (Some (labels o items)) c r = labels_step o.objective o items c r

-- what a round labels, from the state that is left of its posting: its call asks for no objective
abbrev pub round_step : Option Asked → NameCall → Rest → Config
round_step None c r = config (raising (unknown_ball c.name (tree_count c.all.trees))) r.stack
round_step (Some (raises ball)) c r = config (raising ball) r.stack
round_step (Some (labels o items)) c r = labels_step None o items c r

-- of later stages of the language just `solve` is built; what isn't there is not known
abbrev pub later_step : Bool → List PredTree → NameCall → Rest → Outcome
later_step true preds c r = silently (solve_step (solve_asked c.name c.all.trees c.all.state) c r)
later_step false preds c r = predicate_step (find_pred false c.name (tree_count c.all.trees) preds) c.all (behind r.goals r.frames) r.stack

abbrev pub effect_step : View → Option Effect → List PredTree → NameCall → Rest → Outcome
effect_step v (Some e) preds c r = silently (config (done_now v c.all.state e r.goals c.all.slots r.frames) r.stack)
effect_step v None preds c r = later_step (is_later_predicate c.name (tree_count c.all.trees)) preds c r

-- ---- `call`

abbrev pub is_defined : List PredTree → List ℕ → ℕ → Bool
is_defined preds name k = is_called_by_name (find_pred false name k preds)

-- what is raised of a name that `call` finds nothing for; of a planner call it tells the first predicate that such a call wants and the program lacks
unfoldable pub unknown_by : List PredTree → List ℕ → ℕ → Tree
unknown_by preds name k =
    cond (is_planner name k)
    (cond (is_defined preds (codes "final") 1) (cond (is_defined preds (codes "action") 4) (unknown_ball name k) (unknown_ball (codes "action") 4)) (unknown_ball (codes "final") 1))
    (unknown_ball name k)

-- the goal by which a name is called; a planner call has none
abbrev pub goal_called : List PredTree → List ℕ → ℕ → Option GoalTree
goal_called preds name k = cond (is_planner name k) None (goal_by_name preds name k)

-- a goal by a name runs in slots of its own, with these arguments
abbrev pub named_now : Option GoalTree → Tree → Trees → State → List Frame → Now
named_now None ball args s k = raising ball
named_now (Some g) ball args s k = run_goal g (in_places args) s k

-- a term that is called, by what it names
abbrev pub term_now : List PredTree → Tree → State → List Frame → Option Named → Now
term_now preds t s k None = raising (type_error (codes "callable") t s)
term_now preds t s k (Some c) = named_now (goal_called preds c.name (tree_count c.args)) (unknown_by preds c.name (tree_count c.args)) c.args s k

-- of the arguments of `call` the first is called, and the others are arguments behind its own
unfoldable pub first_now : List PredTree → Trees → State → List Frame → Now
first_now preds no_trees s k = failed
first_now preds (tree t ts) s k = term_now preds t s k (called_by (followed (bindings s) t) (each_tree ts))

-- a goal by its name: `call`, or any other
abbrev pub name_step : Bool → View → List PredTree → NameCall → Rest → Outcome
name_step true v preds c r = deeper (config (first_now preds c.all.trees c.all.state (returning c.all.slots (behind r.goals r.frames))) r.stack)
name_step false v preds c r = effect_step v (predicate_effect c.name c.all.trees c.all.state) preds c r

-- a call of a function of the program, inside of a level
abbrev pub function_step : Option PredTree → EvaluatedAll → ℕ → List Frame → List Entry → Outcome
function_step None all into k es = silently (config failed es)
function_step (Some pred) all into k es =
    call_step pred.quiet (try_rules (record { function = true; args = all.trees }) pred.clauses (back_to [] all.state [])
    (strict (value_level (comp pred.name all.trees) into) (back_to all.slots all.state k) ∷ es))

-- `current_resource()`
abbrev pub resource_effect : Within → State → FunctionEffect
resource_effect a_query s = Refuses (atom (codes "no_resource"))
resource_effect (a_body n) s = Gives (int (pos n)) s

-- what isn't built of later stages of the language has no answer
abbrev pub later_value : Bool → List PredTree → NameCall → ℕ → List Frame → List Entry → Outcome
later_value true preds c into k es = silently (config failed es)
later_value false preds c into k es = function_step (find_pred true c.name (tree_count c.all.trees) preds) c.all into k es

abbrev pub other_value : Bool → View → List PredTree → NameCall → ℕ → Rest → Outcome
other_value true v preds c into r = silently (config (given_now (resource_effect v.within c.all.state) into r.goals c.all.slots r.frames) r.stack)
other_value false v preds c into r = later_value (is_later_function c.name (tree_count c.all.trees)) preds c into (behind r.goals r.frames) r.stack

abbrev pub value_step : View → Option FunctionEffect → List PredTree → NameCall → ℕ → Rest → Outcome
value_step v (Some e) preds c into r = silently (config (given_now e into r.goals c.all.slots r.frames) r.stack)
value_step v None preds c into r = other_value (is_resource c.name (tree_count c.all.trees)) v preds c into r

-- a goal, in these slots and from this state, and what comes after it
unfoldable pub goal_step : View → List PredTree → GoalTree → Places → State → Rest → Outcome
goal_step v preds truth e s r = silently (config (going r.goals e s r.frames) r.stack)
goal_step v preds fail e s r = silently (config failed r.stack)
goal_step v preds tick e s r = with_tick (config (going r.goals e s r.frames) r.stack)
goal_step v preds (call name args) e s r =
    let all : EvaluatedAll = evaluated_all (trees_of args) e s in name_step (is_call name (tree_count all.trees)) v preds (name_call name args all) r
goal_step v preds (apply name args into) e s r =
    let all : EvaluatedAll = evaluated_all (trees_of args) e s in
    value_step v (value_effect name all.trees all.state) preds (name_call name args all) into r
goal_step v preds (seq hs) e s r = silently (config (going hs e s (behind r.goals r.frames)) r.stack)
goal_step v preds (alternatives hs) e s r = silently (branch hs (back_to e s (behind r.goals r.frames)) r.stack)
goal_step v preds (if_else test g other) e s r =
    silently (inside test e s (strict (if_level g other) (back_to e s (behind r.goals r.frames))) r.stack)
goal_step v preds (not g) e s r = silently (inside g e s (strict not_level (back_to e s (behind r.goals r.frames))) r.stack)
goal_step v preds (once g) e s r = silently (inside g e s (strict once_level (back_to e s (behind r.goals r.frames))) r.stack)
goal_step v preds (collect g slot into) e s r =
    silently (inside g e s (strict (list_level slot into []) (back_to e s (behind r.goals r.frames))) r.stack)
goal_step v preds (count g into) e s r = silently (inside g e s (strict (number_level into 0) (back_to e s (behind r.goals r.frames))) r.stack)
goal_step v preds (catch g ball handler) e s r =
    let c : Evaluated = evaluated ball e s in
    silently (inside g c.slots c.state (catch_level c.tree handler (back_to c.slots c.state (behind r.goals r.frames))) r.stack)

-- ---- frames

unfoldable pub frame_step : Frame → Places → State → List Frame → List Entry → Config
frame_step (more gs) e s k es = config (going gs e s k) es
frame_step (return f) e s k es = config (going no_goals f s k) es
frame_step (give None) e s k es = config failed es
frame_step (give (Some t)) e s k es = let r : Evaluated = evaluated t e s in config (going no_goals (Some r.tree ∷ []) r.state []) es

-- ---- answers

-- the newest open level of a stack, with what lies above and below it
pub data Open : Type 0 where
  none_open : Open
  strict_open : List Entry → Strict → Back → List Entry → Open
  catch_open : List Entry → Tree → GoalTree → Back → List Entry → Open

abbrev pub beneath : Entry → Open → Open
beneath x none_open = none_open
beneath x (strict_open above s b below) = strict_open (x ∷ above) s b below
beneath x (catch_open above ball handler b below) = catch_open (x ∷ above) ball handler b below

-- behind so many marks of a `catch` that was left, the same number of them is passed
unfoldable pub newest_open : ℕ → List Entry → Open
newest_open n [] = none_open
newest_open n (choice c b ∷ es) = beneath (choice c b) (newest_open n es)
newest_open zero (strict s b ∷ es) = strict_open [] s b es
newest_open (suc n) (strict s b ∷ es) = beneath (strict s b) (newest_open (suc n) es)
newest_open zero (catch_level ball handler b ∷ es) = catch_open [] ball handler b es
newest_open (suc n) (catch_level ball handler b ∷ es) = beneath (catch_level ball handler b) (newest_open n es)
newest_open n (left ∷ es) = beneath left (newest_open (suc n) es)

-- what a `find_all` has so far: the slot that is collected, the slot for the list, and the values
pub record Collected : Type 0 where
  pub slot : ℕ
  pub into : ℕ
  pub got : List Tree

-- one more value is collected
abbrev pub list_step : Tree → Collected → List Entry → Back → List Entry → Config
list_step t c above b below =
    config (cond (nat_lt most_cells (cells t)) (raising (atom (codes "term_too_large"))) failed)
    (above ++ strict (list_level c.slot c.into (cond (nat_lt most_cells (cells t)) c.got (c.got ++ t ∷ []))) b ∷ below)

-- an answer of a level
unfoldable pub strict_step : Strict → Places → State → List Entry → Back → List Entry → Config
strict_step once_level e s above b below = config (going no_goals e s b.frames) below
strict_step not_level e s above b below = config failed below
strict_step (if_level g other) e s above b below = config (run_goal g e s b.frames) below
strict_step (guard_level called c cs) e s above b below = taken (trial called c cs b below) e s
strict_step (value_level called into) e s above b below = config (going no_goals (slice_set b.slots into (held e 0)) s b.frames) below
strict_step (list_level slot into got) e s above b below =
    list_step (slot_value slot e s) (record { slot = slot; into = into; got = got }) above b below
strict_step (number_level into n) e s above b below = config failed (above ++ strict (number_level into (suc n)) b ∷ below)
strict_step (search_level x false f) e s above b below =
    round_step (solve_asked (codes "solve") (search_args x) s) (round_call x s) (with_rest no_goals [] (strict (search_level x true f) b ∷ below))
strict_step (search_level x true f) e s above b below = weighed_step x f s (worth_in x s) b below

-- a `catch` that is left: it stays where there are choices in it
abbrev pub leave : List Entry → Tree → GoalTree → Back → List Entry → List Entry
leave [] ball handler b below = below
leave (x ∷ above) ball handler b below = left ∷ ((x ∷ above) ++ catch_level ball handler b ∷ below)

-- no value of the named variables is too large
unfoldable pub fits : List NameSlot → Solution → Bool
fits [] x = true
fits (n ∷ names) x = cond (nat_lt most_cells (cells (slot_value n.slot x.slots x.state))) false (fits names x)

abbrev pub told_step : Bool → Solution → List Entry → Outcome
told_step true x es = answering x (config failed es)
told_step false x es = silently (config (raising (atom (codes "term_too_large"))) [])

-- an answer with no frame left
unfoldable pub answer_step : List NameSlot → Places → State → List Entry → Open → Outcome
answer_step names e s es none_open =
    let x : Solution = record { slots = e; state = s } in told_step (fits names x) x es
answer_step names e s es (strict_open above level b below) = silently (strict_step level e s above b below)
answer_step names e s es (catch_open above ball handler b below) =
    silently (config (going no_goals e s b.frames) (leave above ball handler b below))

-- ---- no further answer

abbrev pub choice_step : Choice → Back → List Entry → Outcome
choice_step (rules_left called cs) b es = silently (try_rules called cs b es)
choice_step (facts_left ts cs) b es = silently (try_facts ts cs b es)
choice_step (branches_left gs) b es = silently (branch gs b es)
choice_step (alternatives_left name args p alts) b es = alternatives_step name args p alts b es

unfoldable pub end_step : Strict → Back → List Entry → Config
end_step once_level b es = config failed es
end_step not_level b es = config (going no_goals b.slots b.state b.frames) es
end_step (if_level g other) b es = config (run_goal other b.slots b.state b.frames) es
end_step (guard_level called c cs) b es = try_rules called cs b es
end_step (value_level called into) b es = config (raising (unresolved called b.state)) es
end_step (list_level slot into got) b es =
    config (going no_goals (slice_set b.slots into (Some (list_of_copies (next b.state) got))) (with_new_variables (new_in_all got) b.state) b.frames) es
end_step (number_level into n) b es = config (going no_goals (slice_set b.slots into (Some (int (pos n)))) b.state b.frames) es
end_step (search_level x labelled f) b es = searched f b es

unfoldable pub fail_step : List Entry → Outcome
fail_step [] = ending Done
fail_step (choice c b ∷ es) = choice_step c b es
fail_step (strict s b ∷ es) = silently (end_step s b es)
fail_step (catch_level ball handler b ∷ es) = silently (config failed es)
fail_step (left ∷ es) = silently (config failed es)

-- ---- exceptions

-- what is caught is settled and runs the handler, anything else is raised on
abbrev pub handler_step : GoalTree → Back → Tree → Option State → Now
handler_step handler b raised None = raising raised
handler_step handler b raised (Some s) = settling b.state s (goal handler no_goals) b.slots b.frames

-- below the `catch` that was left: what is raised comes from behind it
abbrev pub below_left : Open → List Entry → List Entry
below_left none_open es = es
below_left (strict_open above s b below) es = es
below_left (catch_open above ball handler b below) es = below

unfoldable pub raise_step : Tree → List Entry → Outcome
raise_step raised [] = ending (Raise raised)
raise_step raised (choice c b ∷ es) = silently (config (raising raised) es)
raise_step raised (strict s b ∷ es) = silently (config (raising raised) es)
raise_step raised (catch_level ball handler b ∷ es) =
    silently (config (handler_step handler b raised (unified (with_new_variables (new_variables raised) b.state) ball (copy (next b.state) raised))) es)
raise_step raised (left ∷ es) = silently (config (raising raised) (below_left (newest_open zero es) es))

-- ---- settling

-- what is left goes on; where nothing is, there is no further answer here
abbrev pub left_now : Option State → GoalTrees → Places → List Frame → Now
left_now None gs e k = failed
left_now (Some s) gs e k = going gs e s k

-- a load is told where it is above 0
abbrev pub loaded_step : ℕ → Config → Outcome
loaded_step zero c = silently c
loaded_step (suc n) c = loading (suc n) c

abbrev pub settle_step : Settlement → GoalTrees → Places → List Frame → List Entry → Outcome
settle_step m gs e k es = loaded_step m.load (config (left_now m.left gs e k) es)

-- ---- all

abbrev pub now_step : View → List PredTree → List NameSlot → Now → List Entry → Outcome
now_step v preds names (going (goal g gs) e s k) es = goal_step v preds g e s (with_rest gs k es)
now_step v preds names (going no_goals e s (f ∷ k)) es = silently (frame_step f e s k es)
now_step v preds names (going no_goals e s []) es = answer_step names e s es (newest_open zero es)
now_step v preds names (settling before s gs e k) es = settle_step (settlement before s) gs e k es
now_step v preds names (telling text gs e s k) es = writing text (config (going gs e s k) es)
now_step v preds names failed es = fail_step es
now_step v preds names (raising raised) es = raise_step raised es

unfoldable pub step : View → List PredTree → List NameSlot → Config → Outcome
step v preds names c = now_step v preds names c.now c.stack

-- the machine at the beginning of a query
abbrev pub start : QueryTree → Config
start q = config (run_goal q.goal (replicate q.slots None) empty_state []) []
