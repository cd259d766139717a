-- A weight of configurations, which falls at each step that counts no Tick: so between two Ticks there are only so many
-- steps. What a goal weighs goes by what is behind an answer of it weighs, `behind`; how many answers it can have before a
-- Tick is in that. A quiet call weighs what the clauses weigh that it enters, so weights are those of a program.
use Rattle.std.specs.Prelude.{ℕ, zero, suc, ◌+◌, ◌*◌, ◌^◌, ◌<◌, Bool, true, false, cond, List, [], ◌∷◌, length, Option, Some, None, ⊤}
use Rattle.pi_core.specs.GoalTree.{GoalTree, truth, fail, tick, call, apply, seq, alternatives, if_else, not, once, collect, count, catch, GoalTrees, no_goals, goal}
use Rattle.pi_core.specs.CoreTree.{ClauseTree, PredTree, find_pred}
use Rattle.pi_meaning.specs.Shared.Names.{is_call, is_given}
use Rattle.pi_meaning.specs.CoreMeaning.Quiet.{TicksBetween}
use Rattle.pi_syntax.specs.declared.program.Mode.{Mode}
use Rattle.pi_meaning.specs.Machine.Configuration.{Frame, more, return, give, Choice, rules_left, facts_left, branches_left, alternatives_left, Found, Strict, once_level, not_level, if_level, guard_level, value_level, list_level, number_level, search_level, Entry, choice, strict, catch_level, left, Now, going, settling, telling, failed, raising, Config}
use Rattle.pi_meaning.specs.Machine.Step.{Outcome, silently, with_tick, quietly, deeper, loading, writing, answering, ending}

-- what calls weigh by what they enter without a Tick: those of a function, or else of a predicate, by name and number of
-- arguments and by what is behind
abbrev pub CallWeights : Type 0
CallWeights = Bool → List ℕ → ℕ → ℕ → ℕ

-- a search, by how many rounds may follow
abbrev pub rounds_left : Option Found → ℕ
rounds_left None = 2 ^ 128
rounds_left (Some f) = f.left

abbrev pub search_weight : Bool → Option Found → ℕ
search_weight true f = 4 * rounds_left f + 3
search_weight false f = 4 * rounds_left f + 5

-- what a call weighs that begins a search
unfoldable pub search_room : ℕ
search_room = search_weight false None + 4

-- `call` weighs more than the goals by a name that it leads to
abbrev pub call_weight : Bool → ℕ → ℕ
call_weight true behind = suc (suc (suc (suc (suc behind)))) + search_room
call_weight false behind = suc (suc (suc behind)) + search_room

unfoldable mutual
  pub goal_weight : CallWeights → GoalTree → ℕ → ℕ
  goal_weight calls truth behind = suc behind
  goal_weight calls fail behind = 1
  goal_weight calls tick behind = 1
  goal_weight calls (call name args) behind = call_weight (is_call name (length args)) behind + calls false name (length args) behind
  goal_weight calls (apply name args slot) behind = suc (suc behind) + calls true name (length args) behind
  goal_weight calls (seq gs) behind = suc (goals_weight calls gs behind)
  goal_weight calls (alternatives gs) behind = suc (branches_weight calls gs behind)
  goal_weight calls (if_else test g other) behind = suc (goal_weight calls test (suc (goal_weight calls g behind)) + suc (goal_weight calls other behind))
  goal_weight calls (not g) behind = suc (goal_weight calls g 1 + suc behind)
  goal_weight calls (once g) behind = suc (goal_weight calls g (suc behind) + 1)
  goal_weight calls (collect g value into) behind = suc (goal_weight calls g 2 + suc behind)
  goal_weight calls (count g into) behind = suc (goal_weight calls g 1 + suc behind)
  goal_weight calls (catch g ball handler) behind = suc (goal_weight calls g (suc (suc behind)) + suc (goal_weight calls handler behind))

  -- goals that are left, as a frame
  pub goals_weight : CallWeights → GoalTrees → ℕ → ℕ
  goals_weight calls no_goals behind = behind
  goals_weight calls (goal g gs) behind = suc (goal_weight calls g (goals_weight calls gs behind))

  -- goals as alternatives
  pub branches_weight : CallWeights → GoalTrees → ℕ → ℕ
  branches_weight calls no_goals behind = 0
  branches_weight calls (goal g gs) behind = suc (goal_weight calls g behind + branches_weight calls gs behind)

-- goals that run
abbrev pub going_weight : CallWeights → GoalTrees → ℕ → ℕ
going_weight calls no_goals behind = behind
going_weight calls (goal g gs) behind = goal_weight calls g (goals_weight calls gs behind)

-- frames, by what an answer of their level weighs
unfoldable pub frames_weight : CallWeights → List Frame → ℕ → ℕ
frames_weight calls [] answer = answer
frames_weight calls (more gs ∷ k) answer = suc (going_weight calls gs (frames_weight calls k answer))
frames_weight calls (return e ∷ k) answer = suc (frames_weight calls k answer)
frames_weight calls (give t ∷ k) answer = suc answer

-- behind the body of a rule: a function's value, or what is behind the call
abbrev pub body_behind : Bool → ℕ → ℕ → ℕ
body_behind true behind answer = suc answer
body_behind false behind answer = behind

-- rules that are tried
unfoldable pub rules_weight : CallWeights → List ClauseTree → ℕ → ℕ
rules_weight calls [] behind = 0
rules_weight calls (c ∷ cs) behind = goal_weight calls c.guard (suc (goal_weight calls c.body behind)) + suc (rules_weight calls cs behind)

-- facts that are tried
unfoldable pub facts_weight : List ClauseTree → ℕ → ℕ
facts_weight [] behind = 0
facts_weight (c ∷ cs) behind = suc behind + suc (facts_weight cs behind)

-- ---- quiet calls

-- the clauses of a predicate: rules, or facts
abbrev pub clauses_weight : CallWeights → Option (List (List Mode)) → List ClauseTree → ℕ → ℕ
clauses_weight calls None cs behind = rules_weight calls cs behind
clauses_weight calls (Some lists) cs behind = facts_weight cs behind

-- a function, whose clauses run in a level of its own, or a predicate, from which there is a return
abbrev pub inside_weight : CallWeights → Bool → PredTree → ℕ → ℕ
inside_weight calls true pred behind = rules_weight calls pred.clauses (suc (suc behind))
inside_weight calls false pred behind = clauses_weight calls pred.index pred.clauses (suc behind)

abbrev pub entered_weight : CallWeights → Bool → Bool → PredTree → ℕ → ℕ
entered_weight calls true function pred behind = suc (inside_weight calls function pred behind)
entered_weight calls false function pred behind = 0

abbrev pub found_weight : CallWeights → Bool → Option PredTree → ℕ → ℕ
found_weight calls function None behind = 0
found_weight calls function (Some pred) behind = entered_weight calls pred.quiet function pred behind

-- Where so many quiet calls may nest. What the language gives is no predicate and no function of the program.
unfoldable pub calls_within : List PredTree → ℕ → CallWeights
calls_within preds zero function name k behind = 0
calls_within preds (suc n) function name k behind = cond (is_given function name k) 0 (found_weight (calls_within preds n) function (find_pred function name k preds) behind)

-- Where Ticks stand between the calls of quiet predicates, no more of these nest than there are predicates.
abbrev pub program_calls : List PredTree → CallWeights
program_calls preds = calls_within preds (length preds)

-- ---- configurations

-- an answer of a level
unfoldable pub strict_answer_weight : CallWeights → Strict → ℕ → ℕ → ℕ
strict_answer_weight calls once_level behind answer = suc behind
strict_answer_weight calls not_level behind answer = 1
strict_answer_weight calls (if_level g other) behind answer = suc (goal_weight calls g behind)
strict_answer_weight calls (guard_level called c cs) behind answer = suc (goal_weight calls c.body (body_behind called.function behind answer))
strict_answer_weight calls (value_level called into) behind answer = suc behind
strict_answer_weight calls (list_level value into got) behind answer = 2
strict_answer_weight calls (number_level into n) behind answer = 1
strict_answer_weight calls (search_level x labelled f) behind answer = search_weight labelled f

-- an answer with no frame left: of the newest open level, behind so many marks
unfoldable pub answer_weight : CallWeights → ℕ → List Entry → ℕ
answer_weight calls n [] = 2
answer_weight calls n (choice c b ∷ es) = answer_weight calls n es
answer_weight calls zero (strict level b ∷ es) = strict_answer_weight calls level (frames_weight calls b.frames (answer_weight calls zero es)) (answer_weight calls zero es)
answer_weight calls (suc n) (strict level b ∷ es) = answer_weight calls (suc n) es
answer_weight calls zero (catch_level ball handler b ∷ es) = suc (suc (frames_weight calls b.frames (answer_weight calls zero es)))
answer_weight calls (suc n) (catch_level ball handler b ∷ es) = answer_weight calls n es
answer_weight calls n (left ∷ es) = answer_weight calls (suc n) es

-- what an entry keeps
unfoldable pub choice_weight : CallWeights → Choice → ℕ → ℕ → ℕ
choice_weight calls (rules_left called cs) behind answer = suc (rules_weight calls cs (body_behind called.function behind answer))
choice_weight calls (facts_left ts cs) behind answer = suc (facts_weight cs behind)
choice_weight calls (branches_left gs) behind answer = suc (branches_weight calls gs behind)
choice_weight calls (alternatives_left name args p alts) behind answer = 1

unfoldable pub strict_weight : CallWeights → Strict → ℕ → ℕ → ℕ
strict_weight calls once_level behind answer = 1
strict_weight calls not_level behind answer = suc behind
strict_weight calls (if_level g other) behind answer = suc (goal_weight calls other behind)
strict_weight calls (guard_level called c cs) behind answer = suc (rules_weight calls cs (body_behind called.function behind answer))
strict_weight calls (value_level called into) behind answer = 2
strict_weight calls (list_level value into got) behind answer = suc behind
strict_weight calls (number_level into n) behind answer = suc behind
strict_weight calls (search_level x labelled f) behind answer = suc behind

unfoldable pub stack_weight : CallWeights → List Entry → ℕ
stack_weight calls [] = 0
stack_weight calls (choice c b ∷ es) = choice_weight calls c (frames_weight calls b.frames (answer_weight calls zero es)) (answer_weight calls zero es) + stack_weight calls es
stack_weight calls (strict level b ∷ es) = strict_weight calls level (frames_weight calls b.frames (answer_weight calls zero es)) (answer_weight calls zero es) + stack_weight calls es
stack_weight calls (catch_level ball handler b ∷ es) = suc (goal_weight calls handler (frames_weight calls b.frames (answer_weight calls zero es))) + stack_weight calls es
stack_weight calls (left ∷ es) = suc (stack_weight calls es)

-- what runs, by what an answer weighs
unfoldable pub now_weight : CallWeights → Now → ℕ → ℕ
now_weight calls (going gs e s k) answer = going_weight calls gs (frames_weight calls k answer)
now_weight calls (settling before s gs e k) answer = suc (going_weight calls gs (frames_weight calls k answer))
now_weight calls (telling text gs e s k) answer = suc (going_weight calls gs (frames_weight calls k answer))
now_weight calls failed answer = 0
now_weight calls (raising ball) answer = 1

unfoldable pub weight_by : CallWeights → Config → ℕ
weight_by calls c = now_weight calls c.now (answer_weight calls zero c.stack) + stack_weight calls c.stack

abbrev pub weight : List PredTree → Config → ℕ
weight preds c = weight_by (program_calls preds) c

-- a step that counts no Tick; a quiet call does so where Ticks stand between such calls
abbrev pub GetsLighter : List PredTree → Config → Outcome → Type 0
GetsLighter preds c (silently next) = weight preds next < weight preds c
GetsLighter preds c (with_tick next) = ⊤
GetsLighter preds c (quietly next) = TicksBetween preds → weight preds next < weight preds c
GetsLighter preds c (deeper next) = weight preds next < weight preds c
GetsLighter preds c (loading n next) = weight preds next < weight preds c
GetsLighter preds c (writing text next) = weight preds next < weight preds c
GetsLighter preds c (answering x next) = weight preds next < weight preds c
GetsLighter preds c (ending e) = ⊤
