-- The machine as data: what it is about to do, and one stack of what waits, the newest first. A choice keeps what is left
-- to be tried; a level waits for the answers of the goal that runs inside of it. (The machine is own.)
use Rattle.std.specs.Prelude.{ℕ, Bool, true, false, List, [], ◌∷◌, Option, Some}
use Rattle.pi_terms.specs.Tree.{Tree, Trees, no_trees, tree}
use Rattle.pi_terms.specs.Places.{Places}
use Rattle.pi_constraints.specs.State.{State}
use Rattle.pi_settling.specs.Choices.{Pending, Alternative}
use Rattle.pi_settling.specs.Options.{Options, Objective}
use Rattle.pi_core.specs.GoalTree.{GoalTree, GoalTrees, no_goals, goal}
use Rattle.pi_core.specs.CoreTree.{ClauseTree}

-- what is to be done behind a goal: more goals in the same block of slots; the return to another block, with what its
-- slots hold; the value of a function's clause, which becomes the one slot of the answer
pub data Frame : Type 0 where
  more : GoalTrees → Frame
  return : Places → Frame
  give : Option Tree → Frame

-- what an entry of the stack comes back to, and the frames behind the goal that it stands for; the rules of a call begin with
-- no slots
pub record Back : Type 0 where
  pub slots : Places
  pub state : State
  pub frames : List Frame

-- a call whose rules are tried: of a function or of a predicate, and its arguments
pub record Called : Type 0 where
  pub function : Bool
  pub args : Trees

-- a choice: the rules that are left of a call; the facts that are left of a call with these arguments; the branches that are
-- left of alternatives; the alternatives that are left of the variable that a call of `solve` has picked, with that call as it is written
pub data Choice : Type 0 where
  rules_left : Called → List ClauseTree → Choice
  facts_left : Trees → List ClauseTree → Choice
  branches_left : GoalTrees → Choice
  alternatives_left : List ℕ → List Tree → Pending → List Alternative → Choice

-- a search of `solve` for the best answer: the options, what is wanted, and the variables as they are written
pub record Search : Type 0 where
  pub options : Options
  pub objective : Objective
  pub vars : Tree

-- the answer that a search found last, and how many rounds may follow the present one
pub record Found : Type 0 where
  pub state : State
  pub left : ℕ

-- a level of which no exception is caught: `once`; `not`; `if` with both goals; the guard of a rule, with the rules behind
-- it; a function call, as a term, and the slot for its value; `find_all`, by the slot that is collected, the slot for the
-- list and the values so far; `count_all`, by the slot for the number and the number so far; a round of a
-- search, whether it labels already or what it posted is settled first, and the answer that was found last
pub data Strict : Type 0 where
  once_level : Strict
  not_level : Strict
  if_level : GoalTree → GoalTree → Strict
  guard_level : Called → ClauseTree → List ClauseTree → Strict
  value_level : Tree → ℕ → Strict
  list_level : ℕ → ℕ → List Tree → Strict
  number_level : ℕ → ℕ → Strict
  search_level : Search → Bool → Option Found → Strict

-- an entry: a choice; a level; a `catch`, with the term that it catches and its handler; the mark that the newest `catch`
-- below it was left by an answer and keeps its choices
pub data Entry : Type 0 where
  choice : Choice → Back → Entry
  strict : Strict → Back → Entry
  catch_level : Tree → GoalTree → Back → Entry
  left : Entry

-- what runs: goals, in a block with these slots, from a state, and then frames; the same from a state that is settled first, where a goal began in the first one and left the second; a
-- text that is written before that; no further answer here; an exception
pub data Now : Type 0 where
  going : GoalTrees → Places → State → List Frame → Now
  settling : State → State → GoalTrees → Places → List Frame → Now
  telling : List ℕ → GoalTrees → Places → State → List Frame → Now
  failed : Now
  raising : Tree → Now

pub record Config : Type 0 where
  pub now : Now
  pub stack : List Entry

abbrev pub config : Now → List Entry → Config
config now stack = record { now = now; stack = stack }

-- behind goals that are left
abbrev pub behind : GoalTrees → List Frame → List Frame
behind no_goals k = k
behind (goal g gs) k = more (goal g gs) ∷ k

-- the return to a block, which counts for nothing in front of another return
abbrev pub returning : Places → List Frame → List Frame
returning e [] = return e ∷ []
returning e (more gs ∷ k) = return e ∷ more gs ∷ k
returning e (return f ∷ k) = return f ∷ k
returning e (give t ∷ k) = return e ∷ give t ∷ k

-- behind the body of a rule: a function's value
abbrev pub after_body : Bool → ClauseTree → List Frame → List Frame
after_body true c k = give c.value ∷ k
after_body false c k = k

-- slots that hold the arguments of a call, one behind the other
unfoldable pub in_places : Trees → Places
in_places no_trees = []
in_places (tree t ts) = Some t ∷ in_places ts
