-- Programs that call nothing but their own predicates and functions, what is built, and `call`. (Own.)
use Rattle.std.specs.Prelude.{◌≡◌, ◌⊎◌, ◌++◌, ◌||◌, ℕ, Bool, false, true, List, length, Contains, IsSome, IsTrue}
use Rattle.pi_terms.specs.Tree.{Tree}
use Rattle.pi_core.specs.GoalTree.{GoalTree, call, apply, subgoals}
use Rattle.pi_core.specs.CoreTree.{ClauseTree, PredTree, QueryTree, find_pred}
use Rattle.pi_meaning.specs.Shared.Effects.{is_built_name, is_value_name}
use Rattle.pi_meaning.specs.Shared.Names.{is_call, is_given}

-- each call in a goal is of a predicate of the program or of one that is given so, and each call of a function is of one of the program or of one that is given so
pub record CallsAmong (given values : List ℕ → ℕ → Bool) (preds : List PredTree) (g : GoalTree) : Type 0 where
  pub calls : (name : List ℕ) (args : List Tree) → Contains (subgoals g) (call name args) →
      IsSome (find_pred false name (length args) preds) ⊎ IsTrue (given name (length args))
  pub functions : (name : List ℕ) (args : List Tree) (slot : ℕ) → Contains (subgoals g) (apply name args slot) →
      IsSome (find_pred true name (length args) preds) ⊎ IsTrue (values name (length args))

pub record ClauseCallsAmong (given values : List ℕ → ℕ → Bool) (preds : List PredTree) (c : ClauseTree) : Type 0 where
  pub guard : CallsAmong given values preds c.guard
  pub body : CallsAmong given values preds c.body

abbrev pub ProgramCallsAmong : (List ℕ → ℕ → Bool) → (List ℕ → ℕ → Bool) → List PredTree → Type 0
ProgramCallsAmong given values preds = (pred : PredTree) → Contains preds pred → (c : ClauseTree) → Contains pred.clauses c → ClauseCallsAmong given values preds c

-- a program, and a query with the predicates that were made for it
pub record QueryCallsAmong (given values : List ℕ → ℕ → Bool) (program : List PredTree) (q : QueryTree) : Type 0 where
  pub preds : ProgramCallsAmong given values (program ++ q.helpers)
  pub goal : CallsAmong given values (program ++ q.helpers) q.goal

-- the predicates that the machine has: those that are built, and `call`
abbrev pub is_machine_predicate : List ℕ → ℕ → Bool
is_machine_predicate name k = is_call name k || is_built_name name k

-- they call what they define and what the machine has
abbrev pub CallsDefined : List PredTree → GoalTree → Type 0
CallsDefined preds g = CallsAmong is_machine_predicate is_value_name preds g

abbrev pub ClauseCallsDefined : List PredTree → ClauseTree → Type 0
ClauseCallsDefined preds c = ClauseCallsAmong is_machine_predicate is_value_name preds c

abbrev pub ProgramCallsDefined : List PredTree → Type 0
ProgramCallsDefined preds = ProgramCallsAmong is_machine_predicate is_value_name preds

abbrev pub QueryCallsDefined : List PredTree → QueryTree → Type 0
QueryCallsDefined program q = QueryCallsAmong is_machine_predicate is_value_name program q

-- no predicate and no function of a program has a name that the language gives
abbrev pub NamesAreFree : List PredTree → Type 0
NamesAreFree preds = (pred : PredTree) → Contains preds pred → is_given pred.function pred.name pred.arity ≡ false
