-- Quiet predicates: their calls count no Tick and take nothing from the depth. So that they don't call each other for
-- ever without one, no way leads round from a quiet predicate to itself past no goal `Tick`. All this is own.
use Rattle.std.specs.Prelude.{◌≡◌, ◌⊎◌, ℕ, ◌<◌, Bool, true, false, List, length, Some, Contains, ⊤}
use Rattle.pi_core.specs.GoalTree.{GoalTree, truth, fail, tick, call, apply, seq, alternatives, if_else, not, once, collect, count, catch, GoalTrees, no_goals, goal}
use Rattle.pi_core.specs.CoreTree.{ClauseTree, PredTree, find_pred}

-- what is called
pub record Callee : Type 0 where
  pub function : Bool
  pub name : List ℕ
  pub arity : ℕ

-- there is a way through a goal to an answer past no goal `Tick`
unfoldable mutual
  pub Passes : GoalTree → Type 0
  Passes truth = ⊤
  Passes fail = ⊥
  Passes tick = ⊥
  Passes (call name args) = ⊤
  Passes (apply name args slot) = ⊤
  Passes (seq gs) = PassesAll gs
  Passes (alternatives gs) = PassesAny gs
  Passes (if_else test then other) = (Passes test × Passes then) ⊎ Passes other
  Passes (not g) = ⊤
  Passes (once g) = Passes g
  Passes (collect g value into) = ⊤
  Passes (count g into) = ⊤
  Passes (catch g ball handler) = Passes g ⊎ Passes handler

  pub PassesAll : GoalTrees → Type 0
  PassesAll no_goals = ⊤
  PassesAll (goal g gs) = Passes g × PassesAll gs

  pub PassesAny : GoalTrees → Type 0
  PassesAny no_goals = ⊥
  PassesAny (goal g gs) = Passes g ⊎ PassesAny gs

-- there is a way into a goal to a call past no goal `Tick`
unfoldable mutual
  pub Reaches : Callee → GoalTree → Type 0
  Reaches c truth = ⊥
  Reaches c fail = ⊥
  Reaches c tick = ⊥
  Reaches c (call name args) = c ≡ record { function = false; name = name; arity = length args }
  Reaches c (apply name args slot) = c ≡ record { function = true; name = name; arity = length args }
  Reaches c (seq gs) = ReachesInAll c gs
  Reaches c (alternatives gs) = ReachesInAny c gs
  Reaches c (if_else test then other) = Reaches c test ⊎ ((Passes test × Reaches c then) ⊎ Reaches c other)
  Reaches c (not g) = Reaches c g
  Reaches c (once g) = Reaches c g
  Reaches c (collect g value into) = Reaches c g
  Reaches c (count g into) = Reaches c g
  Reaches c (catch g ball handler) = Reaches c g ⊎ Reaches c handler

  pub ReachesInAll : Callee → GoalTrees → Type 0
  ReachesInAll c no_goals = ⊥
  ReachesInAll c (goal g gs) = Reaches c g ⊎ (Passes g × ReachesInAll c gs)

  pub ReachesInAny : Callee → GoalTrees → Type 0
  ReachesInAny c no_goals = ⊥
  ReachesInAny c (goal g gs) = Reaches c g ⊎ ReachesInAny c gs

-- the same of a clause: in its guard, or through that in its body
abbrev pub ReachesFrom : Callee → ClauseTree → Type 0
ReachesFrom c clause = Reaches c clause.guard ⊎ (Passes clause.guard × Reaches c clause.body)

-- a quiet predicate or function, and what calls it
abbrev pub IsQuiet : List PredTree → Callee → PredTree → Type 0
IsQuiet preds c pred = (find_pred c.function c.name c.arity preds ≡ Some pred) × (pred.quiet ≡ true)

-- no way leads round from a quiet predicate to itself past no goal `Tick`: they have ranks, below their number, which
-- fall on each such way from one to another
pub record TicksBetween (preds : List PredTree) : Type 0 where
  pub rank : Callee → ℕ
  pub below : (c : Callee) (pred : PredTree) → IsQuiet preds c pred → rank c < length preds
  pub falls : (c d : Callee) (pred other : PredTree) (clause : ClauseTree) →
      IsQuiet preds c pred → Contains pred.clauses clause → ReachesFrom d clause → IsQuiet preds d other → rank d < rank c
