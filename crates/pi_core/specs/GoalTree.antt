-- Goals of the core language as trees. The core language is this project's own: it has slots in place of names, and no
-- assignments, loops or nested calls. A text is the list of its bytes in UTF-8, a slot is a number, and the terms of a
-- goal have the number of a slot where `Tree` has that of a variable.
use Rattle.std.specs.Prelude.{◌≡◌, ℕ, zero, suc, List, [], ◌∷◌, ◌++◌, length, slice_index_or}
use Rattle.pi_terms.specs.Tree.{Tree}
use Rattle.pi_core.specs.declared.goal_node.GoalNode.{GoalNode}

mutual
  pub data GoalTree : Type 0 where
    truth : GoalTree
    fail : GoalTree
    tick : GoalTree
    call : List ℕ → List Tree → GoalTree
    apply : List ℕ → List Tree → ℕ → GoalTree
    seq : GoalTrees → GoalTree
    alternatives : GoalTrees → GoalTree
    if_else : GoalTree → GoalTree → GoalTree → GoalTree
    not : GoalTree → GoalTree
    once : GoalTree → GoalTree
    collect : GoalTree → ℕ → ℕ → GoalTree
    count : GoalTree → ℕ → GoalTree
    catch : GoalTree → Tree → GoalTree → GoalTree

  -- goals from the left
  pub data GoalTrees : Type 0 where
    no_goals : GoalTrees
    goal : GoalTree → GoalTrees → GoalTrees

-- a list of goals from the left
abbrev pub goals_of : List GoalTree → GoalTrees
goals_of [] = no_goals
goals_of (g ∷ gs) = goal g (goals_of gs)

-- how many they are
unfoldable pub count_goals : GoalTrees → ℕ
count_goals no_goals = 0
count_goals (goal g gs) = suc (count_goals gs)

-- the one with this number, counted from 0; behind the last one `truth`
unfoldable pub goal_at : GoalTrees → ℕ → GoalTree
goal_at no_goals k = truth
goal_at (goal g gs) zero = g
goal_at (goal g gs) (suc k) = goal_at gs k

-- the first few
unfoldable pub take_goals : ℕ → GoalTrees → GoalTrees
take_goals zero gs = no_goals
take_goals (suc k) no_goals = no_goals
take_goals (suc k) (goal g gs) = goal g (take_goals k gs)

-- those behind the first few
unfoldable pub drop_goals : ℕ → GoalTrees → GoalTrees
drop_goals zero gs = gs
drop_goals (suc k) no_goals = no_goals
drop_goals (suc k) (goal g gs) = drop_goals k gs

-- the goals that a goal is made of
unfoldable pub children : GoalTree → GoalTrees
children truth = no_goals
children fail = no_goals
children tick = no_goals
children (call name args) = no_goals
children (apply name args slot) = no_goals
children (seq gs) = gs
children (alternatives gs) = gs
children (if_else test then other) = goal test (goal then (goal other no_goals))
children (not g) = goal g no_goals
children (once g) = goal g no_goals
children (collect g value into) = goal g no_goals
children (count g into) = goal g no_goals
children (catch g ball handler) = goal g (goal handler no_goals)

abbrev pub child_count : GoalTree → ℕ
child_count g = count_goals (children g)

-- the child goal with this number, counted from 0
abbrev pub child : GoalTree → ℕ → GoalTree
child g k = goal_at (children g) k

-- all goals in a goal in prefix order: itself, then those in its child goals from the left
unfoldable mutual
  pub subgoals : GoalTree → List GoalTree
  subgoals truth = truth ∷ []
  subgoals fail = fail ∷ []
  subgoals tick = tick ∷ []
  subgoals (call name args) = call name args ∷ []
  subgoals (apply name args slot) = apply name args slot ∷ []
  subgoals (seq gs) = seq gs ∷ subgoals_all gs
  subgoals (alternatives gs) = alternatives gs ∷ subgoals_all gs
  subgoals (if_else test then other) = if_else test then other ∷ (subgoals test ++ (subgoals then ++ subgoals other))
  subgoals (not g) = not g ∷ subgoals g
  subgoals (once g) = once g ∷ subgoals g
  subgoals (collect g value into) = collect g value into ∷ subgoals g
  subgoals (count g into) = count g into ∷ subgoals g
  subgoals (catch g ball handler) = catch g ball handler ∷ (subgoals g ++ subgoals handler)

  pub subgoals_all : GoalTrees → List GoalTree
  subgoals_all no_goals = []
  subgoals_all (goal g gs) = subgoals g ++ subgoals_all gs

-- how many nodes a goal has: one for each goal in it
abbrev pub nodes : GoalTree → ℕ
nodes g = length (subgoals g)

abbrev pub nodes_all : GoalTrees → ℕ
nodes_all gs = length (subgoals_all gs)

-- the goal at a node, which is a place in prefix order; behind the last node the whole goal
abbrev pub subgoal : GoalTree → ℕ → GoalTree
subgoal g i = slice_index_or (subgoals g) i g

-- what a node shows of the goal there
abbrev pub ShowsNode : GoalTree → GoalNode → Type 0
ShowsNode g GoalNode.True = g ≡ truth
ShowsNode g GoalNode.Fail = g ≡ fail
ShowsNode g GoalNode.Tick = g ≡ tick
ShowsNode g (GoalNode.Call name args) = g ≡ call name.now args.now
ShowsNode g (GoalNode.Apply name args slot) = g ≡ apply name.now args.now slot
ShowsNode g (GoalNode.Seq k) = (g ≡ seq (children g)) × (k ≡ child_count g)
ShowsNode g (GoalNode.Alt k) = (g ≡ alternatives (children g)) × (k ≡ child_count g)
ShowsNode g GoalNode.If = g ≡ if_else (child g 0) (child g 1) (child g 2)
ShowsNode g GoalNode.Not = g ≡ not (child g 0)
ShowsNode g GoalNode.Once = g ≡ once (child g 0)
ShowsNode g (GoalNode.Collect value into) = g ≡ collect (child g 0) value into
ShowsNode g (GoalNode.Count into) = g ≡ count (child g 0) into
ShowsNode g (GoalNode.Catch ball) = g ≡ catch (child g 0) ball.now (child g 1)

-- how many child goals stand below a node
abbrev pub child_goals : GoalNode → ℕ
child_goals GoalNode.True = 0
child_goals GoalNode.Fail = 0
child_goals GoalNode.Tick = 0
child_goals (GoalNode.Call name args) = 0
child_goals (GoalNode.Apply name args slot) = 0
child_goals (GoalNode.Seq k) = k
child_goals (GoalNode.Alt k) = k
child_goals GoalNode.If = 3
child_goals GoalNode.Not = 1
child_goals GoalNode.Once = 1
child_goals (GoalNode.Collect value into) = 1
child_goals (GoalNode.Count into) = 1
child_goals (GoalNode.Catch ball) = 2
