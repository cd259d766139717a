-- A goal as one flat vector: the cells of its nodes in prefix order, each with the number of nodes of the goal that
-- begins with it. And the code by which a model holds a goal.
use Rattle.std.specs.Prelude.{◌≡◌, ℕ, ◌==◌, cond, List, [], ◌∷◌, ◌++◌, map, refl}
use Rattle.std.specs.Coded.{Coded, code_by, coded×, coded_list, coded_ℕ}
use Rattle.std.proofs.Common.{ap, sym, append_assoc, ◌∙◌}
use Rattle.std.proofs.lemmas.List.{append-nil, map-append}
use Rattle.pi_terms.specs.Tree.{Tree, atom}
use Rattle.pi_terms.specs.TermCells.{tree_code}
use Rattle.pi_core.specs.GoalTree.{GoalTree, truth, fail, tick, call, apply, seq, alternatives, if_else, not, once, collect, count, catch, GoalTrees, no_goals, goal, goal_at, count_goals, take_goals, drop_goals, children, subgoals, subgoals_all, nodes}
use Rattle.pi_core.specs.declared.goal_node.GoalCell.{GoalCell}
use Rattle.pi_core.specs.declared.goal_node.GoalKind.{GoalKind}
use Rattle.pi_core.specs.declared.goal_node.GoalNode.{GoalNode}
use Rattle.pi_core.specs.declared.goal_node.GoalKind.TheVariants.{True, Fail, Tick, Call, Apply, Seq, Alt, If, Not, Once, Collect, Count, Catch}

-- the kind of a goal, with its texts, terms and slots
unfoldable pub kind_of : GoalTree → GoalKind
kind_of truth = True
kind_of fail = Fail
kind_of tick = Tick
kind_of (call name args) = Call name args
kind_of (apply name args slot) = Apply name args slot
kind_of (seq gs) = Seq (count_goals gs)
kind_of (alternatives gs) = Alt (count_goals gs)
kind_of (if_else test then other) = If
kind_of (not g) = Not
kind_of (once g) = Once
kind_of (collect g value into) = Collect value into
kind_of (count g into) = Count into
kind_of (catch g ball handler) = Catch ball

-- the kind that a node shows
abbrev pub kind_shown : GoalNode → GoalKind
kind_shown GoalNode.True = True
kind_shown GoalNode.Fail = Fail
kind_shown GoalNode.Tick = Tick
kind_shown (GoalNode.Call name args) = Call name.now args.now
kind_shown (GoalNode.Apply name args slot) = Apply name.now args.now slot
kind_shown (GoalNode.Seq k) = Seq k
kind_shown (GoalNode.Alt k) = Alt k
kind_shown GoalNode.If = If
kind_shown GoalNode.Not = Not
kind_shown GoalNode.Once = Once
kind_shown (GoalNode.Collect value into) = Collect value into
kind_shown (GoalNode.Count into) = Count into
kind_shown (GoalNode.Catch ball) = Catch ball.now

-- how many child goals a goal of a kind has
abbrev pub arity : GoalKind → ℕ
arity True = 0
arity Fail = 0
arity Tick = 0
arity (Call name args) = 0
arity (Apply name args slot) = 0
arity (Seq k) = k
arity (Alt k) = k
arity If = 3
arity Not = 1
arity Once = 1
arity (Collect value into) = 1
arity (Count into) = 1
arity (Catch ball) = 2

-- the goal of a kind over its child goals
abbrev pub over : GoalKind → GoalTrees → GoalTree
over True gs = truth
over Fail gs = fail
over Tick gs = tick
over (Call name args) gs = call name args
over (Apply name args slot) gs = apply name args slot
over (Seq k) gs = seq gs
over (Alt k) gs = alternatives gs
over If gs = if_else (goal_at gs 0) (goal_at gs 1) (goal_at gs 2)
over Not gs = not (goal_at gs 0)
over Once gs = once (goal_at gs 0)
over (Collect value into) gs = collect (goal_at gs 0) value into
over (Count into) gs = count (goal_at gs 0) into
over (Catch ball) gs = catch (goal_at gs 0) ball (goal_at gs 1)

-- the cell at the root of a goal
abbrev pub cell_of : GoalTree → GoalCell
cell_of g = record { kind = kind_of g; size = nodes g }

-- the cells of a goal: one for each goal in it
unfoldable pub flat : GoalTree → List GoalCell
flat g = map cell_of (subgoals g)

unfoldable pub flat_all : GoalTrees → List GoalCell
flat_all gs = map cell_of (subgoals_all gs)

-- the goals that cells in prefix order spell: a cell takes as many as its kind wants of those that the cells behind it
-- spell
unfoldable pub spelled : List GoalCell → GoalTrees
spelled [] = no_goals
spelled (c ∷ cs) = goal (over c.kind (take_goals (arity c.kind) (spelled cs))) (drop_goals (arity c.kind) (spelled cs))

-- the goal that the cells of one goal spell
unfoldable pub goal_of : List GoalCell → GoalTree
goal_of cs = goal_at (spelled cs) 0

-- ---- what is spelled by the cells of a goal is that goal

abbrev pub append_goals : GoalTrees → GoalTrees → GoalTrees
append_goals no_goals hs = hs
append_goals (goal g gs) hs = goal g (append_goals gs hs)

pub take_goals-append : (gs hs : GoalTrees) → take_goals (count_goals gs) (append_goals gs hs) ≡ gs
unfolding count_goals take_goals
take_goals-append no_goals hs = refl
take_goals-append (goal g gs) hs = ap (λ r. goal g r) (take_goals-append gs hs)

pub drop_goals-append : (gs hs : GoalTrees) → drop_goals (count_goals gs) (append_goals gs hs) ≡ hs
unfolding count_goals drop_goals
drop_goals-append no_goals hs = refl
drop_goals-append (goal g gs) hs = drop_goals-append gs hs

pub append_goals-none : (gs : GoalTrees) → append_goals gs no_goals ≡ gs
append_goals-none no_goals = refl
append_goals-none (goal g gs) = ap (λ r. goal g r) (append_goals-none gs)

pub over-kind_of : (g : GoalTree) → over (kind_of g) (children g) ≡ g
unfolding kind_of children goal_at
over-kind_of truth = refl
over-kind_of fail = refl
over-kind_of tick = refl
over-kind_of (call name args) = refl
over-kind_of (apply name args slot) = refl
over-kind_of (seq gs) = refl
over-kind_of (alternatives gs) = refl
over-kind_of (if_else test then other) = refl
over-kind_of (not g) = refl
over-kind_of (once g) = refl
over-kind_of (collect g value into) = refl
over-kind_of (count g into) = refl
over-kind_of (catch g ball handler) = refl

pub arity-kind_of : (g : GoalTree) → arity (kind_of g) ≡ count_goals (children g)
unfolding kind_of children count_goals
arity-kind_of truth = refl
arity-kind_of fail = refl
arity-kind_of tick = refl
arity-kind_of (call name args) = refl
arity-kind_of (apply name args slot) = refl
arity-kind_of (seq gs) = refl
arity-kind_of (alternatives gs) = refl
arity-kind_of (if_else test then other) = refl
arity-kind_of (not g) = refl
arity-kind_of (once g) = refl
arity-kind_of (collect g value into) = refl
arity-kind_of (count g into) = refl
arity-kind_of (catch g ball handler) = refl

-- a goal stands in front of the goals in its child goals
pub subgoals-children : (g : GoalTree) → subgoals g ≡ g ∷ subgoals_all (children g)
unfolding subgoals children
subgoals-children truth = refl
subgoals-children fail = refl
subgoals-children tick = refl
subgoals-children (call name args) = refl
subgoals-children (apply name args slot) = refl
subgoals-children (seq gs) = refl
subgoals-children (alternatives gs) = refl
subgoals-children (if_else test then other) =
    ap (λ r. if_else test then other ∷ (subgoals test ++ (subgoals then ++ r))) (sym (append-nil (subgoals other)))
subgoals-children (not g) = ap (λ r. not g ∷ r) (sym (append-nil (subgoals g)))
subgoals-children (once g) = ap (λ r. once g ∷ r) (sym (append-nil (subgoals g)))
subgoals-children (collect g value into) = ap (λ r. collect g value into ∷ r) (sym (append-nil (subgoals g)))
subgoals-children (count g into) = ap (λ r. count g into ∷ r) (sym (append-nil (subgoals g)))
subgoals-children (catch g ball handler) = ap (λ r. catch g ball handler ∷ (subgoals g ++ r)) (sym (append-nil (subgoals handler)))

-- the step from the child goals to the goal over them
spelled-root : (g : GoalTree) (cs : List GoalCell) → spelled (flat_all (children g) ++ cs) ≡ append_goals (children g) (spelled cs) → spelled (flat g ++ cs) ≡ goal g (spelled cs)
unfolding flat flat_all spelled
spelled-root g cs h =
    ap (λ gs. spelled (map cell_of gs ++ cs)) (subgoals-children g)
    ∙ (ap (λ r. goal (over (kind_of g) (take_goals (arity (kind_of g)) r)) (drop_goals (arity (kind_of g)) r)) h
    ∙ (ap (λ k. goal (over (kind_of g) (take_goals k (append_goals (children g) (spelled cs)))) (drop_goals k (append_goals (children g) (spelled cs)))) (arity-kind_of g)
    ∙ (ap (λ r. goal (over (kind_of g) r) (drop_goals (count_goals (children g)) (append_goals (children g) (spelled cs)))) (take_goals-append (children g) (spelled cs))
    ∙ (ap (λ r. goal r (drop_goals (count_goals (children g)) (append_goals (children g) (spelled cs)))) (over-kind_of g)
    ∙ ap (λ r. goal g r) (drop_goals-append (children g) (spelled cs))))))

-- and from a goal and the goals behind it to all of them
spelled-front : (g : GoalTree) (gs : GoalTrees) (cs : List GoalCell) → ((ds : List GoalCell) → spelled (flat g ++ ds) ≡ goal g (spelled ds)) → spelled (flat_all gs ++ cs) ≡ append_goals gs (spelled cs) → spelled (flat_all (goal g gs) ++ cs) ≡ append_goals (goal g gs) (spelled cs)
unfolding flat flat_all subgoals
spelled-front g gs cs front behind =
    ap (λ r. spelled (r ++ cs)) (map-append cell_of (subgoals g) (subgoals_all gs))
    ∙ (ap spelled (append_assoc (map cell_of (subgoals g)) (map cell_of (subgoals_all gs)) cs)
    ∙ (front (map cell_of (subgoals_all gs) ++ cs) ∙ ap (λ r. goal g r) behind))

spelled-none : (cs : List GoalCell) → spelled (flat_all no_goals ++ cs) ≡ spelled cs
unfolding flat_all subgoals
spelled-none cs = refl

mutual
  unfolding children

  pub spelled-flat : (g : GoalTree) (cs : List GoalCell) → spelled (flat g ++ cs) ≡ goal g (spelled cs)
  spelled-flat truth cs = spelled-root truth cs (spelled-none cs)
  spelled-flat fail cs = spelled-root fail cs (spelled-none cs)
  spelled-flat tick cs = spelled-root tick cs (spelled-none cs)
  spelled-flat (call name args) cs = spelled-root (call name args) cs (spelled-none cs)
  spelled-flat (apply name args slot) cs = spelled-root (apply name args slot) cs (spelled-none cs)
  spelled-flat (seq gs) cs = spelled-root (seq gs) cs (spelled-flat_all gs cs)
  spelled-flat (alternatives gs) cs = spelled-root (alternatives gs) cs (spelled-flat_all gs cs)
  spelled-flat (if_else test then other) cs =
      spelled-root (if_else test then other) cs
      (spelled-front test (goal then (goal other no_goals)) cs (spelled-flat test)
      (spelled-front then (goal other no_goals) cs (spelled-flat then)
      (spelled-front other no_goals cs (spelled-flat other) (spelled-none cs))))
  spelled-flat (not g) cs = spelled-root (not g) cs (spelled-front g no_goals cs (spelled-flat g) (spelled-none cs))
  spelled-flat (once g) cs = spelled-root (once g) cs (spelled-front g no_goals cs (spelled-flat g) (spelled-none cs))
  spelled-flat (collect g value into) cs = spelled-root (collect g value into) cs (spelled-front g no_goals cs (spelled-flat g) (spelled-none cs))
  spelled-flat (count g into) cs = spelled-root (count g into) cs (spelled-front g no_goals cs (spelled-flat g) (spelled-none cs))
  spelled-flat (catch g ball handler) cs =
      spelled-root (catch g ball handler) cs
      (spelled-front g (goal handler no_goals) cs (spelled-flat g)
      (spelled-front handler no_goals cs (spelled-flat handler) (spelled-none cs)))

  pub spelled-flat_all : (gs : GoalTrees) (cs : List GoalCell) → spelled (flat_all gs ++ cs) ≡ append_goals gs (spelled cs)
  spelled-flat_all no_goals cs = spelled-none cs
  spelled-flat_all (goal g gs) cs = spelled-front g gs cs (spelled-flat g) (spelled-flat_all gs cs)

pub goal_of-flat : (g : GoalTree) → goal_of (flat g) ≡ g
unfolding goal_of goal_at
goal_of-flat g = ap (λ cs. goal_at (spelled cs) 0) (sym (append-nil (flat g))) ∙ ap (λ gs. goal_at gs 0) (spelled-flat g [])

-- ---- how the logic stores a cell, and a goal by its cells

-- a number for the kind, its text, its terms, two numbers, and the size
abbrev Stored : Type 0
Stored = ℕ × (List ℕ × (List Tree × (ℕ × (ℕ × ℕ))))

abbrev stored_kind : GoalKind → ℕ → Stored
stored_kind True n = (0, ([], ([], (0, (0, n)))))
stored_kind Fail n = (1, ([], ([], (0, (0, n)))))
stored_kind Tick n = (2, ([], ([], (0, (0, n)))))
stored_kind (Call name args) n = (3, (name, (args, (0, (0, n)))))
stored_kind (Apply name args slot) n = (4, (name, (args, (slot, (0, n)))))
stored_kind (Seq k) n = (5, ([], ([], (k, (0, n)))))
stored_kind (Alt k) n = (6, ([], ([], (k, (0, n)))))
stored_kind If n = (7, ([], ([], (0, (0, n)))))
stored_kind Not n = (8, ([], ([], (0, (0, n)))))
stored_kind Once n = (9, ([], ([], (0, (0, n)))))
stored_kind (Collect value into) n = (10, ([], ([], (value, (into, n)))))
stored_kind (Count into) n = (11, ([], ([], (into, (0, n)))))
stored_kind (Catch ball) n = (12, ([], (ball ∷ [], (0, (0, n)))))

abbrev first_term : List Tree → Tree
first_term [] = atom []
first_term (t ∷ ts) = t

abbrev kind_stored : Stored → GoalKind
kind_stored p =
    cond (p.0 == 0) True (cond (p.0 == 1) Fail (cond (p.0 == 2) Tick (cond (p.0 == 3) (Call p.1.0 p.1.1.0)
    (cond (p.0 == 4) (Apply p.1.0 p.1.1.0 p.1.1.1.0) (cond (p.0 == 5) (Seq p.1.1.1.0) (cond (p.0 == 6) (Alt p.1.1.1.0)
    (cond (p.0 == 7) If (cond (p.0 == 8) Not (cond (p.0 == 9) Once (cond (p.0 == 10) (Collect p.1.1.1.0 p.1.1.1.1.0)
    (cond (p.0 == 11) (Count p.1.1.1.0) (Catch (first_term p.1.1.0)))))))))))))

abbrev cell_to_tuple : GoalCell → Stored
cell_to_tuple c = stored_kind c.kind c.size

abbrev cell_from_tuple : Stored → GoalCell
cell_from_tuple p = record { kind = kind_stored p; size = p.1.1.1.1.1 }

same_cell : (kind : GoalKind) (n : ℕ) → cell_from_tuple (stored_kind kind n) ≡ record { kind = kind; size = n }
same_cell True n = refl
same_cell Fail n = refl
same_cell Tick n = refl
same_cell (Call name args) n = refl
same_cell (Apply name args slot) n = refl
same_cell (Seq k) n = refl
same_cell (Alt k) n = refl
same_cell If n = refl
same_cell Not n = refl
same_cell Once n = refl
same_cell (Collect value into) n = refl
same_cell (Count into) n = refl
same_cell (Catch ball) n = refl

pub cell_from_tuple-cell_to_tuple : (c : GoalCell) → cell_from_tuple (cell_to_tuple c) ≡ c
cell_from_tuple-cell_to_tuple c = same_cell c.kind c.size

abbrev pub cell_code : Coded GoalCell
cell_code =
    code_by Stored (coded× coded_ℕ (coded× (coded_list coded_ℕ) (coded× (coded_list tree_code) (coded× coded_ℕ (coded× coded_ℕ coded_ℕ))))) cell_to_tuple cell_from_tuple cell_from_tuple-cell_to_tuple

abbrev pub goal_code : Coded GoalTree
goal_code = code_by (List GoalCell) (coded_list cell_code) flat goal_of goal_of-flat
