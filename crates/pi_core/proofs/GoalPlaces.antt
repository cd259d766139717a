-- The places of the goals in a goal: its subgoals in prefix order, each followed by those in it.
use Rattle.std.proofs.Common.{◌≡◌, ◌<◌, ◌≤◌, ◌+◌, ◌-◌, ℕ, zero, suc, List, [], ◌∷◌, ◌++◌, length, get_or, drop, refl, ap, sym, subst, ◌∙◌, append_assoc, add-one, arith, length-append, length-drop}
use Rattle.std.proofs.Math.Seq.{get_or-append_right}
use Rattle.std.proofs.lemmas.List.{append-nil, get_or-drop, get_or-map, length-map}
use Rattle.pi_core.specs.GoalTree.{GoalTree, truth, fail, tick, call, apply, seq, alternatives, if_else, not, once, collect, count, catch, GoalTrees, no_goals, goal, count_goals, goal_at, take_goals, children, child, child_count, subgoals, subgoals_all, subgoal, nodes, nodes_all, ShowsNode, child_goals}
use Rattle.pi_core.specs.GoalCells.{kind_of, kind_shown, arity, over, cell_of, flat, over-kind_of, arity-kind_of, subgoals-children}
use Rattle.pi_core.specs.declared.goal_node.GoalCell.{GoalCell}
use Rattle.pi_core.specs.declared.goal_node.GoalKind.{GoalKind}
use Rattle.pi_core.specs.declared.goal_node.GoalNode.{GoalNode}

-- each goal of the list stands in front of the goals in it
abbrev EachPlace : List GoalTree → Type 0
EachPlace [] = Unit {0}
EachPlace (g ∷ gs) = ((rest : List GoalTree) × (g ∷ gs ≡ subgoals g ++ rest)) × EachPlace gs

each-none : (gs : List GoalTree) → EachPlace gs → EachPlace (subgoals_all no_goals ++ gs)
unfolding subgoals
each-none gs h = h

each-root : (g : GoalTree) (gs : List GoalTree) → EachPlace (subgoals_all (children g) ++ gs) → EachPlace (subgoals g ++ gs)
each-root g gs h =
    let e : subgoals g ++ gs ≡ g ∷ (subgoals_all (children g) ++ gs) = ap (λ r. r ++ gs) (subgoals-children g)
    in subst EachPlace (sym e) ((gs, sym e), h)

each-front : (g : GoalTree) (gs : GoalTrees) (hs : List GoalTree) → ((is : List GoalTree) → EachPlace is → EachPlace (subgoals g ++ is)) → EachPlace (subgoals_all gs ++ hs) → EachPlace (subgoals_all (goal g gs) ++ hs)
unfolding subgoals
each-front g gs hs front behind = subst EachPlace (sym (append_assoc (subgoals g) (subgoals_all gs) hs)) (front (subgoals_all gs ++ hs) behind)

mutual
  unfolding children

  each : (g : GoalTree) (gs : List GoalTree) → EachPlace gs → EachPlace (subgoals g ++ gs)
  each truth gs h = each-root truth gs (each-none gs h)
  each fail gs h = each-root fail gs (each-none gs h)
  each tick gs h = each-root tick gs (each-none gs h)
  each (call name args) gs h = each-root (call name args) gs (each-none gs h)
  each (apply name args slot) gs h = each-root (apply name args slot) gs (each-none gs h)
  each (seq cs) gs h = each-root (seq cs) gs (each_all cs gs h)
  each (alternatives cs) gs h = each-root (alternatives cs) gs (each_all cs gs h)
  each (if_else test then other) gs h =
      each-root (if_else test then other) gs
      (each-front test (goal then (goal other no_goals)) gs (each test)
      (each-front then (goal other no_goals) gs (each then)
      (each-front other no_goals gs (each other) (each-none gs h))))
  each (not g) gs h = each-root (not g) gs (each-front g no_goals gs (each g) (each-none gs h))
  each (once g) gs h = each-root (once g) gs (each-front g no_goals gs (each g) (each-none gs h))
  each (collect g value into) gs h = each-root (collect g value into) gs (each-front g no_goals gs (each g) (each-none gs h))
  each (count g into) gs h = each-root (count g into) gs (each-front g no_goals gs (each g) (each-none gs h))
  each (catch g ball handler) gs h =
      each-root (catch g ball handler) gs
      (each-front g (goal handler no_goals) gs (each g)
      (each-front handler no_goals gs (each handler) (each-none gs h)))

  each_all : (cs : GoalTrees) (gs : List GoalTree) → EachPlace gs → EachPlace (subgoals_all cs ++ gs)
  each_all no_goals gs h = each-none gs h
  each_all (goal c cs) gs h = each-front c cs gs (each c) (each_all cs gs h)

each-at : (gs : List GoalTree) (i : ℕ) (d : GoalTree) → EachPlace gs → i < length gs → (rest : List GoalTree) × (drop i gs ≡ subgoals (get_or gs i d) ++ rest)
each-at [] i d h lt = absurd (omega arith)
each-at (g ∷ gs) zero d h lt = h.0
each-at (g ∷ gs) (suc i) d h lt = each-at gs i d h.1 (omega arith)

drop-behind : (gs : List GoalTree) (i : ℕ) (h : GoalTree) (hs : List GoalTree) → drop i gs ≡ h ∷ hs → drop (suc i) gs ≡ hs
drop-behind [] zero h hs e = cc
drop-behind [] (suc i) h hs e = cc
drop-behind (g ∷ gs) zero h hs e = cc
drop-behind (g ∷ gs) (suc i) h hs e = drop-behind gs i h hs e

-- behind a node stand the goals in its child goals
pub behind-node : (g : GoalTree) (i : ℕ) → i < nodes g → (rest : List GoalTree) × (drop (suc i) (subgoals g) ≡ subgoals_all (children (subgoal g i)) ++ rest)
behind-node g i lt =
    let places : EachPlace (subgoals g) = subst EachPlace (append-nil (subgoals g)) (each g [] tt) in
    let here : (rest : List GoalTree) × (drop i (subgoals g) ≡ subgoals (subgoal g i) ++ rest) = each-at (subgoals g) i g places lt
    in (
      here.0,
      drop-behind (subgoals g) i (subgoal g i) (subgoals_all (children (subgoal g i)) ++ here.0)
          (here.1 ∙ ap (λ r. r ++ here.0) (subgoals-children (subgoal g i))),
    )

-- ---- the places of child goals

pub nodes-children : (g : GoalTree) → nodes g ≡ suc (nodes_all (children g))
nodes-children g = ap length (subgoals-children g)

pub nodes_all-goal : (g : GoalTree) (gs : GoalTrees) → nodes_all (goal g gs) ≡ nodes g + nodes_all gs
unfolding subgoals
nodes_all-goal g gs = length-append (subgoals g) (subgoals_all gs)

pub nodes_all-none : nodes_all no_goals ≡ 0
unfolding subgoals
nodes_all-none = refl

-- the nodes of one more child goal
nodes_all-take-suc : (gs : GoalTrees) (k : ℕ) → k < count_goals gs → nodes_all (take_goals (suc k) gs) ≡ nodes_all (take_goals k gs) + nodes (goal_at gs k)
unfolding count_goals take_goals goal_at
nodes_all-take-suc no_goals k h = absurd (omega arith)
nodes_all-take-suc (goal g gs) zero h = omega (arith, nodes_all-goal g no_goals, nodes_all-none)
nodes_all-take-suc (goal g gs) (suc k) h =
    omega (arith, nodes_all-goal g (take_goals (suc k) gs), nodes_all-goal g (take_goals k gs), nodes_all-take-suc gs k (omega arith))

pub nodes_all-take_more : (gs : GoalTrees) (k : ℕ) → k < count_goals gs → nodes_all (take_goals (k + 1) gs) ≡ nodes_all (take_goals k gs) + nodes (goal_at gs k)
nodes_all-take_more gs k h = ap (λ n. nodes_all (take_goals n gs)) (add-one k) ∙ nodes_all-take-suc gs k h

pub nodes_all-take_none : (gs : GoalTrees) → nodes_all (take_goals 0 gs) ≡ 0
unfolding take_goals
nodes_all-take_none gs = nodes_all-none

take-fits : (gs : GoalTrees) (k : ℕ) → k < count_goals gs → nodes_all (take_goals k gs) + nodes (goal_at gs k) ≤ nodes_all gs
unfolding count_goals take_goals goal_at
take-fits no_goals k h = absurd (omega arith)
take-fits (goal g gs) zero h = omega (arith, nodes_all-goal g gs, nodes_all-none)
take-fits (goal g gs) (suc k) h =
    omega (arith, nodes_all-goal g gs, nodes_all-goal g (take_goals k gs), take-fits gs k (omega arith))

get_or-behind : (gs hs : List GoalTree) (i : ℕ) (d : GoalTree) → get_or (gs ++ hs) (length gs + i) d ≡ get_or hs i d
get_or-behind gs hs i d =
    get_or-append_right gs hs (length gs + i) d (omega arith)
    ∙ ap (λ n. get_or hs n d) (let e : (length gs + i) - length gs ≡ i = omega arith in e)

subgoals_all-at : (gs : GoalTrees) (k : ℕ) (rest : List GoalTree) (d : GoalTree) → k < count_goals gs → get_or (subgoals_all gs ++ rest) (nodes_all (take_goals k gs)) d ≡ goal_at gs k
unfolding count_goals take_goals goal_at subgoals
subgoals_all-at no_goals k rest d h = absurd (omega arith)
subgoals_all-at (goal g gs) zero rest d h = ap (λ r. get_or ((r ++ subgoals_all gs) ++ rest) 0 d) (subgoals-children g)
subgoals_all-at (goal g gs) (suc k) rest d h =
    ap (λ r. get_or r (nodes_all (goal g (take_goals k gs))) d) (append_assoc (subgoals g) (subgoals_all gs) rest)
    ∙ (ap (λ n. get_or (subgoals g ++ (subgoals_all gs ++ rest)) n d) (nodes_all-goal g (take_goals k gs))
    ∙ (get_or-behind (subgoals g) (subgoals_all gs ++ rest) (nodes_all (take_goals k gs)) d
    ∙ subgoals_all-at gs k rest d (omega arith)))

-- where child goal `k` of the goal at node `i` stands
abbrev pub place_of : GoalTree → ℕ → ℕ → ℕ
place_of g i k = i + 1 + nodes_all (take_goals k (children (subgoal g i)))

-- it lies within the goal to its end
pub place_of-fits : (g : GoalTree) (i k : ℕ) → i < nodes g → k < child_count (subgoal g i) → place_of g i k + nodes (child (subgoal g i) k) ≤ nodes g
place_of-fits g i k lt has =
    let behind : (rest : List GoalTree) × (drop (suc i) (subgoals g) ≡ subgoals_all (children (subgoal g i)) ++ rest) = behind-node g i lt in
    let long : length (drop (suc i) (subgoals g)) ≡ length (subgoals_all (children (subgoal g i)) ++ behind.0) = ap length behind.1
    in omega (arith, long, length-drop (suc i) (subgoals g), length-append (subgoals_all (children (subgoal g i))) behind.0, take-fits (children (subgoal g i)) k has)

pub place_of-within : (g : GoalTree) (i k : ℕ) → i < nodes g → k < child_count (subgoal g i) → place_of g i k < nodes g
place_of-within g i k lt has = omega (arith, place_of-fits g i k lt has, nodes-children (child (subgoal g i) k))

pub subgoal-place_of : (g : GoalTree) (i k : ℕ) → i < nodes g → k < child_count (subgoal g i) → subgoal g (place_of g i k) ≡ child (subgoal g i) k
subgoal-place_of g i k lt has =
    let behind : (rest : List GoalTree) × (drop (suc i) (subgoals g) ≡ subgoals_all (children (subgoal g i)) ++ rest) = behind-node g i lt in
    let m : ℕ = nodes_all (take_goals k (children (subgoal g i)))
    in ap (λ n. get_or (subgoals g) n g) (let e : i + 1 + m ≡ suc i + m = omega arith in e)
    ∙ (sym (get_or-drop (suc i) (subgoals g) m g)
    ∙ (ap (λ r. get_or r m g) behind.1
    ∙ subgoals_all-at (children (subgoal g i)) k behind.0 g has))

-- ---- the cell at a node

pub length-cells : (g : GoalTree) (cells : List GoalCell) → cells ≡ flat g → length cells ≡ nodes g
unfolding flat
length-cells g cells e = ap length e ∙ length-map (subgoals g) cell_of

pub cell-at : (g : GoalTree) (cells : List GoalCell) (i : ℕ) (c : GoalCell) → cells ≡ flat g → i < nodes g → c ≡ get_or cells i c → c ≡ cell_of (subgoal g i)
unfolding flat
cell-at g cells i c e lt is = is ∙ (ap (λ r. get_or r i c) e ∙ get_or-map cell_of (subgoals g) i g c lt)

-- ---- a step over the cells of a child goal

pub place_of-first : (g : GoalTree) (i : ℕ) → i + 1 ≡ place_of g i 0
place_of-first g i = omega (arith, nodes_all-take_none (children (subgoal g i)))

pub place_of-more : (g : GoalTree) (i k : ℕ) → k < child_count (subgoal g i) → place_of g i (k + 1) ≡ place_of g i k + nodes (child (subgoal g i) k)
place_of-more g i k has = omega (arith, nodes_all-take_more (children (subgoal g i)) k has)

pub at-within : (g : GoalTree) (cells : List GoalCell) (i k at : ℕ) → cells ≡ flat g → i < nodes g → k < child_count (subgoal g i) → at ≡ place_of g i k → at < length cells
at-within g cells i k at e lt has is = omega (arith, length-cells g cells e, place_of-within g i k lt has)

pub size-at : (g : GoalTree) (cells : List GoalCell) (i k at : ℕ) (c : GoalCell) → cells ≡ flat g → i < nodes g → k < child_count (subgoal g i) → at ≡ place_of g i k → c ≡ get_or cells at c → (get_or cells at c).size ≡ nodes (child (subgoal g i) k)
size-at g cells i k at c e lt has place is =
    let within : at < nodes g = omega (arith, place_of-within g i k lt has)
    in ap (λ (r : GoalCell). r.size) (sym is ∙ cell-at g cells at c e within is)
    ∙ (ap (λ n. nodes (subgoal g n)) place ∙ ap nodes (subgoal-place_of g i k lt has))

pub step-fits : (g : GoalTree) (cells : List GoalCell) (i k at : ℕ) (c : GoalCell) → cells ≡ flat g → i < nodes g → k < child_count (subgoal g i) → at ≡ place_of g i k → c ≡ get_or cells at c → at + (get_or cells at c).size ≤ length cells
step-fits g cells i k at c e lt has place is =
    omega (arith, size-at g cells i k at c e lt has place is, length-cells g cells e, place_of-fits g i k lt has)

pub step-place : (g : GoalTree) (cells : List GoalCell) (i k at : ℕ) (c : GoalCell) → cells ≡ flat g → i < nodes g → k < child_count (subgoal g i) → at ≡ place_of g i k → c ≡ get_or cells at c → at + (get_or cells at c).size ≡ place_of g i (k + 1)
step-place g cells i k at c e lt has place is =
    omega (arith, size-at g cells i k at c e lt has place is, place_of-more g i k has)

-- and behind the last step
pub end-place : (g : GoalTree) (i k n at : ℕ) → n ≤ k → k ≤ n → at ≡ place_of g i n → at ≡ place_of g i k
end-place g i k n at le ge is = is ∙ ap (place_of g i) (let e : n ≡ k = omega arith in e)

-- ---- what a node shows

shown : (kind : GoalKind) (g : GoalTree) → kind_of g ≡ kind → g ≡ over kind (children g)
shown kind g e = sym (over-kind_of g) ∙ ap (λ r. over r (children g)) e

counted : (kind : GoalKind) (g : GoalTree) → kind_of g ≡ kind → child_count g ≡ arity kind
counted kind g e = sym (arity-kind_of g) ∙ ap arity e

pub ShowsNode-kind : (node : GoalNode) (g : GoalTree) → kind_of g ≡ kind_shown node → ShowsNode g node
ShowsNode-kind GoalNode.True g e = shown _ g e
ShowsNode-kind GoalNode.Fail g e = shown _ g e
ShowsNode-kind GoalNode.Tick g e = shown _ g e
ShowsNode-kind (GoalNode.Call name args) g e = shown _ g e
ShowsNode-kind (GoalNode.Apply name args slot) g e = shown _ g e
ShowsNode-kind (GoalNode.Seq k) g e = (shown _ g e, sym (counted _ g e))
ShowsNode-kind (GoalNode.Alt k) g e = (shown _ g e, sym (counted _ g e))
ShowsNode-kind GoalNode.If g e = shown _ g e
ShowsNode-kind GoalNode.Not g e = shown _ g e
ShowsNode-kind GoalNode.Once g e = shown _ g e
ShowsNode-kind (GoalNode.Collect value into) g e = shown _ g e
ShowsNode-kind (GoalNode.Count into) g e = shown _ g e
ShowsNode-kind (GoalNode.Catch ball) g e = shown _ g e

pub child_count-kind : (node : GoalNode) (g : GoalTree) → kind_of g ≡ kind_shown node → child_count g ≡ child_goals node
child_count-kind GoalNode.True g e = counted _ g e
child_count-kind GoalNode.Fail g e = counted _ g e
child_count-kind GoalNode.Tick g e = counted _ g e
child_count-kind (GoalNode.Call name args) g e = counted _ g e
child_count-kind (GoalNode.Apply name args slot) g e = counted _ g e
child_count-kind (GoalNode.Seq k) g e = counted _ g e
child_count-kind (GoalNode.Alt k) g e = counted _ g e
child_count-kind GoalNode.If g e = counted _ g e
child_count-kind GoalNode.Not g e = counted _ g e
child_count-kind GoalNode.Once g e = counted _ g e
child_count-kind (GoalNode.Collect value into) g e = counted _ g e
child_count-kind (GoalNode.Count into) g e = counted _ g e
child_count-kind (GoalNode.Catch ball) g e = counted _ g e
