-- Goals at places: what stands there, and where their child goals stand.
use Rattle.std.proofs.Common.{◌≡◌, ℕ, zero, suc, ◌+◌, ◌-◌, ◌^◌, min, ◌≤◌, ◌<◌, List, ◌∷◌, ◌++◌, Some, length, take, drop, map, get_or, refl, sym, ◌∙◌, ap, arith}
use Rattle.std.specs.Prelude.{slice_get}
use Rattle.std.proofs.lemmas.List.{length-map, length-take, length-drop, drop_more, drop-drop, drop-map, drop-take}
use Rattle.std.proofs.lemmas.Option.{slice_get_within, get_or_from_slice_get}
use Rattle.std.proofs.Math.Seq.{take-append_seam, drop-append_seam}
use Rattle.pi_core.specs.GoalTree.{GoalTree, GoalTrees, no_goals, goal, goal_at, count_goals, take_goals, children, child, child_count, nodes, nodes_all}
use Rattle.pi_core.specs.GoalCells.{flat, flat_all, cell_of, subgoals-children}
use Rattle.pi_core.proofs.GoalCells.{flat_all-goal}
use Rattle.pi_core.proofs.GoalPlaces.{nodes-children, nodes_all-goal, nodes_all-none, nodes_all-take_none, nodes_all-take_more, length-cells}
use Rattle.pi_core.specs.declared.goal_node.GoalCell.{GoalCell}
use Rattle.pi_terms.proofs.ListLemmas.{take-take}
use Rattle.pi_engine_code.specs.declared.code.Step.{Step}
use Rattle.pi_engine_code.specs.Code.{Tables, step_cell, StandsAt, child_place}

abbrev Cells : Type 0
Cells = List GoalCell

-- ---- cells alone

pub flat-root : (g : GoalTree) → flat g ≡ cell_of g ∷ flat_all (children g)
unfolding flat flat_all
flat-root g = ap (map cell_of) (subgoals-children g)

-- the first of a goal's cells
pub cell-first : (g : GoalTree) (c : GoalCell) (cs : Cells) → take (nodes g) (c ∷ cs) ≡ flat g → c ≡ cell_of g
cell-first g c cs h =
    ap (λ r. get_or r 0 c) (sym (ap (λ n. take n (c ∷ cs)) (nodes-children g)) ∙ h ∙ flat-root g)

-- those of the first goal of several, and those of the others
pub cells-front : (g : GoalTree) (gs : GoalTrees) (cs : Cells) → take (nodes_all (goal g gs)) cs ≡ flat_all (goal g gs) → take (nodes g) cs ≡ flat g
cells-front g gs cs h =
    sym (take-take (nodes g) (nodes g + nodes_all gs) cs (omega arith))
    ∙ ap (λ n. take (nodes g) (take n cs)) (sym (nodes_all-goal g gs))
    ∙ ap (take (nodes g)) (h ∙ flat_all-goal g gs)
    ∙ ap (λ n. take n (flat g ++ flat_all gs)) (sym (length-cells g (flat g) refl))
    ∙ take-append_seam (flat g) (flat_all gs)

pub cells-behind : (g : GoalTree) (gs : GoalTrees) (cs : Cells) → take (nodes_all (goal g gs)) cs ≡ flat_all (goal g gs) → take (nodes_all gs) (drop (nodes g) cs) ≡ flat_all gs
cells-behind g gs cs h =
    sym (drop-take (nodes g) (nodes_all gs) cs)
    ∙ ap (λ n. drop (nodes g) (take n cs)) (sym (nodes_all-goal g gs))
    ∙ ap (drop (nodes g)) (h ∙ flat_all-goal g gs)
    ∙ ap (λ n. drop n (flat g ++ flat_all gs)) (sym (length-cells g (flat g) refl))
    ∙ drop-append_seam (flat g) (flat_all gs)

-- those of each of several goals
pub cells-at : (gs : GoalTrees) (k : ℕ) (cs : Cells) → k < count_goals gs → take (nodes_all gs) cs ≡ flat_all gs → take (nodes (goal_at gs k)) (drop (nodes_all (take_goals k gs)) cs) ≡ flat (goal_at gs k)
unfolding count_goals goal_at take_goals
cells-at no_goals k cs within h = absurd (omega arith)
cells-at (goal g gs) zero cs within h = ap (λ n. take (nodes g) (drop n cs)) nodes_all-none ∙ cells-front g gs cs h
cells-at (goal g gs) (suc k) cs within h =
    ap (λ n. take (nodes (goal_at gs k)) (drop n cs)) (nodes_all-goal g (take_goals k gs))
    ∙ ap (take (nodes (goal_at gs k))) (sym (drop-drop (nodes_all (take_goals k gs)) (nodes g) cs))
    ∙ cells-at gs k (drop (nodes g) cs) (omega arith) (cells-behind g gs cs h)

-- those behind the first one
pub cells-below : (g : GoalTree) (cs : Cells) → take (nodes g) cs ≡ flat g → take (nodes_all (children g)) (drop 1 cs) ≡ flat_all (children g)
cells-below g cs h =
    sym (drop-take 1 (nodes_all (children g)) cs)
    ∙ ap (λ n. drop 1 (take n cs)) (omega (arith, nodes-children g))
    ∙ ap (drop 1) (h ∙ flat-root g)

-- a goal among several has no more nodes than there are
pub nodes-fit : (gs : GoalTrees) (k : ℕ) → k < count_goals gs → nodes_all (take_goals k gs) + nodes (goal_at gs k) ≤ nodes_all gs
unfolding count_goals goal_at take_goals
nodes-fit no_goals k within = absurd (omega arith)
nodes-fit (goal g gs) zero within = omega (arith, nodes_all-none, nodes_all-goal g gs)
nodes-fit (goal g gs) (suc k) within =
    let rest : nodes_all (take_goals k gs) + nodes (goal_at gs k) ≤ nodes_all gs = nodes-fit gs k (omega arith) in
    omega (arith, nodes_all-goal g gs, nodes_all-goal g (take_goals k gs))

-- ---- places

pub stands-within : (t : Tables) (steps : List Step) (place : ℕ) (g : GoalTree) → StandsAt t steps place g → place < length steps
stands-within t steps place g at =
    let cs : Cells = map (step_cell t) (drop place steps) in
    let as_many : length (take (nodes g) cs) ≡ nodes g = length-cells g (take (nodes g) cs) at.cells in
    let taken : length (take (nodes g) cs) ≡ min (nodes g) (length cs) = length-take (nodes g) cs in
    let left : length cs ≡ length steps - place = length-map (drop place steps) (step_cell t) ∙ length-drop place steps in
    omega (arith, nodes-children g)

pub stands-first : (t : Tables) (steps : List Step) (place : ℕ) (g : GoalTree) (s : Step) → StandsAt t steps place g → slice_get steps place ≡ Some s → step_cell t s ≡ cell_of g
stands-first t steps place g s at is =
    let here : drop place steps ≡ s ∷ drop (place + 1) steps =
    drop_more steps place s (slice_get_within steps place s is) ∙ ap (λ q. q ∷ drop (place + 1) steps) (get_or_from_slice_get steps place s s is) in
    cell-first g (step_cell t s) (map (step_cell t) (drop (place + 1) steps)) (ap (λ r. take (nodes g) (map (step_cell t) r)) (sym here) ∙ at.cells)

pub stands-child : (t : Tables) (steps : List Step) (place : ℕ) (g : GoalTree) (k : ℕ) → StandsAt t steps place g → k < child_count g → StandsAt t steps (child_place g place k) (child g k)
stands-child t steps place g k at within =
    let f : Step → GoalCell = step_cell t in
    let x : ℕ = nodes_all (take_goals k (children g)) in
    let there : drop (place + 1 + x) steps ≡ drop x (drop 1 (drop place steps)) =
    sym (drop-drop x (place + 1) steps) ∙ ap (drop x) (sym (drop-drop 1 place steps)) in
    let mapped : map f (drop x (drop 1 (drop place steps))) ≡ drop x (drop 1 (map f (drop place steps))) =
    sym (drop-map f x (drop 1 (drop place steps))) ∙ ap (drop x) (sym (drop-map f 1 (drop place steps))) in
    let fit : x + nodes (child g k) ≤ nodes_all (children g) = nodes-fit (children g) k within in
    let before : place + nodes g < 2 ^ 32 = at.fits in
    record {
      cells = ap (λ r. take (nodes (child g k)) (map f r)) there ∙ ap (take (nodes (child g k))) mapped
          ∙ cells-at (children g) k (drop 1 (map f (drop place steps))) within (cells-below g (map f (drop place steps)) at.cells);
      fits = omega (arith, nodes-children g);
    }

-- the place of one more child goal is behind the one before
pub child_place-first : (g : GoalTree) (place : ℕ) → child_place g place 0 ≡ place + 1
child_place-first g place = omega (arith, nodes_all-take_none (children g))

pub child_place-more : (g : GoalTree) (place k : ℕ) → k < child_count g → child_place g place (k + 1) ≡ child_place g place k + nodes (child g k)
child_place-more g place k within = omega (arith, nodes_all-take_more (children g) k within)

-- the size of a step that is a goal's first cell
pub size-shown : (t : Tables) (s : Step) (g : GoalTree) → step_cell t s ≡ cell_of g → s.size ≡ nodes g
unfolding step_cell
size-shown t s g h = ap (λ c. c.size) h
