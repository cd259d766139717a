-- Goals that are made of others, and their child goals in the tables.
use Rattle.std.proofs.Common.{◌≡◌, ℕ, ◌+◌, ◌^◌, ◌<◌, Bool, List, Some, None, take, drop, map, sym, ◌∙◌, ap, arith}
use Rattle.std.specs.Prelude.{slice_get}
use Rattle.std.proofs.lemmas.List.{drop-drop, drop-map}
use Rattle.pi_core.specs.GoalTree.{GoalTree, GoalTrees, no_goals, goal, count_goals, children, child_count, nodes, nodes_all}
use Rattle.pi_core.specs.GoalCells.{flat_all}
use Rattle.pi_core.specs.declared.goal_node.GoalCell.{GoalCell}
use Rattle.pi_core.proofs.GoalPlaces.{nodes-children, nodes_all-goal}
use Rattle.pi_engine_code.specs.declared.code.Step.{Step}
use Rattle.pi_engine_code.specs.Code.{Tables, step_cell}
use Rattle.pi_engine_stands.specs.Here.{Block, IsStepOf, LastOfAll, IsHere, AreHere, none_here, last_here, more_here}
use Rattle.pi_engine_code.proofs.CodeLemmas.{cells-front, cells-behind, cells-below}

abbrev pub cells_from : Tables → List Step → ℕ → List GoalCell
cells_from t steps at = map (step_cell t) (drop at steps)

-- the cells behind the first few
pub cells-further : (t : Tables) (steps : List Step) (at n : ℕ) → drop n (cells_from t steps at) ≡ cells_from t steps (at + n)
cells-further t steps at n =
    drop-map (step_cell t) n (drop at steps) ∙ ap (map (step_cell t)) (drop-drop n at steps)

-- goals whose cells stand one behind the other
pub goals-here : (t : Tables) (steps : List Step) (b : Block) (at : ℕ) (gs : GoalTrees) (own : Bool) →
    take (nodes_all gs) (map (step_cell t) (drop at steps)) ≡ flat_all gs → at + nodes_all gs < 2 ^ 32 →
    ((i : ℕ) (s : Step) → i < nodes_all gs → slice_get steps (at + i) ≡ Some s → IsStepOf t b s) → LastOfAll steps at gs own →
    AreHere t steps b at (count_goals gs) gs None own
unfolding count_goals LastOfAll
goals-here t steps b at no_goals own cells fits each says = none_here
goals-here t steps b at (goal g no_goals) own cells fits each says =
    last_here (record {
      stands = record { cells = cells-front g no_goals (map (step_cell t) (drop at steps)) cells; fits = omega (arith, fits, nodes_all-goal g no_goals) };
      of_block = λ i s within is. each i s (omega (arith, within, nodes_all-goal g no_goals)) is;
      says = says;
    })
goals-here t steps b at (goal g (goal h hs)) own cells fits each says =
    more_here (record {
      stands = record { cells = cells-front g (goal h hs) (map (step_cell t) (drop at steps)) cells; fits = omega (arith, fits, nodes_all-goal g (goal h hs)) };
      of_block = λ i s within is. each i s (omega (arith, within, nodes_all-goal g (goal h hs))) is;
      says = says.0;
    })
    (goals-here t steps b (at + nodes g) (goal h hs) own
    (ap (take (nodes_all (goal h hs))) (sym (cells-further t steps at (nodes g))) ∙ cells-behind g (goal h hs) (map (step_cell t) (drop at steps)) cells)
    (omega (arith, fits, nodes_all-goal g (goal h hs)))
    (λ i s within is. each (nodes g + i) s (omega (arith, within, nodes_all-goal g (goal h hs))) (ap (slice_get steps) (omega arith) ∙ is))
    says.1)

-- the child goals of a goal stand behind its step
pub children-here : (t : Tables) (steps : List Step) (b : Block) (place : ℕ) (g : GoalTree) (own last : Bool) → IsHere t steps b place g own →
    LastOfAll steps (place + 1) (children g) last → AreHere t steps b (place + 1) (child_count g) (children g) None last
children-here t steps b place g own last here says =
    goals-here t steps b (place + 1) (children g) last
    (ap (take (nodes_all (children g))) (sym (cells-further t steps place 1)) ∙ cells-below g (map (step_cell t) (drop place steps)) here.stands.cells)
    (omega (arith, here.stands.fits, nodes-children g))
    (λ i s within is. here.of_block (1 + i) s (omega (arith, within, nodes-children g)) (ap (slice_get steps) (omega arith) ∙ is))
    says
