-- Iterators and tests of a loop that are open: what they make of what stands behind them, and the helpers of their own.
use Rattle.std.specs.Prelude.{◌≡◌, List, [], ◌∷◌, ◌++◌, replicate}
use Rattle.pi_core.specs.GoalTree.{GoalTree}
use Rattle.pi_core.specs.CoreTree.{PredTree, pattern_tree}
use Rattle.pi_syntax.specs.ExpTree.{ExpTree, ExpTrees, exp}
use Rattle.pi_rewrite_spec.specs.Slots.{SlotNames, unnamed}
use Rattle.pi_rewrite_spec.specs.Values.{SlotPattern}
use Rattle.pi_rewrite_spec.specs.Goals.{SlotGoals, in_turn}
use Rattle.pi_rewrite_spec.specs.Sites.{Site}
use Rattle.pi_rewrite_spec.specs.Loops.{Ending, as_it_is}
use Rattle.pi_rewrite_spec.specs.Written.{Inner, units}
use Rattle.pi_rewrite_spec.specs.Helpers.{units_helpers}
use Rattle.pi_rewrite_loops.specs.Helpers.{loop_of, own_by}
use Rattle.pi_rewrite_loops.specs.declared.elements.Element.{Element}
use Rattle.pi_rewrite_goals.specs.declared.opened.Open.{Open}
use Rattle.pi_rewrite_goals.specs.declared.opened.Open.TheVariants.{Test, Iterator}

-- the pattern of elements, by how many slots it has
abbrev pub element_pattern : Element → SlotPattern
element_pattern e = record { form = pattern_tree e.form; names = replicate e.width unnamed }

-- goals behind those before
abbrev pub onto : List GoalTree → SlotGoals → SlotGoals
onto before g = record { goals = before ++ g.goals; names = g.names }

-- what one of them makes of the goals behind it, and its own helpers
abbrev pub around : Open → SlotGoals → SlotGoals
around (Test test before) g = onto before.items (record { goals = GoalTree.if_else test (in_turn g.goals) GoalTree.truth ∷ []; names = g.names })
around (Iterator i) g = record { goals = i.goals.items; names = i.slots }

abbrev pub own_of : Open → SlotGoals → List PredTree
own_of (Test test before) g = []
own_of (Iterator i) g = own_by i.is_range i.turn (loop_of i.whole) (element_pattern i.element) g

-- all of them, from the outside
unfoldable pub all_around : List Open → SlotGoals → SlotGoals
all_around [] g = g
all_around (o ∷ os) g = around o (all_around os g)

unfoldable pub all_own : List Open → SlotGoals → List PredTree
all_own [] g = []
all_own (o ∷ os) g = all_own os g ++ own_of o (all_around os g)

-- Units that are open but for the rest, behind goals and in a clause with these slots: whatever stands in the loop, the rest with it stands at `t`, in the last clause, behind the goals there. `old` are the helpers before, and `new` those so far.
pub record OpenTo (s : Site) (ending : Ending) (i : Inner) (us : ExpTrees) (before : List GoalTree) (ns : SlotNames) (os : List Open) (t : Site) (now : Ending) (rest : ExpTrees) (goals : List GoalTree) (ms : SlotNames) (old new : List PredTree) : Type 0 where
  pub goals_are : (body : Site → SlotNames → SlotGoals) → onto before (units s ending i us body ns) ≡ all_around os (onto goals (units t now i rest body ms))
  pub helpers_are : (body : Site → SlotNames → SlotGoals) (inner : Site → List PredTree) →
      old ++ units_helpers s ending i us body inner ≡ new ++ (units_helpers t now i rest body inner ++ all_own os (onto goals (units t now i rest body ms)))

-- all units are open
pub record AreOpen (s : Site) (ending : Ending) (i : Inner) (us : ExpTrees) (before : List GoalTree) (ns : SlotNames) (os : List Open) (t : Site) (goals : List GoalTree) (ms : SlotNames) (old new : List PredTree) : Type 0 where
  pub goals_are : (body : Site → SlotNames → SlotGoals) → onto before (units s ending i us body ns) ≡ all_around os (onto goals (body t ms))
  pub helpers_are : (body : Site → SlotNames → SlotGoals) (inner : Site → List PredTree) → old ++ units_helpers s ending i us body inner ≡ new ++ (inner t ++ all_own os (onto goals (body t ms)))

-- one more
pub record StepTo (i : Inner) (t : Site) (now : Ending) (u : ExpTree) (us : ExpTrees) (goals : List GoalTree) (ms : SlotNames) (o : Open) (t' : Site) (more : List GoalTree) (m : SlotNames) (old new : List PredTree) : Type 0 where
  pub goals_are : (body : Site → SlotNames → SlotGoals) → onto goals (units t now i (exp u us) body ms) ≡ around o (onto more (units t' as_it_is i us body m))
  pub helpers_are : (body : Site → SlotNames → SlotGoals) (inner : Site → List PredTree) →
      old ++ units_helpers t now i (exp u us) body inner ≡ new ++ (units_helpers t' as_it_is i us body inner ++ own_of o (onto more (units t' as_it_is i us body m)))
