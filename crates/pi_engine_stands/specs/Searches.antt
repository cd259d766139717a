-- What a call of `solve` does whose arguments are evaluated: it labels, or begins a search.
use Rattle.std.specs.Prelude.{◌≡◌, ℕ, true, List, Option, Some, None, slice_get}
use Rattle.pi_terms.specs.Tree.{Tree, Trees, no_trees, tree, trees_of}
use Rattle.pi_terms.specs.Places.{Places}
use Rattle.pi_constraints.specs.declared.constraint.Item.{Item}
use Rattle.pi_constraints.specs.declared.store.Ref.{Ref}
use Rattle.pi_constraints.specs.Store.{AreTerms}
use Rattle.pi_core.specs.GoalTree.{GoalTrees, goal, call}
use Rattle.pi_settling.specs.Options.{Options as Wanted, Objective as Sought}
use Rattle.pi_label.specs.declared.options.Options.{Options}
use Rattle.pi_label.specs.declared.options.Objective.{Objective}
use Rattle.pi_label.specs.Reads.{AreOptions}
use Rattle.pi_lib_constraints.specs.Kept.{AreRefsOf}
use Rattle.pi_meaning.specs.Machine.Configuration.{Frame, Entry}
use Rattle.pi_meaning.specs.Machine.Filled.{are_filled}
use Rattle.pi_meaning.specs.Machine.Step.{labels_step, search_step, search_of, name_call, with_rest, round_goal}
use Rattle.pi_engine_code.specs.declared.code.Step.{Step}
use Rattle.pi_engine_code.specs.Code.{Tables}
use Rattle.pi_engine_arenas.specs.declared.frames.Point.{Point}
use Rattle.pi_effects.specs.Effect.{Effect, Succeeds, Raises}
use Rattle.pi_settling.specs.Reading.{Operand, reads, refuses}
use Rattle.pi_engine_stands.specs.Here.{IsHere}
use Rattle.pi_engine_stands.specs.Changes.{Change}
use Rattle.pi_engine_stands.specs.Stands.{steps_of, round_block, Stands, StandsGoing}

-- The call at a point, whose slots hold each of its variables and which has two arguments, by these Refs, begins a search with these options.
abbrev pub Searches : {M : Type 0} → Point → Step → Options → Objective → List Ref → Change M → Type 0
Searches p s chosen objective refs made =
    (o : Wanted) (b : Sought) (name : List ℕ) (args : List Tree) (words vars : Tree) (gs : GoalTrees) (e : Places) (k : List Frame) (es : List Entry) →
    slice_get (steps_of made.before.loaded) p.place ≡ Some s → chosen.objective ≡ Some objective → AreOptions made.before.store chosen o → o.objective ≡ Some b →
    AreTerms made.before.store refs (tree words (tree vars no_trees)) → are_filled e (trees_of args) ≡ true → StandsGoing made.before p (goal (call name args) gs) e k es →
    Stands made.after made.now
    (search_step (search_of o b (tree words (tree vars no_trees)))
    (name_call name args (record { trees = tree words (tree vars no_trees); slots = e; state = made.before.store.now.state })) (with_rest gs k es))

-- The same of a call that asks for these options and items, whatever it does: an objective is there only where there are two arguments.
abbrev pub LabelsOrSearches : {M : Type 0} → Point → Step → Options → List Ref → List Ref → Change M → Type 0
LabelsOrSearches p s chosen items refs made =
    (o : Wanted) (xs : List Item) (name : List ℕ) (args : List Tree) (ts : Trees) (gs : GoalTrees) (e : Places) (k : List Frame) (es : List Entry) →
    slice_get (steps_of made.before.loaded) p.place ≡ Some s → AreOptions made.before.store chosen o → AreRefsOf made.before.store items xs →
    AreTerms made.before.store refs ts → ((b : Sought) → o.objective ≡ Some b → (words : Tree) × (vars : Tree) × (ts ≡ tree words (tree vars no_trees))) →
    are_filled e (trees_of args) ≡ true → StandsGoing made.before p (goal (call name args) gs) e k es →
    Stands made.after made.now (labels_step o.objective o xs (name_call name args (record { trees = ts; slots = e; state = made.before.store.now.state })) (with_rest gs k es))

-- what the reading of an operand does, as a goal that posts
abbrev pub effect_of_operand : Operand → Effect
effect_of_operand (reads r sum) = Succeeds r
effect_of_operand (refuses ball) = Raises ball

-- where a round has nothing left to do, in the block of its search
abbrev pub round_end : ℕ → Point
round_end base = record { place = 0; count = 0; base = base; frame = 0 }

-- the goal that labels in rounds stands at a place that is found, in any block that has its arguments alone
abbrev pub FindsRound : Tables → List Step → Option ℕ → Type 0
FindsRound t steps None = ⊥
FindsRound t steps (Some place) = (base : ℕ) → IsHere t steps (round_block base) place round_goal true
