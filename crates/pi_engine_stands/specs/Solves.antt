-- What a call of `solve` does whose arguments are evaluated and which asks to label.
use Rattle.std.specs.Prelude.{◌≡◌, ℕ, true, List, Some, None, slice_get}
use Rattle.pi_terms.specs.Tree.{Tree, Trees, trees_of}
use Rattle.pi_terms.specs.Places.{Places}
use Rattle.pi_constraints.specs.declared.constraint.Item.{Item}
use Rattle.pi_constraints.specs.declared.store.Ref.{Ref}
use Rattle.pi_core.specs.GoalTree.{GoalTrees, goal, call}
use Rattle.pi_settling.specs.Options.{Options as Wanted}
use Rattle.pi_label.specs.declared.options.Options.{Options}
use Rattle.pi_label.specs.Reads.{AreOptions}
use Rattle.pi_lib_constraints.specs.Kept.{AreRefsOf}
use Rattle.pi_meaning.specs.Machine.Configuration.{Frame, Entry}
use Rattle.pi_meaning.specs.Machine.Filled.{are_filled}
use Rattle.pi_meaning.specs.Machine.Step.{labels_step, name_call, with_rest}
use Rattle.pi_engine_code.specs.declared.code.Step.{Step}
use Rattle.pi_engine_arenas.specs.declared.frames.Point.{Point}
use Rattle.pi_engine_stands.specs.Changes.{Change}
use Rattle.pi_engine_stands.specs.Stands.{steps_of, Stands, StandsGoing}

-- The call at a point, whose slots hold each of its variables, labels with these options these items, by their Refs. An objective is passed over.
abbrev pub Labels : {M : Type 0} → Point → Step → Options → List Ref → Change M → Type 0
Labels p s chosen refs made =
    (o : Wanted) (items : List Item) (name : List ℕ) (args : List Tree) (ts : Trees) (gs : GoalTrees) (e : Places) (k : List Frame) (es : List Entry) →
    slice_get (steps_of made.before.loaded) p.place ≡ Some s → AreOptions made.before.store chosen o → AreRefsOf made.before.store refs items →
    are_filled e (trees_of args) ≡ true → StandsGoing made.before p (goal (call name args) gs) e k es →
    Stands made.after made.now (labels_step None o items (name_call name args (record { trees = ts; slots = e; state = made.before.store.now.state })) (with_rest gs k es))
