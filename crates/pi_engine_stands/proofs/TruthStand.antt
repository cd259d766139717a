-- `true`, which is passed.
use Rattle.std.proofs.Common.{◌≡◌, ◌+◌, ◌^◌, ◌<◌, List, Some, refl, sym, subst, arith}
use Rattle.std.specs.Prelude.{slice_get}
use Rattle.pi_terms.specs.Places.{Places}
use Rattle.pi_meaning.specs.Shared.View.{View}
use Rattle.pi_core.specs.GoalTree.{GoalTree, GoalTrees, goal, truth, fail, tick, call, apply, seq, alternatives, if_else, not, once, collect, count, catch, nodes}
use Rattle.pi_core.specs.GoalCells.{kind_of}
use Rattle.pi_core.specs.declared.goal_node.GoalKind.{GoalKind}
use Rattle.pi_engine_arenas.specs.declared.frames.Point.{Point}
use Rattle.pi_engine_code.specs.declared.code.Step.{Step}
use Rattle.pi_engine_code.specs.declared.code.Node.{Node}
use Rattle.pi_engine_arenas.specs.declared.run.Now.{Now}
use Rattle.pi_engine_code.specs.Code.{node_kind}
use Rattle.pi_engine_arenas.specs.Frames.{point_behind}
use Rattle.pi_meaning.specs.Machine.Configuration.{Frame, Entry as EntryData, config, going}
use Rattle.pi_meaning.specs.Machine.Step.{goal_step, with_rest}
use Rattle.pi_engine_stands.specs.Stands.{tables_in, World, steps_of, StandsGoing, GoingIs, Stands, going_now}
use Rattle.pi_engine_stands.specs.Makes.{StandsAfter}
use Rattle.pi_engine_stands.proofs.PointLemmas.{first-of}
use Rattle.pi_engine_stands.proofs.FramesStand.{going-of, going-size}
use Rattle.pi_engine_stands.proofs.NodeLemmas.{kind-here}
use Rattle.pi_engine_stands.proofs.EqualStands.{going-behind}

truth-of : (g : GoalTree) → GoalKind.True ≡ kind_of g → g ≡ truth
unfolding kind_of
truth-of truth h = refl
truth-of fail h = absurd cc
truth-of tick h = absurd cc
truth-of (call name args) h = absurd cc
truth-of (apply name args slot) h = absurd cc
truth-of (seq gs) h = absurd cc
truth-of (alternatives gs) h = absurd cc
truth-of (if_else test g other) h = absurd cc
truth-of (not g) h = absurd cc
truth-of (once g) h = absurd cc
truth-of (collect g value into) h = absurd cc
truth-of (count g into) h = absurd cc
truth-of (catch g ball handler) h = absurd cc

pub truth-step : {M : Type 0} (w : World M) (p q : Point) (s : Step) (view : View) (g : GoalTree) (gs : GoalTrees) (e : Places) (k : List Frame) (es : List EntryData) →
    s.node ≡ Node.True → slice_get (steps_of w.loaded) p.place ≡ Some s → (p.place + s.size < 2 ^ 32 → q ≡ point_behind p s) →
    StandsGoing w p (goal g gs) e k es → StandsAfter w (Now.Going q) (goal_step view w.loaded.preds g e w.store.now.state (with_rest gs k es))
unfolding node_kind goal_step
truth-step w p q s view g gs e k es node at next stands =
    let runs : GoingIs w p (goal g gs) e k = going-of w p (goal g gs) e w.store.now.state k stands.runs in
    let kind : node_kind (tables_in w.loaded) Node.True ≡ kind_of g =
    kind-here (tables_in w.loaded) (steps_of w.loaded) runs.block p.place g _ s Node.True (first-of (tables_in w.loaded) (steps_of w.loaded) runs.block p.place p.count g gs runs.value runs.last runs.goals).here at node in
    let size : (s.size ≡ nodes g) × (p.place + nodes g < 2 ^ 32) = going-size w p s g gs e k at runs in
    subst (λ r. StandsAfter w (Now.Going q) (goal_step view w.loaded.preds r e w.store.now.state (with_rest gs k es))) (sym (truth-of g kind))
    (subst (λ r. Stands w (Now.Going r) (config (going gs e w.store.now.state k) es)) (sym (next (omega (arith, size.0, size.1))))
    (record { entries = stands.entries; runs = going_now (going-behind w p s g gs e k at runs) }))
