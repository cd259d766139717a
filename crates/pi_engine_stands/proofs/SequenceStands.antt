-- A sequence that is entered.
use Rattle.std.proofs.Common.{◌≡◌, ℕ, ◌+◌, ◌^◌, ◌<◌, min, List, Some, sym, ◌∙◌, ap, subst, arith}
use Rattle.std.specs.Prelude.{slice_get}
use Rattle.pi_terms.specs.Places.{Places}
use Rattle.pi_meaning.specs.Shared.View.{View}
use Rattle.pi_core.specs.GoalTree.{GoalTree, GoalTrees, goal, seq, count_goals, nodes}
use Rattle.pi_core.specs.GoalCells.{kind_of}
use Rattle.pi_core.proofs.GoalPlaces.{nodes-children}
use Rattle.pi_engine_arenas.specs.declared.frames.Point.{Point}
use Rattle.pi_engine_code.specs.declared.code.Step.{Step}
use Rattle.pi_engine_code.specs.declared.code.Node.{Node}
use Rattle.pi_engine_arenas.specs.declared.run.Now.{Now}
use Rattle.pi_engine_code.specs.Code.{node_kind}
use Rattle.pi_engine_arenas.specs.Frames.{PushesBehind}
use Rattle.pi_meaning.specs.Machine.Configuration.{Frame, Entry as EntryData}
use Rattle.pi_meaning.specs.Machine.Step.{goal_step, with_rest}
use Rattle.pi_engine_stands.specs.Stands.{tables_in, World, steps_of, StandsGoing, GoingIs}
use Rattle.pi_engine_stands.specs.Makes.{StandsAfter}
use Rattle.pi_engine_stands.proofs.PointLemmas.{first-of}
use Rattle.pi_engine_stands.proofs.FramesStand.{with_new_frames, going-of, going-size, sequence-stands}
use Rattle.pi_engine_stands.proofs.NodeLemmas.{kind-here, seq-of}

pub sequence-step : {M : Type 0} (w : World M) (p q : Point) (s : Step) (n count frame : ℕ) (fs : List Point) (view : View) (g : GoalTree) (gs : GoalTrees) (e : Places) (k : List Frame) (es : List EntryData) →
    s.node ≡ Node.Seq count → slice_get (steps_of w.loaded) p.place ≡ Some s → PushesBehind p s w.arenas.frames fs frame →
    n ≡ min (p.place + 1) 4294967295 → q ≡ record { place = n; count = count; base = p.base; frame = frame } →
    StandsGoing w p (goal g gs) e k es → StandsAfter (with_new_frames w fs) (Now.Going q) (goal_step view w.loaded.preds g e w.store.now.state (with_rest gs k es))
unfolding node_kind goal_step
sequence-step w p q s n count frame fs view g gs e k es node at pushes place next stands =
    let is : GoingIs w p (goal g gs) e k = going-of w p (goal g gs) e w.store.now.state k stands.runs in
    let kind : node_kind (tables_in w.loaded) (Node.Seq count) ≡ kind_of g =
    kind-here (tables_in w.loaded) (steps_of w.loaded) is.block p.place g _ s (Node.Seq count) (first-of (tables_in w.loaded) (steps_of w.loaded) is.block p.place p.count g gs is.value is.last is.goals).here at node in
    let size : (s.size ≡ nodes g) × (p.place + nodes g < 2 ^ 32) = going-size w p s g gs e k at is in
    let it : (hs : GoalTrees) × (g ≡ seq hs) × (count_goals hs ≡ count) = seq-of g count kind in
    let within : p.place + 1 < 4294967296 = omega (arith, nodes-children g, size.1) in
    let point : q ≡ record { place = p.place + 1; count = count_goals it.0; base = p.base; frame = frame } =
    next ∙ ap (λ m. record { place = m; count = count; base = p.base; frame = frame }) (place ∙ omega (arith, within))
    ∙ ap (λ m. record { place = p.place + 1; count = m; base = p.base; frame = frame }) (sym it.2) in
    subst (λ r. StandsAfter (with_new_frames w fs) (Now.Going q) (goal_step view w.loaded.preds r e w.store.now.state (with_rest gs k es))) (sym it.1)
    (sequence-stands w p q s it.0 gs e k es fs frame at pushes point (subst (λ r. StandsGoing w p (goal r gs) e k es) it.1 stands))
