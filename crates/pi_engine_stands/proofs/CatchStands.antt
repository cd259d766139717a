-- A `catch` is entered, once its term was evaluated.
use Rattle.std.proofs.Common.{◌≡◌, ℕ, ◌+◌, ◌<◌, List, Some, length, refl, sym, ◌∙◌, ap, subst, arith}
use Rattle.std.specs.Prelude.{slice_get}
use Rattle.pi_terms.specs.Tree.{Tree}
use Rattle.pi_terms.specs.Places.{Places}
use Rattle.pi_meaning.specs.Shared.View.{View}
use Rattle.pi_constraints.specs.State.{SpeaksBelow}
use Rattle.pi_engine_stands.specs.Rests.{Rests}
use Rattle.pi_constraints.specs.Store.{StoreView, Marks}
use Rattle.pi_constraints.specs.Evaluation.{Evaluated, evaluated}
use Rattle.pi_core.specs.GoalTree.{GoalTree, GoalTrees, no_goals, goal, catch, children, child_count, count_goals}
use Rattle.pi_constraints.specs.declared.store.Ref.{Ref}
use Rattle.pi_engine_arenas.specs.declared.frames.Point.{Point}
use Rattle.pi_engine_arenas.specs.declared.arenas.Kind.{Kind}
use Rattle.pi_engine_code.specs.declared.code.Step.{Step}
use Rattle.pi_engine_code.specs.declared.code.Node.{Node}
use Rattle.pi_engine_code.specs.declared.code.Operand.{Operand}
use Rattle.pi_engine_arenas.specs.declared.run.Now.{Now}
use Rattle.pi_engine_code.specs.Code.{node_kind, operand_tree}
use Rattle.pi_engine_arenas.specs.Arenas.{ArenasView, between}
use Rattle.pi_meaning.specs.Machine.Configuration.{Frame, behind, catch_level, Entry as EntryData}
use Rattle.pi_meaning.specs.Machine.Step.{goal_step, inside, back_to, with_rest}
use Rattle.pi_meaning.specs.Machine.Shape.{open_level}
use Rattle.pi_engine_stands.specs.Here.{SayLast, IsReadable}
use Rattle.pi_engine_stands.specs.Stands.{tables_in, World, steps_of, Stands, catch_kind, StandsGoing, GoingIs, going_now}
use Rattle.pi_engine_stands.specs.Makes.{StandsAfter, EntersCatch}
use Rattle.pi_engine_stands.specs.Evaluates.{Evaluates}
use Rattle.pi_meaning.proofs.Machine.EvaluationLemmas.{evaluated-again}
use Rattle.pi_engine_stands.proofs.FramesStand.{with_new_frames, going-of}
use Rattle.pi_engine_stands.proofs.LevelStands.{entered_level}
use Rattle.pi_engine_stands.proofs.LevelSteps.{Pushed, enter}
use Rattle.pi_engine_stands.proofs.StandsLemmas.{moved}
use Rattle.pi_engine_stands.proofs.CallLemmas.{catch-of}
use Rattle.pi_engine_stands.proofs.EqualStands.{block_of, kind-of-node, stack-moved, going-moved}
use Rattle.pi_engine_stands.proofs.ValuesStand.{operand-below, slots-of}
use Rattle.pi_engine_stands.specs.Changes.{change}
use Rattle.pi_engine_stands.proofs.RestLemmas.{evaluated-rests}

pub catch-step : {M : Type 0} (w : World M) (v : StoreView M) (mark : M) (p : Point) (s : Step) (fs : List Point) (n : ℕ) (c h : GoalTree) (ball : Tree) (gs : GoalTrees) (e : Places) (k : List Frame) (es : List EntryData) →
    Pushed w p s fs n → Marks w.order w.store v mark → StandsGoing w p (goal (catch c ball h) gs) e k es →
    evaluated ball e w.store.now.state ≡ record { tree = (evaluated ball e w.store.now.state).tree; slots = e; state = w.store.now.state } →
    Stands (entered_level (with_new_frames w fs) v mark p.base n (Kind.Catch p.place)) (Now.Going (record { place = p.place + 1; count = 1; base = p.base; frame = 0 }))
    (inside c e w.store.now.state (catch_level (evaluated ball e w.store.now.state).tree h (back_to e w.store.now.state (behind gs k))) es)
unfolding children SayLast open_level
catch-step w v mark p s fs n c h ball gs e k es pushed marks stands again =
    enter w v mark p s fs n (Kind.Catch p.place) (catch_level (evaluated ball e w.store.now.state).tree h (back_to e w.store.now.state (behind gs k))) (catch c ball h) c (goal h no_goals) gs e k es pushed marks refl (λ own is. is.1) refl refl
    (λ is. catch_kind is again refl) tt stands

pub catch-has-child : (c h : GoalTree) (ball : Tree) → 0 < child_count (catch c ball h)
unfolding children count_goals
catch-has-child c h ball = omega arith

-- what was entered is what the step of the machine enters
pub catch-enters : {M : Type 0} (w after : World M) (v : StoreView M) (a : ArenasView M) (p : Point) (s : Step) (operand : Operand) (q : Ref) (now : Now) (view : View) (g : GoalTree) (gs : GoalTrees) (e : Places) (k : List Frame) (es : List EntryData) →
    s.node ≡ Node.Catch operand → slice_get (steps_of w.loaded) p.place ≡ Some s → (stands : StandsGoing w p (goal g gs) e k es) →
    IsReadable (tables_in w.loaded) (block_of w p g gs e k es stands) operand →
    Evaluates (block_of w p g gs e k es stands) (between w.store v w.arenas a) (evaluated (operand_tree (tables_in w.loaded) operand) e w.store.now.state) q →
    EntersCatch p s (change (moved w v a) after now) → StandsAfter after now (goal_step view w.loaded.preds g e w.store.now.state (with_rest gs k es))
unfolding node_kind goal_step
catch-enters w after v a p s operand q now view g gs e k es node at stands readable value_is enters =
    let is : GoingIs w p (goal g gs) e k = going-of w p (goal g gs) e w.store.now.state k stands.runs in
    let ball : Tree = operand_tree (tables_in w.loaded) operand in
    let x : Evaluated = evaluated ball e w.store.now.state in
    let it : (c : GoalTree) × (h : GoalTree) × (g ≡ catch c ball h) = catch-of g ball (kind-of-node w p s g gs e k (Node.Catch operand) at is node) in
    let state : Rests v.now.state = subst Rests (sym value_is.writes.state) (evaluated-rests ball e w.store.now.state stands.entries.state) in
    let many : length e ≡ is.block.count = slots-of w.store.now.terms w.arenas.blocks.slots is.block e is.behind.slots in
    let again : evaluated ball x.slots v.now.state ≡ record { tree = x.tree; slots = x.slots; state = v.now.state } =
    evaluated-again ball e w.store.now.state (subst (λ n. SpeaksBelow n ball) (sym many) (operand-below (tables_in w.loaded) is.block operand readable)) v.now.state in
    let same : (evaluated ball x.slots v.now.state).tree ≡ x.tree = ap (λ (y : Evaluated). y.tree) again in
    let moves : StandsGoing (moved w v a) p (goal (catch it.0 ball it.1) gs) x.slots k es =
    subst (λ r. StandsGoing (moved w v a) p (goal r gs) x.slots k es) it.2
    (record {
      entries = stack-moved w v a is.block x.slots x.state es value_is.writes state stands.entries;
      runs = going_now (going-moved w v a p (goal g gs) e x.slots x.state k es stands.entries is value_is.writes);
    }) in
    let entered : Stands after now (inside it.0 x.slots v.now.state (catch_level (evaluated ball x.slots v.now.state).tree it.1 (back_to x.slots v.now.state (behind gs k))) es) =
    enters it.0 it.1 ball gs x.slots k es at moves (again ∙ ap (λ t. record { tree = t; slots = x.slots; state = v.now.state }) (sym same)) in
    subst (λ r. StandsAfter after now (goal_step view w.loaded.preds r e w.store.now.state (with_rest gs k es))) (sym it.2)
    (subst (λ r. Stands after now (inside it.0 x.slots r (catch_level x.tree it.1 (back_to x.slots r (behind gs k))) es)) value_is.writes.state
    (subst (λ t. Stands after now (inside it.0 x.slots v.now.state (catch_level t it.1 (back_to x.slots v.now.state (behind gs k))) es)) same entered))
