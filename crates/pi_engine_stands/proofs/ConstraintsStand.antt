-- A call of a goal of constraints, as a step of the machine: what it left is settled first.
use Rattle.std.proofs.Common.{◌≡◌, ℕ, List, [], Some, refl, sym, ◌∙◌, ap, subst}
use Rattle.std.specs.Prelude.{slice_get, slice_index_or}
use Rattle.pi_terms.specs.Tree.{Tree, trees_of}
use Rattle.pi_terms.specs.Places.{Places}
use Rattle.pi_constraints.specs.State.{State}
use Rattle.pi_constraints.specs.Store.{StoreView, Keeps}
use Rattle.pi_constraints.specs.Evaluation.{EvaluatedAll, evaluated_all}
use Rattle.pi_constraints.specs.declared.store.Ref.{Ref}
use Rattle.pi_effects.specs.Effect.{Effect, Succeeds, Fails, Writes as WritesText, Raises}
use Rattle.pi_core.specs.GoalTree.{GoalTree, GoalTrees, goal, call}
use Rattle.pi_meaning.specs.Shared.View.{View}
use Rattle.pi_meaning.specs.Shared.Effects.{predicate_effect}
use Rattle.pi_meaning.specs.Machine.Configuration.{Frame, config, settling, Entry as EntryData}
use Rattle.pi_meaning.specs.Machine.Step.{done_now, goal_step, with_rest}
use Rattle.pi_meaning.proofs.Machine.CallFound.{effect-comes-to}
use Rattle.pi_lib_constraints.specs.declared.kinds.ConstraintGoal.{ConstraintGoal}
use Rattle.pi_engine_code.specs.declared.code.Node.{Node}
use Rattle.pi_engine_code.specs.declared.code.Step.{Step}
use Rattle.pi_engine_code.specs.Code.{node_kind, operand_trees}
use Rattle.pi_engine_arenas.specs.declared.frames.Point.{Point}
use Rattle.pi_engine_arenas.specs.declared.run.Now.{Now}
use Rattle.pi_engine_arenas.specs.Arenas.{ArenasView, between}
use Rattle.pi_engine_arenas.specs.Frames.{point_behind}
use Rattle.pi_engine_stands.specs.Stands.{World, tables_in, steps_of, Stands, StandsGoing, GoingIs, NowIs, failing_now, raising_now, StackLies}
use Rattle.pi_engine_stands.specs.Evaluates.{Writes, EvaluatesAll}
use Rattle.pi_engine_stands.specs.Makes.{StandsAfter}
use Rattle.pi_engine_stands.specs.Does.{ComesAfter}
use Rattle.pi_engine_stands.proofs.CallLemmas.{call-of}
use Rattle.pi_engine_stands.proofs.StandsLemmas.{moved}
use Rattle.pi_engine_stands.proofs.FramesStand.{going-of}
use Rattle.pi_engine_stands.proofs.SlotsStand.{writes-then}
use Rattle.pi_engine_stands.proofs.EqualStands.{block_of, kind-of-node, going-behind, writes-kept, going-moved, lies-moved}
use Rattle.pi_engine_stands.proofs.StacksLie.{stack-lies}
use Rattle.pi_engine_stands.proofs.SettlesFirst.{goes-on-to}

-- by what it does
constrained : {M : Type 0} (w : World M) (view : View) (before : State) (d : Effect) (p : Point) (gs : GoalTrees) (e : Places) (k : List Frame) (now : Now) (es : List EntryData) → StackLies w es → GoingIs w p gs e k → ComesAfter before p d w.store.now.state now →
    Stands w now (config (done_now view before d gs e k) es)
constrained w view before (Succeeds r) p gs e k now es lies is next =
    subst (λ q. Stands w now (config (settling before q gs e k) es)) (sym next.0) (record { entries = lies; runs = goes-on-to w p before gs e k now next.1 is next.2 })
constrained w view before Fails p gs e k now es lies is next = subst (λ n. Stands w n (config (done_now view before Fails gs e k) es)) (sym next) (record { entries = lies; runs = failing_now })
constrained w view before (WritesText text r) p gs e k now es lies is next = absurd next
constrained w view before (Raises ball) p gs e k now es lies is next = subst (λ n. Stands w n (config (done_now view before (Raises ball) gs e k) es)) (sym next) (record { entries = lies; runs = raising_now })

pub constrain-step : {M : Type 0} (w : World M) (v u : StoreView M) (c : ArenasView M) (p : Point) (s : Step) (posted : ConstraintGoal) (name first arity : ℕ) (rs : List Ref) (d : Effect) (now : Now) (view : View) (g : GoalTree) (gs : GoalTrees) (e : Places) (k : List Frame) (es : List EntryData) →
    s.node ≡ Node.Constrain posted name first arity → slice_get (steps_of w.loaded) p.place ≡ Some s → (stands : StandsGoing w p (goal g gs) e k es) →
    let args : List Tree = operand_trees (tables_in w.loaded) first arity in
    let all : EvaluatedAll = evaluated_all (trees_of args) e w.store.now.state in
    EvaluatesAll (block_of w p g gs e k es stands) (between w.store v w.arenas c) all rs → Keeps v u → predicate_effect (slice_index_or (tables_in w.loaded).names name []) all.trees all.state ≡ Some d →
    ComesAfter all.state (point_behind p s) d u.now.state now → StandsAfter (moved w u c) now (goal_step view w.loaded.preds g e w.store.now.state (with_rest gs k es))
unfolding node_kind
constrain-step w v u c p s posted name first arity rs d now view g gs e k es node at stands evaluates keeps does next =
    let is : GoingIs w p (goal g gs) e k = going-of w p (goal g gs) e w.store.now.state k stands.runs in
    let args : List Tree = operand_trees (tables_in w.loaded) first arity in
    let word : List ℕ = slice_index_or (tables_in w.loaded).names name [] in
    let all : EvaluatedAll = evaluated_all (trees_of args) e w.store.now.state in
    let it : g ≡ call word args = call-of g word args (kind-of-node w p s g gs e k (Node.Constrain posted name first arity) at is node) in
    let writes : Writes is.block (between w.store u w.arenas c) all.slots u.now.state =
    writes-then is.block w.store v u w.arenas c c all.slots all.slots all.state u.now.state evaluates.writes (writes-kept is.block v u c all.slots keeps evaluates.writes.holds) in
    let behind : GoingIs (moved w u c) (point_behind p s) gs all.slots k =
    going-behind (moved w u c) p s g gs all.slots k at (going-moved w u c p (goal g gs) e all.slots u.now.state k es stands.entries is writes) in
    subst (λ h. StandsAfter (moved w u c) now (goal_step view w.loaded.preds h e w.store.now.state (with_rest gs k es))) (sym it)
    (subst (StandsAfter (moved w u c) now) (sym (effect-comes-to view w.loaded.preds word args d gs e w.store.now.state k es does))
    (constrained (moved w u c) view all.state d (point_behind p s) gs all.slots k now es (lies-moved w u c is.block all.slots u.now.state es writes (stack-lies w es stands.entries)) behind next))
