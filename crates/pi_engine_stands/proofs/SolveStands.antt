-- A call of `solve` whose arguments are evaluated, as a step of the machine.
use Rattle.std.proofs.Common.{◌≡◌, ℕ, true, List, [], Some, refl, sym, ◌∙◌, ap, subst}
use Rattle.std.specs.Prelude.{slice_get, slice_index_or}
use Rattle.pi_terms.specs.Tree.{Tree, trees_of, tree_count}
use Rattle.pi_terms.specs.Places.{Places}
use Rattle.pi_constraints.specs.declared.store.Ref.{Ref}
use Rattle.pi_constraints.specs.Store.{StoreView}
use Rattle.pi_constraints.specs.Evaluation.{EvaluatedAll, evaluated_all}
use Rattle.pi_settling.specs.Asked.{Asked, raises}
use Rattle.pi_settling.specs.SolveCalls.{solve_asked, is_solve}
use Rattle.pi_core.specs.GoalTree.{GoalTree, GoalTrees, goal, call}
use Rattle.pi_meaning.specs.Shared.View.{View}
use Rattle.pi_meaning.specs.Machine.Configuration.{Frame, config, raising, Entry as EntryData}
use Rattle.pi_meaning.specs.Machine.Step.{goal_step, solve_step, name_call, with_rest}
use Rattle.pi_engine_code.specs.declared.code.Node.{Node}
use Rattle.pi_engine_code.specs.declared.code.Step.{Step}
use Rattle.pi_engine_code.specs.Code.{node_kind, operand_trees}
use Rattle.pi_engine_arenas.specs.declared.frames.Point.{Point}
use Rattle.pi_engine_arenas.specs.declared.run.Now.{Now}
use Rattle.pi_engine_arenas.specs.Arenas.{ArenasView, between}
use Rattle.pi_engine_stands.specs.Rests.{Rests}
use Rattle.pi_engine_stands.specs.Stands.{World, tables_in, steps_of, Stands, StandsGoing, GoingIs, going_now, raising_now}
use Rattle.pi_engine_stands.specs.Evaluates.{EvaluatesAll}
use Rattle.pi_engine_stands.specs.Makes.{StandsAfter}
use Rattle.pi_engine_stands.proofs.CallLemmas.{call-of}
use Rattle.pi_engine_stands.proofs.EqualStands.{block_of, kind-of-node, going-moved, stack-moved}
use Rattle.pi_engine_stands.proofs.FramesStand.{going-of}
use Rattle.pi_meaning.proofs.Machine.CallFound.{solve-comes-to}
use Rattle.pi_engine_stands.proofs.StacksLie.{stack-lies}
use Rattle.pi_engine_stands.proofs.StandsLemmas.{moved}

-- the goal at such a node
call-there : {M : Type 0} (w : World M) (p : Point) (s : Step) (name first arity : ℕ) (g : GoalTree) (gs : GoalTrees) (e : Places) (k : List Frame) (es : List EntryData) →
    s.node ≡ Node.Solve name first arity → slice_get (steps_of w.loaded) p.place ≡ Some s → StandsGoing w p (goal g gs) e k es →
    g ≡ call (slice_index_or (tables_in w.loaded).names name []) (operand_trees (tables_in w.loaded) first arity)
unfolding node_kind
call-there w p s name first arity g gs e k es node at stands =
    call-of g (slice_index_or (tables_in w.loaded).names name []) (operand_trees (tables_in w.loaded) first arity)
    (kind-of-node w p s g gs e k (Node.Solve name first arity) at (going-of w p (goal g gs) e w.store.now.state k stands.runs) node)

-- it stands there with the slots that its arguments have filled
pub evaluated-stands : {M : Type 0} (w : World M) (v : StoreView M) (c : ArenasView M) (p : Point) (s : Step) (name first arity : ℕ) (rs : List Ref) (g : GoalTree) (gs : GoalTrees) (e : Places) (k : List Frame) (es : List EntryData) →
    s.node ≡ Node.Solve name first arity → slice_get (steps_of w.loaded) p.place ≡ Some s → (stands : StandsGoing w p (goal g gs) e k es) →
    let args : List Tree = operand_trees (tables_in w.loaded) first arity in
    let all : EvaluatedAll = evaluated_all (trees_of args) e w.store.now.state in
    EvaluatesAll (block_of w p g gs e k es stands) (between w.store v w.arenas c) all rs → Rests v.now.state →
    StandsGoing (moved w v c) p (goal (call (slice_index_or (tables_in w.loaded).names name []) args) gs) all.slots k es
evaluated-stands w v c p s name first arity rs g gs e k es node at stands evaluates rests =
    let is : GoingIs w p (goal g gs) e k = going-of w p (goal g gs) e w.store.now.state k stands.runs in
    let all : EvaluatedAll = evaluated_all (trees_of (operand_trees (tables_in w.loaded) first arity)) e w.store.now.state in
    subst (λ h. StandsGoing (moved w v c) p (goal h gs) all.slots k es) (call-there w p s name first arity g gs e k es node at stands)
    (record {
      entries = stack-moved w v c is.block all.slots all.state es evaluates.writes rests stands.entries;
      runs = going_now (going-moved w v c p (goal g gs) e all.slots all.state k es stands.entries is evaluates.writes);
    })

-- what it asks for is what it comes to
pub solve-runs : {M : Type 0} (w after : World M) (v : StoreView M) (now : Now) (p : Point) (s : Step) (name first arity : ℕ) (asks : Asked) (view : View) (g : GoalTree) (gs : GoalTrees) (e : Places) (k : List Frame) (es : List EntryData) →
    s.node ≡ Node.Solve name first arity → slice_get (steps_of w.loaded) p.place ≡ Some s → StandsGoing w p (goal g gs) e k es →
    let word : List ℕ = slice_index_or (tables_in w.loaded).names name [] in
    let args : List Tree = operand_trees (tables_in w.loaded) first arity in
    let all : EvaluatedAll = evaluated_all (trees_of args) e w.store.now.state in
    is_solve word (tree_count all.trees) ≡ true → v.now.state ≡ all.state → solve_asked word all.trees v.now.state ≡ Some asks →
    Stands after now (solve_step (Some asks) (name_call word args (record { trees = all.trees; slots = all.slots; state = v.now.state })) (with_rest gs k es)) →
    StandsAfter after now (goal_step view w.loaded.preds g e w.store.now.state (with_rest gs k es))
solve-runs w after v now p s name first arity asks view g gs e k es node at stands is here asked comes =
    let word : List ℕ = slice_index_or (tables_in w.loaded).names name [] in
    let args : List Tree = operand_trees (tables_in w.loaded) first arity in
    let all : EvaluatedAll = evaluated_all (trees_of args) e w.store.now.state in
    subst (λ h. StandsAfter after now (goal_step view w.loaded.preds h e w.store.now.state (with_rest gs k es))) (sym (call-there w p s name first arity g gs e k es node at stands))
    (subst (StandsAfter after now) (sym (solve-comes-to view w.loaded.preds word args gs e w.store.now.state k es is))
    (subst (λ a. Stands after now (solve_step a (name_call word args all) (with_rest gs k es))) (sym (ap (solve_asked word all.trees) (sym here) ∙ asked))
    (subst (λ t. Stands after now (solve_step (Some asks) (name_call word args (record { trees = all.trees; slots = all.slots; state = t })) (with_rest gs k es))) here comes)))

-- an exception
pub raises-here : {M : Type 0} (w : World M) (p : Point) (ball : Tree) (gs : GoalTrees) (e : Places) (k : List Frame) (es : List EntryData) → StandsGoing w p gs e k es → Stands w (Now.Raising ball) (config (raising ball) es)
raises-here w p ball gs e k es stands = record { entries = stack-lies w es stands.entries; runs = raising_now }
