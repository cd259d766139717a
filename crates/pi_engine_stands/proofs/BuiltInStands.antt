-- A call of what is built in, as a step of the machine.
use Rattle.std.proofs.Common.{◌≡◌, ℕ, ◌+◌, ◌≤◌, ◌<◌, true, List, [], Option, Some, None, is_some, length, refl, sym, ◌∙◌, ap, subst}
use Rattle.std.specs.Prelude.{slice_get, slice_set, slice_index_or, pos, negsuc}
use Rattle.pi_terms.specs.Tree.{Tree, trees_of, tree_count}
use Rattle.pi_terms.specs.Places.{Places}
use Rattle.pi_constraints.specs.State.{State}
use Rattle.pi_engine_stands.specs.Rests.{Rests}
use Rattle.pi_constraints.specs.Store.{StoreView, Stays, Gives as GivesTerm}
use Rattle.pi_constraints.specs.Evaluation.{EvaluatedAll, evaluated_all}
use Rattle.pi_constraints.specs.declared.store.Ref.{Ref}
use Rattle.pi_effects.specs.Effect.{Effect, Succeeds, Fails, Writes as WritesText, Raises, FunctionEffect, Gives, Refuses}
use Rattle.pi_effects.specs.BuiltIns.{built_in_predicate, built_in_function, is_predicate, is_function, OnlyMakesVariables}
use Rattle.pi_effects.proofs.BuiltInLemmas.{predicates-listed, functions-listed}
use Rattle.pi_lib_builtin.specs.declared.predicates.Predicate.{Predicate}
use Rattle.pi_lib_builtin.specs.declared.functions.Function.{Function}
use Rattle.pi_lib_builtin.specs.Resolved.{IsFunctionNamed}
use Rattle.pi_meaning.specs.Shared.View.{View}
use Rattle.pi_meaning.specs.Shared.Within.{is_body}
use Rattle.pi_core.specs.GoalTree.{GoalTree, GoalTrees, goal, call, apply}
use Rattle.pi_engine_code.specs.declared.code.Node.{Node}
use Rattle.pi_engine_code.specs.declared.code.Step.{Step}
use Rattle.pi_engine_code.specs.Code.{node_kind, operand_trees}
use Rattle.pi_engine_code.specs.Laid.{IsEffectOf}
use Rattle.pi_engine_arenas.specs.declared.frames.Point.{Point}
use Rattle.pi_engine_arenas.specs.declared.run.Now.{Now}
use Rattle.pi_engine_arenas.specs.Blocks.{BlocksView, KeepsBlocks}
use Rattle.pi_engine_arenas.specs.Arenas.{ArenasView, between}
use Rattle.pi_engine_arenas.specs.Frames.{point_behind, slot_number}
use Rattle.pi_meaning.specs.declared.happening.Mode.{Mode}
use Rattle.pi_meaning.specs.Machine.Configuration.{Frame, going, telling, failed, raising, Entry as EntryData, settling}
use Rattle.pi_meaning.specs.Machine.Step.{done_now, written_now, goal_step, with_rest}
use Rattle.pi_meaning.specs.Shared.Effects.{predicate_effect, value_effect, is_effect_name, is_value_name}
use Rattle.pi_meaning.proofs.Shared.EffectNames.{effects-listed, values-listed}
use Rattle.pi_meaning.proofs.Machine.CallFound.{effect-comes-to, value-comes-to}
use Rattle.pi_settling.specs.Goals.{is_constraint_goal}
use Rattle.pi_settling.specs.DomainValues.{is_domain_function}
use Rattle.pi_core.specs.declared.goal_node.GoalKind.{GoalKind}
use Rattle.pi_engine_stands.proofs.ConstraintNames.{or-right, built-effect}
use Rattle.pi_engine_stands.specs.Here.{Block}
use Rattle.pi_engine_stands.specs.Stands.{World, tables_in, steps_of, StandsGoing, GoingIs, NowIs, going_now, telling_now, failing_now, raising_now}
use Rattle.pi_engine_stands.specs.Evaluates.{with_blocks, Writes, EvaluatesAll}
use Rattle.pi_engine_stands.specs.Views.{Fits}
use Rattle.pi_engine_stands.specs.Makes.{StandsAfter}
use Rattle.pi_engine_stands.specs.Does.{IsTold, ComesNext}
use Rattle.pi_engine_stands.proofs.CallLemmas.{call-of, apply-of}
use Rattle.pi_engine_stands.proofs.CallRuns.{trees-count, evaluated-count}
use Rattle.pi_engine_stands.proofs.StandsLemmas.{moved}
use Rattle.pi_engine_stands.proofs.FramesStand.{going-of}
use Rattle.pi_engine_stands.proofs.SlotsStand.{writes-then, slot-is}
use Rattle.pi_engine_stands.proofs.SlotsGiven.{slot-written}
use Rattle.pi_engine_stands.proofs.EqualStands.{block_of, kind-of-node, going-behind, writes-kept, stack-moved, going-moved, lies-moved}
use Rattle.pi_engine_stands.proofs.RestLemmas.{news-rest, evaluated-all-rests}
use Rattle.pi_engine_stands.proofs.StacksLie.{stack-lies, any-below}
use Rattle.pi_engine_stands.proofs.SettlesFirst.{settling-same}

-- ---- what is done

some-of : {A : Type 0} (o : Option A) → is_some o ≡ true → (x : A) × (o ≡ Some x)
some-of None h = absurd cc
some-of (Some x) h = (x, refl)

pub all-many : (args : List Tree) (e : Places) (s : State) (k : ℕ) → length args ≡ k → tree_count (evaluated_all (trees_of args) e s).trees ≡ k
all-many args e s k many = evaluated-count (trees_of args) e s ∙ trees-count args ∙ many

-- what the predicate of a name does with evaluated arguments
pub effect-there : (name : List ℕ) (k : ℕ) (p : Predicate) (args : List Tree) (e : Places) (s : State) → length args ≡ k → IsEffectOf name k p →
    let all : EvaluatedAll = evaluated_all (trees_of args) e s in (d : Effect) × (built_in_predicate name all.trees all.state ≡ Some d)
effect-there name k p args e s many is =
    let all : EvaluatedAll = evaluated_all (trees_of args) e s in
    some-of (built_in_predicate name all.trees all.state) (predicates-listed name all.trees all.state ∙ ap (is_predicate name) (all-many args e s k many) ∙ is.0.known)

-- what a goal of constraints does, by its name
pub goal-there : (name : List ℕ) (k : ℕ) (args : List Tree) (e : Places) (s : State) → length args ≡ k → is_constraint_goal name k ≡ true →
    let all : EvaluatedAll = evaluated_all (trees_of args) e s in (d : Effect) × (predicate_effect name all.trees all.state ≡ Some d)
goal-there name k args e s many known =
    let all : EvaluatedAll = evaluated_all (trees_of args) e s in
    some-of (predicate_effect name all.trees all.state) (effects-listed name all.trees all.state ∙ ap (is_effect_name name) (all-many args e s k many) ∙ or-right (is_predicate name k) (is_constraint_goal name k) known)

-- and a function of domains
pub domain-there : (name : List ℕ) (k : ℕ) (args : List Tree) (e : Places) (s : State) → length args ≡ k → is_domain_function name k ≡ true →
    let all : EvaluatedAll = evaluated_all (trees_of args) e s in (d : FunctionEffect) × (value_effect name all.trees all.state ≡ Some d)
domain-there name k args e s many known =
    let all : EvaluatedAll = evaluated_all (trees_of args) e s in
    some-of (value_effect name all.trees all.state) (values-listed name all.trees all.state ∙ ap (is_value_name name) (all-many args e s k many) ∙ or-right (is_function name k) (is_domain_function name k) known)

pub value-there : (name : List ℕ) (k : ℕ) (f : Function) (args : List Tree) (e : Places) (s : State) → length args ≡ k → IsFunctionNamed name k f →
    let all : EvaluatedAll = evaluated_all (trees_of args) e s in (d : FunctionEffect) × (built_in_function name all.trees all.state ≡ Some d)
value-there name k f args e s many is =
    let all : EvaluatedAll = evaluated_all (trees_of args) e s in
    some-of (built_in_function name all.trees all.state) (functions-listed name all.trees all.state ∙ ap (is_function name) (all-many args e s k many) ∙ is.known)

-- ---- a predicate

-- what runs behind it: a point whose goals stand there
told-now : {M : Type 0} (w : World M) (mode : Mode) (view : View) (text : List ℕ) (p : Point) (gs : GoalTrees) (e : Places) (k : List Frame) (now : Now) → Fits mode view → GoingIs w p gs e k → IsTold mode text p now →
    NowIs w now (written_now (is_body view.within) text gs e w.store.now.state k)
told-now w Mode.Top view text p gs e k now fits is told =
    subst (λ b. NowIs w now (written_now b text gs e w.store.now.state k)) (sym (ap is_body fits))
    (subst (λ n. NowIs w n (telling text gs e w.store.now.state k)) (sym told.2)
    (subst (λ t. NowIs w (Now.Telling told.0) (telling t gs e w.store.now.state k)) (ap (λ t. t.text) told.1)
    (telling_now (subst (λ t. GoingIs w t.point gs e k) (sym told.1) is))))
told-now w (Mode.Inner (pos rest)) view text p gs e k now fits is told =
    subst (λ b. NowIs w now (written_now b text gs e w.store.now.state k)) (sym (ap is_body fits)) (subst (λ n. NowIs w n (written_now true text gs e w.store.now.state k)) (sym told) raising_now)
told-now w (Mode.Inner (negsuc rest)) view text p gs e k now fits is told = absurd fits

next-now : {M : Type 0} (w : World M) (mode : Mode) (view : View) (before : State) (d : Effect) (p : Point) (gs : GoalTrees) (e : Places) (k : List Frame) (now : Now) → Fits mode view → before ≡ w.store.now.state → Rests w.store.now.state → GoingIs w p gs e k → ComesNext mode p d w.store.now.state now → NowIs w now (done_now view before d gs e k)
next-now w mode view before (Succeeds r) p gs e k now fits same rests is next =
    subst (λ q. NowIs w now (settling before q gs e k)) (sym next.0) (subst (λ n. NowIs w n (settling before w.store.now.state gs e k)) (sym next.1) (settling-same w p before gs e k same rests is))
next-now w mode view before Fails p gs e k now fits same rests is next = subst (λ n. NowIs w n failed) (sym next) failing_now
next-now w mode view before (WritesText text r) p gs e k now fits same rests is next =
    subst (λ q. NowIs w now (written_now (is_body view.within) text gs e q k)) (sym next.0) (told-now w mode view text p gs e k now fits is next.1)
next-now w mode view before (Raises ball) p gs e k now fits same rests is next = subst (λ n. NowIs w n (raising ball)) (sym next) raising_now

pub effect-step : {M : Type 0} (w : World M) (v u : StoreView M) (c : ArenasView M) (p : Point) (s : Step) (built : Predicate) (name first arity : ℕ) (rs : List Ref) (d : Effect) (mode : Mode) (now : Now) (view : View) (g : GoalTree) (gs : GoalTrees) (e : Places) (k : List Frame) (es : List EntryData) →
    s.node ≡ Node.BuiltIn built name first arity → slice_get (steps_of w.loaded) p.place ≡ Some s → (stands : StandsGoing w p (goal g gs) e k es) → Fits mode view →
    let args : List Tree = operand_trees (tables_in w.loaded) first arity in
    let all : EvaluatedAll = evaluated_all (trees_of args) e w.store.now.state in
    EvaluatesAll (block_of w p g gs e k es stands) (between w.store v w.arenas c) all rs → Stays v u → built_in_predicate (slice_index_or (tables_in w.loaded).names name []) all.trees all.state ≡ Some d →
    ComesNext mode (point_behind p s) d u.now.state now → StandsAfter (moved w u c) now (goal_step view w.loaded.preds g e w.store.now.state (with_rest gs k es))
unfolding node_kind
effect-step w v u c p s built name first arity rs d mode now view g gs e k es node at stands fits evaluates stays does next =
    let is : GoingIs w p (goal g gs) e k = going-of w p (goal g gs) e w.store.now.state k stands.runs in
    let args : List Tree = operand_trees (tables_in w.loaded) first arity in
    let word : List ℕ = slice_index_or (tables_in w.loaded).names name [] in
    let all : EvaluatedAll = evaluated_all (trees_of args) e w.store.now.state in
    let it : g ≡ call word args = call-of g word args (kind-of-node w p s g gs e k (Node.BuiltIn built name first arity) at is node) in
    let writes : Writes is.block (between w.store u w.arenas c) all.slots u.now.state =
    writes-then is.block w.store v u w.arenas c c all.slots all.slots all.state u.now.state evaluates.writes (writes-kept is.block v u c all.slots stays.keeps evaluates.writes.holds) in
    let state : Rests u.now.state = subst Rests (sym (stays.state ∙ evaluates.writes.state)) (evaluated-all-rests (trees_of args) e w.store.now.state stands.entries.state) in
    let behind : GoingIs (moved w u c) (point_behind p s) gs all.slots k =
    going-behind (moved w u c) p s g gs all.slots k at (going-moved w u c p (goal g gs) e all.slots u.now.state k es stands.entries is writes) in
    subst (λ h. StandsAfter (moved w u c) now (goal_step view w.loaded.preds h e w.store.now.state (with_rest gs k es))) (sym it)
    (subst (StandsAfter (moved w u c) now) (sym (effect-comes-to view w.loaded.preds word args d gs e w.store.now.state k es (built-effect word all.trees all.state d does)))
    (record { entries = any-below (moved w u c) (done_now view all.state d gs all.slots k) es (stack-moved w u c is.block all.slots u.now.state es writes state stands.entries); runs = next-now (moved w u c) mode view all.state d (point_behind p s) gs all.slots k now fits (sym (stays.state ∙ evaluates.writes.state)) state behind next }))

-- ---- a function

made-state : (s r : State) (t : Tree) → Rests s → OnlyMakesVariables s (Gives t r) → Rests r
made-state s r t is made = subst Rests (sym made.1) (news-rest made.0 s is)

pub value-step : {M : Type 0} (w : World M) (v u : StoreView M) (c : ArenasView M) (new : BlocksView) (p q : Point) (s : Step) (node : Node) (name first arity into begins slot : ℕ) (rs : List Ref) (made : Ref) (t : Tree) (r : State) (view : View) (g : GoalTree) (gs : GoalTrees) (e : Places) (k : List Frame) (es : List EntryData) →
    s.node ≡ node → node_kind (tables_in w.loaded) node ≡ GoalKind.Apply (slice_index_or (tables_in w.loaded).names name []) (operand_trees (tables_in w.loaded) first arity) into → slice_get (steps_of w.loaded) p.place ≡ Some s →
    (stands : StandsGoing w p (goal g gs) e k es) →
    let args : List Tree = operand_trees (tables_in w.loaded) first arity in
    let all : EvaluatedAll = evaluated_all (trees_of args) e w.store.now.state in
    let b : Block = block_of w p g gs e k es stands in
    EvaluatesAll b (between w.store v w.arenas c) all rs → value_effect (slice_index_or (tables_in w.loaded).names name []) all.trees all.state ≡ Some (Gives t r) → OnlyMakesVariables all.state (Gives t r) → GivesTerm v u r made t →
    into < b.count → begins ≡ slot_number b.base b.first → slot ≡ slot_number begins into → new.slots ≡ slice_set c.blocks.slots slot (Some made) → new.kept ≡ c.blocks.kept → KeepsBlocks c.blocks new → length c.blocks.slots ≤ 18446744073709551615 →
    q ≡ point_behind p s → StandsAfter (moved w u (with_blocks c new)) (Now.Going q) (goal_step view w.loaded.preds g e w.store.now.state (with_rest gs k es))
unfolding node_kind
value-step w v u c new p q s node name first arity into begins slot rs made t r view g gs e k es is_node kind at stands evaluates does makes gives within begins_is slot_at slots kept stays most next =
    let is : GoingIs w p (goal g gs) e k = going-of w p (goal g gs) e w.store.now.state k stands.runs in
    let args : List Tree = operand_trees (tables_in w.loaded) first arity in
    let word : List ℕ = slice_index_or (tables_in w.loaded).names name [] in
    let all : EvaluatedAll = evaluated_all (trees_of args) e w.store.now.state in
    let it : g ≡ apply word args into = apply-of g word args into (sym kind ∙ kind-of-node w p s g gs e k node at is is_node) in
    let f : Places = slice_set all.slots into (Some t) in
    let d : ArenasView _ = with_blocks c new in
    let there : slot ≡ is.block.base + is.block.first + into =
    slot-is is.block into slot (length c.blocks.slots) (slot_at ∙ ap (λ n. slot_number n into) begins_is) within evaluates.writes.holds.within most in
    let writes : Writes is.block (between w.store u w.arenas d) f r =
    writes-then is.block w.store v u w.arenas c d all.slots f all.state r evaluates.writes
    (slot-written is.block v u c new all.slots into slot made t r there within evaluates.writes.holds gives.changes.keeps gives.changes.state gives.term slots kept stays) in
    let state : Rests r = made-state all.state r t (evaluated-all-rests (trees_of args) e w.store.now.state stands.entries.state) makes in
    let behind : GoingIs (moved w u d) (point_behind p s) gs f k =
    going-behind (moved w u d) p s g gs f k at (going-moved w u d p (goal g gs) e f r k es stands.entries is writes) in
    subst (λ h. StandsAfter (moved w u d) (Now.Going q) (goal_step view w.loaded.preds h e w.store.now.state (with_rest gs k es))) (sym it)
    (subst (StandsAfter (moved w u d) (Now.Going q)) (sym (value-comes-to view w.loaded.preds word args into (Gives t r) gs e w.store.now.state k es does))
    (record {
      entries = stack-moved w u d is.block f r es writes (subst Rests (sym gives.changes.state) state) stands.entries;
      runs = subst (λ x. NowIs (moved w u d) (Now.Going x) (going gs f r k)) (sym next)
          (subst (λ x. NowIs (moved w u d) (Now.Going (point_behind p s)) (going gs f x k)) gives.changes.state (going_now behind));
    }))

pub refusal-step : {M : Type 0} (w : World M) (v u : StoreView M) (c : ArenasView M) (p : Point) (s : Step) (node : Node) (name first arity into : ℕ) (rs : List Ref) (ball : Tree) (view : View) (g : GoalTree) (gs : GoalTrees) (e : Places) (k : List Frame) (es : List EntryData) →
    s.node ≡ node → node_kind (tables_in w.loaded) node ≡ GoalKind.Apply (slice_index_or (tables_in w.loaded).names name []) (operand_trees (tables_in w.loaded) first arity) into → slice_get (steps_of w.loaded) p.place ≡ Some s →
    (stands : StandsGoing w p (goal g gs) e k es) →
    let args : List Tree = operand_trees (tables_in w.loaded) first arity in
    let all : EvaluatedAll = evaluated_all (trees_of args) e w.store.now.state in
    EvaluatesAll (block_of w p g gs e k es stands) (between w.store v w.arenas c) all rs → Stays v u → value_effect (slice_index_or (tables_in w.loaded).names name []) all.trees all.state ≡ Some (Refuses ball) →
    StandsAfter (moved w u c) (Now.Raising ball) (goal_step view w.loaded.preds g e w.store.now.state (with_rest gs k es))
unfolding node_kind
refusal-step w v u c p s node name first arity into rs ball view g gs e k es is_node kind at stands evaluates stays does =
    let is : GoingIs w p (goal g gs) e k = going-of w p (goal g gs) e w.store.now.state k stands.runs in
    let args : List Tree = operand_trees (tables_in w.loaded) first arity in
    let word : List ℕ = slice_index_or (tables_in w.loaded).names name [] in
    let all : EvaluatedAll = evaluated_all (trees_of args) e w.store.now.state in
    let it : g ≡ apply word args into = apply-of g word args into (sym kind ∙ kind-of-node w p s g gs e k node at is is_node) in
    let writes : Writes is.block (between w.store u w.arenas c) all.slots u.now.state =
    writes-then is.block w.store v u w.arenas c c all.slots all.slots all.state u.now.state evaluates.writes (writes-kept is.block v u c all.slots stays.keeps evaluates.writes.holds) in
    let state : Rests u.now.state = subst Rests (sym (stays.state ∙ evaluates.writes.state)) (evaluated-all-rests (trees_of args) e w.store.now.state stands.entries.state) in
    subst (λ h. StandsAfter (moved w u c) (Now.Raising ball) (goal_step view w.loaded.preds h e w.store.now.state (with_rest gs k es))) (sym it)
    (subst (StandsAfter (moved w u c) (Now.Raising ball)) (sym (value-comes-to view w.loaded.preds word args into (Refuses ball) gs e w.store.now.state k es does))
    (record { entries = lies-moved w u c is.block all.slots u.now.state es writes (stack-lies w es stands.entries); runs = raising_now }))
