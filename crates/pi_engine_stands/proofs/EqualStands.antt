-- A goal whose operands were evaluated, and what follows it.
use Rattle.std.proofs.Common.{◌≡◌, ℕ, ◌+◌, ◌-◌, ◌^◌, ◌<◌, Bool, true, false, List, [], ◌∷◌, Option, Some, None, refl, sym, ◌∙◌, ap, subst, arith}
use Rattle.std.specs.Prelude.{slice_get, codes}
use Rattle.pi_terms.specs.Tree.{Tree}
use Rattle.pi_terms.specs.Places.{Places}
use Rattle.pi_meaning.specs.Shared.View.{View}
use Rattle.pi_constraints.specs.State.{State, bindings}
use Rattle.pi_engine_stands.specs.Rests.{Rests}
use Rattle.pi_constraints.specs.Value.{value}
use Rattle.pi_constraints.specs.Store.{StoreView, Keeps}
use Rattle.pi_constraints.specs.Unify.{unified}
use Rattle.pi_constraints.specs.Evaluation.{Evaluated, evaluated}
use Rattle.pi_core.specs.GoalTree.{GoalTree, GoalTrees, goal, call, nodes}
use Rattle.pi_core.specs.GoalCells.{kind_of}
use Rattle.pi_constraints.specs.declared.store.Ref.{Ref}
use Rattle.pi_core.proofs.GoalPlaces.{nodes-children}
use Rattle.pi_unify.specs.Answers.{Answers}
use Rattle.pi_engine_arenas.specs.declared.frames.Point.{Point}
use Rattle.pi_engine_code.specs.declared.code.Step.{Step}
use Rattle.pi_engine_code.specs.declared.code.Node.{Node}
use Rattle.pi_engine_code.specs.declared.code.Operand.{Operand}
use Rattle.pi_engine_arenas.specs.declared.run.Now.{Now}
use Rattle.pi_engine_code.specs.Code.{node_kind, operand_tree}
use Rattle.pi_engine_arenas.specs.Frames.{point_behind, slot_number}
use Rattle.pi_engine_arenas.specs.Arenas.{ArenasView, between}
use Rattle.pi_meaning.specs.Machine.Configuration.{Frame, config, raising, Entry as EntryData}
use Rattle.pi_meaning.specs.Machine.Step.{goal_step, with_rest}
use Rattle.pi_engine_stands.specs.Here.{Block, Holds, IsStepOf, NodeIsReadable, AreHere}
use Rattle.pi_engine_stands.specs.Stands.{tables_in, World, steps_of, StackStands, Stands, StandsGoing, GoingIs, NowIs, failing_now, raising_now, StackLies}
use Rattle.pi_engine_stands.specs.Makes.{StandsAfter, raised_for}
use Rattle.pi_engine_stands.specs.Evaluates.{Writes, Evaluates}
use Rattle.pi_engine_stands.proofs.HereLemmas.{holds-extends}
use Rattle.pi_engine_stands.proofs.PointLemmas.{FirstOf, first-of}
use Rattle.pi_engine_stands.proofs.FramesStand.{going-of, going-size}
use Rattle.pi_engine_stands.proofs.NodeLemmas.{kind-here}
use Rattle.pi_engine_stands.proofs.StandsLemmas.{moved}
use Rattle.pi_constraints.proofs.StateLemmas.{extends}
use Rattle.pi_engine_stands.proofs.SlotsStand.{writes-none, writes-then}
use Rattle.pi_engine_stands.proofs.WritesStand.{WritesTo, stack-written, going-written, lies-written}
use Rattle.pi_engine_stands.proofs.CallLemmas.{call-of, after_equal, equal-comes-to, throw-comes-to}
use Rattle.pi_engine_stands.proofs.StacksLie.{stack-lies}
use Rattle.pi_engine_settle.specs.Settles.{LeftBy}
use Rattle.pi_engine_stands.specs.Settling.{NextAfter}
use Rattle.pi_engine_stands.proofs.SettlesFirst.{goes-on-to}

-- ---- a goal that stands at a step

-- the goal's step belongs to the block that runs
pub step-of-block : {M : Type 0} (w : World M) (p : Point) (s : Step) (g : GoalTree) (gs : GoalTrees) (e : Places) (k : List Frame) → slice_get (steps_of w.loaded) p.place ≡ Some s →
    (is : GoingIs w p (goal g gs) e k) → IsStepOf (tables_in w.loaded) is.block s
step-of-block w p s g gs e k at is =
    let first : FirstOf (tables_in w.loaded) (steps_of w.loaded) is.block p.place p.count g gs is.value is.last =
    first-of (tables_in w.loaded) (steps_of w.loaded) is.block p.place p.count g gs is.value is.last is.goals in
    first.here.of_block 0 s (omega (arith, nodes-children g)) (ap (slice_get (steps_of w.loaded)) (omega arith) ∙ at)

-- where its slots begin
pub first-slot-of : {M : Type 0} (w : World M) (p : Point) (s : Step) (g : GoalTree) (gs : GoalTrees) (e : Places) (k : List Frame) (first : ℕ) → slice_get (steps_of w.loaded) p.place ≡ Some s →
    (is : GoingIs w p (goal g gs) e k) → first ≡ slot_number p.base s.first_slot → first ≡ slot_number is.block.base is.block.first
first-slot-of w p s g gs e k first at is at_slot =
    at_slot ∙ ap (λ n. slot_number n s.first_slot) (sym is.base) ∙ ap (slot_number is.block.base) (step-of-block w p s g gs e k at is).first

-- its node can be read
pub node-readable : {M : Type 0} (w : World M) (p : Point) (s : Step) (g : GoalTree) (gs : GoalTrees) (e : Places) (k : List Frame) (node : Node) → slice_get (steps_of w.loaded) p.place ≡ Some s →
    (is : GoingIs w p (goal g gs) e k) → s.node ≡ node → NodeIsReadable (tables_in w.loaded) is.block node
node-readable w p s g gs e k node at is is_node = subst (λ n. NodeIsReadable (tables_in w.loaded) is.block n) is_node (step-of-block w p s g gs e k at is).readable

-- which goal it is
pub kind-of-node : {M : Type 0} (w : World M) (p : Point) (s : Step) (g : GoalTree) (gs : GoalTrees) (e : Places) (k : List Frame) (node : Node) → slice_get (steps_of w.loaded) p.place ≡ Some s →
    GoingIs w p (goal g gs) e k → s.node ≡ node → node_kind (tables_in w.loaded) node ≡ kind_of g
kind-of-node w p s g gs e k node at is is_node =
    kind-here (tables_in w.loaded) (steps_of w.loaded) is.block p.place g _ s node
    (first-of (tables_in w.loaded) (steps_of w.loaded) is.block p.place p.count g gs is.value is.last is.goals).here at is_node

-- the goals behind it run next
pub going-behind : {M : Type 0} (w : World M) (p : Point) (s : Step) (g : GoalTree) (gs : GoalTrees) (e : Places) (k : List Frame) → slice_get (steps_of w.loaded) p.place ≡ Some s →
    GoingIs w p (goal g gs) e k → GoingIs w (point_behind p s) gs e k
going-behind w p s g gs e k at is =
    let size : (s.size ≡ nodes g) × (p.place + nodes g < 2 ^ 32) = going-size w p s g gs e k at is in
    record {
      block = is.block;
      base = is.base;
      value = is.value;
      last = is.last;
      rest = is.rest;
      goals = subst (λ n. AreHere (tables_in w.loaded) (steps_of w.loaded) is.block n (p.count - 1) gs is.value is.last) (ap (λ n. p.place + n) (sym size.0))
          (first-of (tables_in w.loaded) (steps_of w.loaded) is.block p.place p.count g gs is.value is.last is.goals).behind;
      behind = is.behind;
      leaves = is.leaves;
      frames = is.frames;
      agrees = is.agrees;
    }

-- ---- the store alone changes

pub writes-kept : {M : Type 0} (b : Block) (v w : StoreView M) (a : ArenasView M) (e : Places) → Keeps v w → Holds v.now.terms a.blocks.slots b e → Writes b (between v w a a) e w.now.state
writes-kept b v w a e keeps holds =
    let same : Writes b (between v v a a) e v.now.state = writes-none b v a e holds in
    record {
      keeps = keeps;
      state = refl;
      holds = holds-extends v.now.terms w.now.terms a.blocks.slots b e (extends v w keeps) holds;
      as_many = refl;
      front = refl;
      back = refl;
      blocks = same.blocks;
      kept = refl;
      rest = refl;
    }

-- ---- a run whose block was written

abbrev pub writes-to : {M : Type 0} (w : World M) (v : StoreView M) (c : ArenasView M) (b : Block) (f : Places) (s : State) → Writes b (between w.store v w.arenas c) f s → WritesTo w v c.blocks b f s
writes-to w v c b f s writes = subst (λ r. Writes b (between w.store v w.arenas r) f s) writes.rest writes

pub stack-moved : {M : Type 0} (w : World M) (v : StoreView M) (c : ArenasView M) (b : Block) (f : Places) (s : State) (es : List EntryData) → Writes b (between w.store v w.arenas c) f s → Rests v.now.state →
    StackStands w es → StackStands (moved w v c) es
stack-moved w v c b f s es writes state is =
    subst (λ r. StackStands (moved w v r) es) (sym writes.rest) (stack-written w v c.blocks b f s es (writes-to w v c b f s writes) state is)

-- the same whatever the state is then
pub lies-moved : {M : Type 0} (w : World M) (v : StoreView M) (c : ArenasView M) (b : Block) (f : Places) (s : State) (es : List EntryData) → Writes b (between w.store v w.arenas c) f s → StackLies w es → StackLies (moved w v c) es
lies-moved w v c b f s es writes is = subst (λ r. StackLies (moved w v r) es) (sym writes.rest) (lies-written w v c.blocks b f s es (writes-to w v c b f s writes) is)

pub going-lies : {M : Type 0} (w : World M) (v : StoreView M) (c : ArenasView M) (p : Point) (gs : GoalTrees) (e f : Places) (s : State) (k : List Frame) (es : List EntryData) → StackLies w es →
    (is : GoingIs w p gs e k) → Writes is.block (between w.store v w.arenas c) f s → GoingIs (moved w v c) p gs f k
going-lies w v c p gs e f s k es lies is writes =
    subst (λ r. GoingIs (moved w v r) p gs f k) (sym writes.rest) (going-written w v c.blocks p gs e f s k es lies is (writes-to w v c is.block f s writes))

pub going-moved : {M : Type 0} (w : World M) (v : StoreView M) (c : ArenasView M) (p : Point) (gs : GoalTrees) (e f : Places) (s : State) (k : List Frame) (es : List EntryData) → StackStands w es →
    (is : GoingIs w p gs e k) → Writes is.block (between w.store v w.arenas c) f s → GoingIs (moved w v c) p gs f k
going-moved w v c p gs e f s k es stands is writes =
    going-lies w v c p gs e f s k es (stack-lies w es stands) is writes

-- ---- two terms are made equal

-- the block that runs
abbrev pub block_of : {M : Type 0} (w : World M) (p : Point) (g : GoalTree) (gs : GoalTrees) (e : Places) (k : List Frame) (es : List EntryData) → StandsGoing w p (goal g gs) e k es → Block
block_of w p g gs e k es stands = (going-of w p (goal g gs) e w.store.now.state k stands.runs).block

equal-by : {M : Type 0} (w : World M) (v : StoreView M) (c : ArenasView M) (p : Point) (s : Step) (g : GoalTree) (gs : GoalTrees) (e f : Places) (k : List Frame) (es : List EntryData) (before : State) (o : Option State) (one : Bool) (now : Now) →
    slice_get (steps_of w.loaded) p.place ≡ Some s → StackStands w es → (is : GoingIs w p (goal g gs) e k) → Writes is.block (between w.store v w.arenas c) f v.now.state → (one ≡ true → LeftBy before v.now.state) →
    Answers o one v.now.state → NextAfter one before v.now.state (point_behind p s) now → Stands (moved w v c) now (config (after_equal before o gs f k) es)
equal-by w v c p s g gs e f k es before None one now at entries is writes left answers next =
    subst (λ r. Stands (moved w v c) r (config (after_equal before None gs f k) es)) (sym (subst (λ q. NextAfter q before v.now.state (point_behind p s) now) answers next))
    (record { entries = lies-moved w v c is.block f v.now.state es writes (stack-lies w es entries); runs = failing_now })
equal-by w v c p s g gs e f k es before (Some r) one now at entries is writes left answers next =
    record {
      entries = lies-moved w v c is.block f v.now.state es writes (stack-lies w es entries);
      runs = subst (λ q. NowIs (moved w v c) now (after_equal before (Some q) gs f k)) answers.1
          (goes-on-to (moved w v c) (point_behind p s) before gs f k now (left answers.0) (going-behind (moved w v c) p s g gs f k at (going-moved w v c p (goal g gs) e f v.now.state k es entries is writes))
          (subst (λ q. NextAfter q before v.now.state (point_behind p s) now) answers.0 next));
    }

-- both operands evaluated, one after the other
pub both-evaluated : {M : Type 0} (b : Block) (v1 v2 v3 : StoreView M) (a1 a2 a3 : ArenasView M) (l r : Tree) (e : Places) (q1 q2 : Ref) →
    let x : Evaluated = evaluated l e v1.now.state in
    Evaluates b (between v1 v2 a1 a2) x q1 → Evaluates b (between v2 v3 a2 a3) (evaluated r x.slots v2.now.state) q2 → Evaluates b (between v1 v3 a1 a3) (evaluated r x.slots x.state) q2
both-evaluated b v1 v2 v3 a1 a2 a3 l r e q1 q2 first second =
    let x : Evaluated = evaluated l e v1.now.state in
    subst (λ s. Evaluates b (between v1 v3 a1 a3) (evaluated r x.slots s) q2) first.writes.state
    (record {
      writes = writes-then b v1 v2 v3 a1 a2 a3 x.slots (evaluated r x.slots v2.now.state).slots x.state (evaluated r x.slots v2.now.state).state first.writes second.writes;
      term = second.term;
    })

pub equal-step : {M : Type 0} (w : World M) (v u : StoreView M) (c : ArenasView M) (p : Point) (s : Step) (left right : Operand) (q : Ref) (one : Bool) (now : Now) (view : View) (g : GoalTree) (gs : GoalTrees) (e : Places) (k : List Frame) (es : List EntryData) →
    s.node ≡ Node.Unify left right → slice_get (steps_of w.loaded) p.place ≡ Some s → (stands : StandsGoing w p (goal g gs) e k es) →
    let x : Evaluated = evaluated (operand_tree (tables_in w.loaded) left) e w.store.now.state in
    let y : Evaluated = evaluated (operand_tree (tables_in w.loaded) right) x.slots x.state in
    Evaluates (block_of w p g gs e k es stands) (between w.store v w.arenas c) y q → Keeps v u → Answers (unified y.state x.tree y.tree) one u.now.state → (one ≡ true → LeftBy y.state u.now.state) →
    NextAfter one y.state u.now.state (point_behind p s) now → StandsAfter (moved w u c) now (goal_step view w.loaded.preds g e w.store.now.state (with_rest gs k es))
unfolding node_kind
equal-step w v u c p s left right q one now view g gs e k es node at stands both keeps answers leaves next =
    let is : GoingIs w p (goal g gs) e k = going-of w p (goal g gs) e w.store.now.state k stands.runs in
    let l : Tree = operand_tree (tables_in w.loaded) left in
    let r : Tree = operand_tree (tables_in w.loaded) right in
    let x : Evaluated = evaluated l e w.store.now.state in
    let y : Evaluated = evaluated r x.slots x.state in
    let it : g ≡ call (codes "=") (l ∷ r ∷ []) = call-of g (codes "=") (l ∷ r ∷ []) (kind-of-node w p s g gs e k (Node.Unify left right) at is node) in
    let all : Writes is.block (between w.store u w.arenas c) y.slots u.now.state =
    writes-then is.block w.store v u w.arenas c c y.slots y.slots y.state u.now.state both.writes (writes-kept is.block v u c y.slots keeps both.writes.holds) in
    subst (λ h. StandsAfter (moved w u c) now (goal_step view w.loaded.preds h e w.store.now.state (with_rest gs k es))) (sym it)
    (subst (λ h. StandsAfter (moved w u c) now h) (sym (equal-comes-to view w.loaded.preds l r gs e w.store.now.state k es))
    (equal-by w u c p s g gs e y.slots k es y.state (unified y.state x.tree y.tree) one now at stands.entries is all leaves answers next))

-- ---- an exception is raised

pub throw-step : {M : Type 0} (w : World M) (v : StoreView M) (c : ArenasView M) (p : Point) (s : Step) (operand : Operand) (q : Ref) (ball : Tree) (view : View) (g : GoalTree) (gs : GoalTrees) (e : Places) (k : List Frame) (es : List EntryData) →
    s.node ≡ Node.Throw operand → slice_get (steps_of w.loaded) p.place ≡ Some s → (stands : StandsGoing w p (goal g gs) e k es) →
    let x : Evaluated = evaluated (operand_tree (tables_in w.loaded) operand) e w.store.now.state in
    Evaluates (block_of w p g gs e k es stands) (between w.store v w.arenas c) x q → ball ≡ raised_for (value (bindings x.state) x.tree) →
    StandsAfter (moved w v c) (Now.Raising ball) (goal_step view w.loaded.preds g e w.store.now.state (with_rest gs k es))
unfolding node_kind
throw-step w v c p s operand q ball view g gs e k es node at stands value_is raised =
    let is : GoingIs w p (goal g gs) e k = going-of w p (goal g gs) e w.store.now.state k stands.runs in
    let t : Tree = operand_tree (tables_in w.loaded) operand in
    let x : Evaluated = evaluated t e w.store.now.state in
    let it : g ≡ call (codes "throw") (t ∷ []) = call-of g (codes "throw") (t ∷ []) (kind-of-node w p s g gs e k (Node.Throw operand) at is node) in
    subst (λ h. StandsAfter (moved w v c) (Now.Raising ball) (goal_step view w.loaded.preds h e w.store.now.state (with_rest gs k es))) (sym it)
    (subst (λ h. StandsAfter (moved w v c) (Now.Raising ball) h) (sym (throw-comes-to view w.loaded.preds t gs e w.store.now.state k es))
    (subst (λ b. Stands (moved w v c) (Now.Raising ball) (config (raising b) es)) raised
    (record { entries = lies-moved w v c is.block x.slots x.state es value_is.writes (stack-lies w es stands.entries); runs = raising_now })))
