-- A `catch` that an exception comes to.
use Rattle.std.proofs.Common.{◌≡◌, ℕ, zero, suc, ◌+◌, ◌<◌, Bool, true, false, List, ◌∷◌, Option, Some, None, length, refl, sym, ◌∙◌, ap, subst, arith}
use Rattle.std.specs.Prelude.{slice_get}
use Rattle.pi_terms.specs.Tree.{Tree}
use Rattle.pi_terms.specs.Places.{Places}
use Rattle.pi_terms.specs.Copy.{copy, new_variables}
use Rattle.pi_constraints.specs.State.{State, SpeaksBelow, next, with_new, IsState}
use Rattle.pi_engine_stands.specs.Rests.{Rests}
use Rattle.pi_constraints.specs.declared.store.Ref.{Ref}
use Rattle.pi_unify.proofs.KeepsLemmas.{keeps_then}
use Rattle.pi_constraints.specs.Store.{StoreView, Keeps, Stays, Gives, IsTerm}
use Rattle.pi_constraints.specs.Unify.{unified}
use Rattle.pi_constraints.specs.Evaluation.{Evaluated, evaluated, with_new_variables}
use Rattle.pi_core.specs.GoalTree.{GoalTree, no_goals, goal, goal_at, catch, children, child, child_count, count_goals, nodes}
use Rattle.pi_core.specs.GoalCells.{kind_of}
use Rattle.pi_unify.specs.Answers.{Answers}
use Rattle.pi_unify.specs.Copying.{with_variables}
use Rattle.pi_engine_arenas.specs.declared.arenas.Back.{Back}
use Rattle.pi_engine_arenas.specs.declared.arenas.Kind.{Kind}
use Rattle.pi_engine_code.specs.declared.code.Code.{Code}
use Rattle.pi_engine_code.specs.declared.code.Node.{Node}
use Rattle.pi_engine_code.specs.declared.code.Operand.{Operand}
use Rattle.pi_engine_code.specs.declared.code.Step.{Step}
use Rattle.pi_engine_arenas.specs.declared.frames.Point.{Point}
use Rattle.pi_engine_arenas.specs.declared.run.Now.{Now}
use Rattle.pi_engine_code.specs.Code.{Tables, tables_of, node_kind, operand_tree, StandsAt, child_place}
use Rattle.pi_engine_arenas.specs.Arenas.{ArenasView, DropsNewest, between}
use Rattle.pi_meaning.specs.Machine.Configuration.{Frame, Entry as EntryData, config, raising, settling}
use Rattle.pi_meaning.specs.Machine.Step.{raise_step, handler_step}
use Rattle.pi_engine_stands.specs.Here.{Block, SayLast, Holds}
use Rattle.pi_engine_stands.specs.Stands.{World, tables_in, steps_of, now_here, block_at, Agrees, GoalStands, KindIs, rules_kind, facts_kind, branches_kind, alternatives_kind, once_kind, not_kind, if_kind, guard_kind, apply_kind, collect_kind, count_kind, search_kind, catch_kind, exit_kind, StackStands, Stands, NowIs, raising_now, GoingIs}
use Rattle.pi_engine_stands.specs.Evaluates.{Writes, Evaluates}
use Rattle.pi_engine_stands.specs.Fails.{ComesTo, IsBack}
use Rattle.pi_engine_stands.specs.Raises.{TellsCaught}
use Rattle.pi_engine_code.proofs.CodeLemmas.{child_place-first, child_place-more}
use Rattle.pi_engine_stands.proofs.NodeLemmas.{kind-here}
use Rattle.pi_engine_stands.proofs.SlotsStand.{writes-then}
use Rattle.pi_engine_stands.proofs.EqualStands.{stack-moved, writes-kept, lies-moved}
use Rattle.pi_engine_stands.proofs.StandsLemmas.{moved}
use Rattle.pi_engine_stands.proofs.BackStand.{Popped, popped, popped-stands}
use Rattle.pi_engine_stands.proofs.EndsStand.{child-runs, child-found}
use Rattle.pi_engine_stands.proofs.WrittenGoals.{own-step, GoalWritten, goal-written}
use Rattle.pi_engine_stands.specs.Changes.{change}
use Rattle.pi_engine_stands.proofs.StacksLie.{stack-lies}
use Rattle.pi_engine_settle.specs.Settles.{LeftBy}
use Rattle.pi_meaning.proofs.CoreMeaning.LeftLemmas.{Left, left-news, left-then}
use Rattle.pi_engine_settle.proofs.LeftLemmas.{left-by, left-answered}
use Rattle.pi_engine_stands.specs.Settling.{GoesOnTo, NextCaught}
use Rattle.pi_engine_stands.proofs.SettlesFirst.{goes-on-to}

-- ---- the handler

catch-counts : (g handler : GoalTree) (ball : Tree) (n : ℕ) → n < 2 → n < child_count (catch g ball handler)
unfolding children count_goals
catch-counts g handler ball n h = omega (arith, h)

catch-first : (g handler : GoalTree) (ball : Tree) → child (catch g ball handler) 0 ≡ g
unfolding children goal_at
catch-first g handler ball = refl

catch-second : (g handler : GoalTree) (ball : Tree) → child (catch g ball handler) 1 ≡ handler
unfolding children goal_at
catch-second g handler ball = refl

catch-second-place : (g handler : GoalTree) (ball : Tree) (place : ℕ) → child_place (catch g ball handler) place 1 ≡ place + 1 + nodes g
catch-second-place g handler ball place =
    child_place-more (catch g ball handler) place 0 (catch-counts g handler ball 0 (omega arith))
    ∙ ap (λ n. n + nodes (child (catch g ball handler) 0)) (child_place-first (catch g ball handler) place) ∙ ap (λ h. place + 1 + nodes h) (catch-first g handler ball)

catch-says-second : (steps : List Step) (place : ℕ) (g handler : GoalTree) (ball : Tree) (last : Bool) → SayLast steps place (catch g ball handler) last → SayLast steps (place + 1 + nodes g) handler last
unfolding SayLast
catch-says-second steps place g handler ball last says = says.2

handler-runs : {M : Type 0} (w : World M) (base place frame : ℕ) (g handler : GoalTree) (ball : Tree) (e : Places) (k : List Frame) → GoalStands w.loaded (now_here w) base place frame (catch g ball handler) e k →
    Agrees w w.arenas.level (now_here w) → GoingIs w (record { place = child_place (catch g ball handler) place 1; count = 1; base = base; frame = frame }) (goal handler no_goals) e k
handler-runs w base place frame g handler ball e k own agrees =
    subst (λ h. GoingIs w (record { place = child_place (catch g ball handler) place 1; count = 1; base = base; frame = frame }) (goal h no_goals) e k) (catch-second g handler ball)
    (child-runs w base place frame 1 (catch g ball handler) e k own (catch-counts g handler ball 1 (omega arith))
    (subst (λ n. SayLast (steps_of w.loaded) n (child (catch g ball handler) 1) own.last) (sym (catch-second-place g handler ball place))
    (subst (λ h. SayLast (steps_of w.loaded) (place + 1 + nodes g) h own.last) (sym (catch-second g handler ball)) (catch-says-second (steps_of w.loaded) place g handler ball own.last own.goal.says))) agrees)

-- ---- the node of a `catch`

pub catch-node : (t : Tables) (node : Node) (g handler : GoalTree) (wanted : Tree) → node_kind t node ≡ kind_of (catch g wanted handler) → (operand : Operand) × (node ≡ Node.Catch operand) × (wanted ≡ operand_tree t operand)
unfolding node_kind kind_of
catch-node t Node.True g handler wanted h = absurd cc
catch-node t Node.Fail g handler wanted h = absurd cc
catch-node t Node.Tick g handler wanted h = absurd cc
catch-node t (Node.Seq n) g handler wanted h = absurd cc
catch-node t (Node.Alt n) g handler wanted h = absurd cc
catch-node t Node.If g handler wanted h = absurd cc
catch-node t Node.Not g handler wanted h = absurd cc
catch-node t Node.Once g handler wanted h = absurd cc
catch-node t (Node.Collect value into) g handler wanted h = absurd cc
catch-node t (Node.Count into) g handler wanted h = absurd cc
catch-node t (Node.Catch operand) g handler wanted h = (operand, refl, cc)
catch-node t (Node.Unify left right) g handler wanted h = absurd cc
catch-node t (Node.Throw ball) g handler wanted h = absurd cc
catch-node t (Node.BuiltIn built name first arity) g handler wanted h = absurd cc
catch-node t (Node.BuiltInValue built name first arity slot) g handler wanted h = absurd cc
catch-node t (Node.Constrain c name first arity) g handler wanted h = absurd cc
catch-node t (Node.DomainValue f name first arity slot) g handler wanted h = absurd cc
catch-node t (Node.Solve name first arity) g handler wanted h = absurd cc
catch-node t (Node.Call p first) g handler wanted h = absurd cc
catch-node t (Node.Apply p first into) g handler wanted h = absurd cc
catch-node t (Node.Value value) g handler wanted h = absurd cc
catch-node t (Node.CallTerm first arity) g handler wanted h = absurd cc

pub catch-at : {M : Type 0} (w : World M) (base place frame : ℕ) (g handler : GoalTree) (wanted : Tree) (e : Places) (k : List Frame) (s : Step) → GoalStands w.loaded (now_here w) base place frame (catch g wanted handler) e k →
    slice_get (steps_of w.loaded) place ≡ Some s → (operand : Operand) × (s.node ≡ Node.Catch operand) × (wanted ≡ operand_tree (tables_in w.loaded) operand)
catch-at w base place frame g handler wanted e k s own at =
    catch-node (tables_in w.loaded) s.node g handler wanted (kind-here (tables_in w.loaded) (steps_of w.loaded) (block_at w.loaded place base) place (catch g wanted handler) own.last s s.node own.goal at refl)

-- ---- new variables

new-last : (k : ℕ) (s : State) → with_new (with_new_variables k s) ≡ with_new_variables k (with_new s)
unfolding with_new_variables
new-last zero s = refl
new-last (suc k) s = new-last k (with_new s)

pub news-are : (k : ℕ) (s : State) → with_variables k s ≡ with_new_variables k s
unfolding with_variables with_new_variables
news-are zero s = refl
news-are (suc k) s = ap with_new (news-are k s) ∙ new-last k s

-- ---- what follows

-- what is next, by what the code answers: the handler, or the exception goes on
abbrev pub after_caught : Option Now → Tree → Now
after_caught None ball = Now.Raising ball
after_caught (Some now) ball = now

follows : {M : Type 0} (w : World M) (u : StoreView M) (c : ArenasView M) (base place frame at_child : ℕ) (g handler : GoalTree) (wanted ball : Tree) (e : Places) (k : List Frame) (es : List EntryData) (o : Option State) (next_now : Option Now) → StackStands w es →
    GoalStands w.loaded (now_here w) base place frame (catch g wanted handler) e k → Agrees w w.arenas.level (now_here w) → Writes (block_at w.loaded place base) (between w.store u w.arenas c) e u.now.state →
    at_child ≡ child_place (catch g wanted handler) place 1 → NextCaught w.store.now.state o u.now.state (record { place = at_child; count = 1; base = base; frame = frame }) next_now →
    Stands (moved w u c) (after_caught next_now ball) (config (handler_step handler (record { slots = e; state = w.store.now.state; frames = k }) ball o) es)
follows w u c base place frame at_child g handler wanted ball e k es o None stands own agrees writes child_is comes =
    subst (λ q. Stands (moved w u c) (Now.Raising ball) (config (handler_step handler (record { slots = e; state = w.store.now.state; frames = k }) ball q) es)) (sym comes)
    (record { entries = lies-moved w u c (block_at w.loaded place base) e u.now.state es writes (stack-lies w es stands); runs = raising_now })
follows w u c base place frame at_child g handler wanted ball e k es o (Some now) stands own agrees writes child_is comes =
    let point : Point = record { place = at_child; count = 1; base = base; frame = frame } in
    let it : GoalWritten (moved w u c) base place frame (catch g wanted handler) e k = goal-written w u c base place frame (catch g wanted handler) e e u.now.state k es stands own agrees writes in
    let runs : GoingIs (moved w u c) point (goal handler no_goals) e k =
    subst (λ n. GoingIs (moved w u c) (record { place = n; count = 1; base = base; frame = frame }) (goal handler no_goals) e k) (sym child_is)
    (handler-runs (moved w u c) base place frame g handler wanted e k it.goal it.agrees) in
    subst (λ q. Stands (moved w u c) now (config (handler_step handler (record { slots = e; state = w.store.now.state; frames = k }) ball q) es)) (sym comes.0)
    (record {
      entries = lies-moved w u c (block_at w.loaded place base) e u.now.state es writes (stack-lies w es stands);
      runs = goes-on-to (moved w u c) point w.store.now.state (goal handler no_goals) e k now comes.1 runs comes.2;
    })

caught-in : {M : Type 0} (w : World M) (u : StoreView M) (c : ArenasView M) (back : Back) (collected : List Tree) (from place at_child slots : ℕ) (code : Code) (s : Step) (kind : Kind) (ball : Tree) (next_now : Option Now) (now : Now) (y : EntryData) (es : List EntryData) →
    Popped w back collected from y es → kind ≡ Kind.Catch place → w.loaded.code ≡ code → ((r : Step) → slice_get code.steps.items place ≡ Some r → s ≡ r) →
    ((terms : ℕ → Option Tree) (h : GoalTree) → StandsAt (tables_of terms code) code.steps.items place h → 1 < child_count h → at_child ≡ child_place h place 1) →
    TellsCaught back s ball (record { place = at_child; count = 1; base = back.base; frame = back.frame }) next_now (change w (moved w u c) Now.Failing) → now ≡ after_caught next_now ball →
    KindIs w.loaded collected (now_here w) w.store.now.state back.base back.frame slots from (length collected) kind y → ComesTo (moved w u c) now (raise_step ball (y ∷ es))
unfolding raise_step
caught-in w u c back collected from place at_child slots code s kind ball next_now now y es it named is_code step finds tells follows_it (rules_kind is fits one) = absurd cc
caught-in w u c back collected from place at_child slots code s kind ball next_now now y es it named is_code step finds tells follows_it (facts_kind is fits one) = absurd cc
caught-in w u c back collected from place at_child slots code s kind ball next_now now y es it named is_code step finds tells follows_it (branches_kind is at here last count one) = absurd cc
caught-in w u c back collected from place at_child slots code s kind ball next_now now y es it named is_code step finds tells follows_it (alternatives_kind own are one) = absurd cc
caught-in w u c back collected from place at_child slots code s kind ball next_now now y es it named is_code step finds tells follows_it (once_kind own one) = absurd cc
caught-in w u c back collected from place at_child slots code s kind ball next_now now y es it named is_code step finds tells follows_it (not_kind own one) = absurd cc
caught-in w u c back collected from place at_child slots code s kind ball next_now now y es it named is_code step finds tells follows_it (if_kind own one) = absurd cc
caught-in w u c back collected from place at_child slots code s kind ball next_now now y es it named is_code step finds tells follows_it (guard_kind call fits one) = absurd cc
caught-in w u c back collected from place at_child slots code s kind ball next_now now y es it named is_code step finds tells follows_it (apply_kind own free args fit one) = absurd cc
caught-in w u c back collected from place at_child slots code s kind ball next_now now y es it named is_code step finds tells follows_it (collect_kind own order some) = absurd cc
caught-in w u c back collected from place at_child slots code s kind ball next_now now y es it named is_code step finds tells follows_it (count_kind own one) = absurd cc
caught-in w u c back collected from place at_child slots code s kind ball next_now now y es it named is_code step finds tells follows_it (search_kind own labels held fit order one) = absurd cc
caught-in w u c back collected from place at_child slots code s kind ball next_now now y es it named is_code step finds tells follows_it (catch_kind {place = at} {g = g} {handler = h} {wanted = wanted} {e = e} {k = k} own stays one) =
    let same : place ≡ at = cc in
    let stands : StackStands w es = popped-stands w back collected from y es it one in
    let there : (r : Step) × (slice_get (steps_of w.loaded) at ≡ Some r) = own-step w back.base at back.frame (catch g wanted h) e k own in
    let step_is : s ≡ there.0 = step there.0 (ap (λ q. slice_get q.steps.items place) (sym is_code) ∙ ap (slice_get (steps_of w.loaded)) same ∙ there.1) in
    let at_step : slice_get (steps_of w.loaded) at ≡ Some s = there.1 ∙ ap Some (sym step_is) in
    let child_is : at_child ≡ child_place (catch g wanted h) at 1 =
    child-found w.loaded (block_at w.loaded at back.base) at 1 at_child (catch g wanted h) own.last code is_code own.goal (catch-counts g h wanted 1 (omega arith))
    (subst (λ n. (terms : ℕ → Option Tree) (q : GoalTree) → StandsAt (tables_of terms code) code.steps.items n q → 1 < child_count q → at_child ≡ child_place q n 1) same finds) in
    let told : _ = tells at g h wanted e k at_step own stays it.state it.tables in
    subst (λ n. Stands (moved w u c) n (config (handler_step h (record { slots = e; state = w.store.now.state; frames = k }) ball (unified (with_new_variables (new_variables ball) w.store.now.state) (evaluated wanted e w.store.now.state).tree (copy (next w.store.now.state) ball))) es))
    (sym follows_it)
    (follows w u c back.base at back.frame at_child g h wanted ball e k es (unified (with_new_variables (new_variables ball) w.store.now.state) (evaluated wanted e w.store.now.state).tree (copy (next w.store.now.state) ball)) next_now stands own it.agrees
    told.0 child_is told.1)
caught-in w u c back collected from place at_child slots code s kind ball next_now now y es it named is_code step finds tells follows_it (exit_kind one) = absurd cc

pub caught : {M : Type 0} (w : World M) (b : ArenasView M) (u : StoreView M) (c : ArenasView M) (back : Back) (place at_child : ℕ) (code : Code) (s : Step) (ball : Tree) (next_now : Option Now) (now : Now) (y : EntryData) (es : List EntryData) →
    back.kind ≡ Kind.Catch place → w.loaded.code ≡ code → ((r : Step) → slice_get code.steps.items place ≡ Some r → s ≡ r) →
    ((terms : ℕ → Option Tree) (h : GoalTree) → StandsAt (tables_of terms code) code.steps.items place h → 1 < child_count h → at_child ≡ child_place h place 1) →
    IsBack w back y es → DropsNewest w.arenas b →
    TellsCaught back s ball (record { place = at_child; count = 1; base = back.base; frame = back.frame }) next_now (change (moved w w.store b) (moved w u c) Now.Failing) → now ≡ after_caught next_now ball → ComesTo (moved w u c) now (raise_step ball (y ∷ es))
caught w b u c back place at_child code s ball next_now now y es named is_code step finds it drops tells follows_it =
    let out : Popped (moved w w.store b) back w.arenas.collected it.from y es = popped w b back y es it drops in
    caught-in (moved w w.store b) u c back w.arenas.collected it.from place at_child back.blocks.slots code s back.kind ball next_now now y es out named is_code step finds tells follows_it out.kind

-- ---- what the code knows

pub same-operand : (node : Node) (a b : Operand) → node ≡ Node.Catch a → node ≡ Node.Catch b → a ≡ b
same-operand node a b h k = cc

pub equal-balls : (now : Now) (a b : Tree) → now ≡ Now.Raising a → now ≡ Now.Raising b → a ≡ b
equal-balls now a b h k = cc

-- the term of a `catch` is unified with a copy of the ball
pub record TriesToCatch {M : Type 0} (b : Block) (v u : StoreView M) (a a1 : ArenasView M) (wanted ball : Tree) (e : Places) (one : Bool) : Type 0 where
  pub writes : Writes b (between v u a a1) e u.now.state
  pub answers : Answers (unified (with_new_variables (new_variables ball) v.now.state) (evaluated wanted e v.now.state).tree (copy (next v.now.state) ball)) one u.now.state
  pub left : one ≡ true → LeftBy v.now.state u.now.state

pub caught-told : {M : Type 0} (b : Block) (v v0 v1 v2 u : StoreView M) (a a1 : ArenasView M) (wanted ball : Tree) (e : Places) (q r : Ref) (one : Bool) →
    evaluated wanted e v.now.state ≡ record { tree = (evaluated wanted e v.now.state).tree; slots = e; state = v.now.state } → Rests v.now.state → Stays v v0 → Holds v.now.terms a.blocks.slots b e →
    Evaluates b (between v0 v1 a a1) (evaluated wanted e v0.now.state) q →
    Gives v1 v2 (with_variables (new_variables ball) v1.now.state) r (copy (next v1.now.state) ball) → ((p : Ref) (t : Tree) → IsTerm v2 p t → SpeaksBelow (next v2.now.state) t) → Keeps v2 u →
    ((t x : Tree) → IsState v2.now.state → IsTerm v2 q t → IsTerm v2 r x → SpeaksBelow (next v2.now.state) t → SpeaksBelow (next v2.now.state) x → Answers (unified v2.now.state t x) one u.now.state) →
    TriesToCatch b v u a a1 wanted ball e one
caught-told b v v0 v1 v2 u a a1 wanted ball e q r one again rests stays holds_now value_is gives below keeps unifies =
    let x : Evaluated = evaluated wanted e v.now.state in
    let n : ℕ = new_variables ball in
    let raised : Tree = copy (next v.now.state) ball in
    let zeroth : v0.now.state ≡ v.now.state = stays.state in
    let value_here : Evaluates b (between v0 v1 a a1) x q = subst (λ s. Evaluates b (between v0 v1 a a1) (evaluated wanted e s) q) zeroth value_is in
    let first : v1.now.state ≡ v.now.state = value_here.writes.state ∙ ap (λ (y : Evaluated). y.state) again in
    let second : v2.now.state ≡ with_new_variables n v.now.state = gives.changes.state ∙ news-are n v1.now.state ∙ ap (with_new_variables n) first in
    let made : Left v.now.state v2.now.state = subst (Left v.now.state) (sym second) (left-news n v.now.state rests.calm.state rests.calm.settles) in
    let here : IsTerm v2 q x.tree = gives.changes.keeps.terms q x.tree value_here.term in
    let there : IsTerm v2 r raised = subst (λ m. IsTerm v2 r (copy m ball)) (ap next first) gives.term in
    let holds : Holds v1.now.terms a1.blocks.slots b e = subst (λ f. Holds v1.now.terms a1.blocks.slots b f) (ap (λ (y : Evaluated). y.slots) again) value_here.writes.holds in
    let answers : Answers (unified v2.now.state x.tree raised) one u.now.state = unifies x.tree raised made.state here there (below q x.tree here) (below r raised there) in
    record {
      writes = writes-then b v v0 u a a a1 e e v0.now.state u.now.state (writes-kept b v v0 a e stays.keeps holds_now)
          (writes-then b v0 v1 u a a1 a1 x.slots e x.state u.now.state value_here.writes (writes-kept b v1 u a1 e (keeps_then v1 v2 u gives.changes.keeps keeps) holds));
      answers = subst (λ s. Answers (unified s x.tree raised) one u.now.state) second answers;
      left = λ so. left-by v.now.state u.now.state rests.calm rests.none_made
          (left-then v.now.state v2.now.state u.now.state made (left-answered v2.now.state u.now.state x.tree raised one made.state made.settles (below q x.tree here) (below r raised there) answers so));
    }

-- what a `catch` answers, by whether its term unifies
pub next-caught : (before u : State) (o : Option State) (p : Point) (now : Now) (one : Bool) → one ≡ true → Answers o one u → (one ≡ true → LeftBy before u) → GoesOnTo before u p now → NextCaught before o u p (Some now)
next-caught before u None p now one so answers left goes = absurd cc
next-caught before u (Some r) p now one so answers left goes = (ap Some (sym answers.1), left so, goes)

pub none-caught : (before u : State) (o : Option State) (p : Point) (one : Bool) → one ≡ false → Answers o one u → NextCaught before o u p None
none-caught before u None p one fails answers = refl
none-caught before u (Some r) p one fails answers = absurd cc
