-- Goals that are entered by a level.
use Rattle.std.proofs.Common.{◌≡◌, ℕ, zero, suc, ◌+◌, ◌^◌, ◌≤◌, ◌<◌, Bool, false, ◌-◌, List, [], ◌∷◌, Option, Some, None, length, take, drop, refl, sym, ◌∙◌, ap, subst, arith}
use Rattle.std.specs.Prelude.{slice_get}
use Rattle.pi_terms.specs.Tree.{Tree}
use Rattle.pi_terms.specs.Places.{Places}
use Rattle.pi_meaning.specs.Shared.View.{View}
use Rattle.pi_constraints.specs.Store.{StoreView, Marks}
use Rattle.pi_core.specs.GoalTree.{GoalTree, GoalTrees, no_goals, goal, if_else, not, once, collect, count, children, child_count, count_goals, nodes}
use Rattle.pi_core.specs.GoalCells.{kind_of}
use Rattle.pi_engine_arenas.specs.declared.frames.Point.{Point}
use Rattle.pi_engine_arenas.specs.declared.arenas.Kind.{Kind}
use Rattle.pi_engine_arenas.specs.declared.arenas.Strict.{Strict}
use Rattle.pi_engine_code.specs.declared.code.Step.{Step}
use Rattle.pi_engine_code.specs.declared.code.Node.{Node}
use Rattle.pi_engine_arenas.specs.declared.run.Now.{Now}
use Rattle.pi_engine_code.specs.declared.code.Code.{Code}
use Rattle.pi_engine_code.specs.Code.{Tables, tables_of, node_kind, StandsAt, child_place}
use Rattle.pi_engine_arenas.specs.Frames.{PushesBehind}
use Rattle.pi_engine_arenas.specs.Arenas.{entry_at, slots_kept_by}
use Rattle.pi_engine_arenas.specs.declared.arenas.Entry.{Entry}
use Rattle.pi_meaning.specs.Machine.Configuration.{Frame, behind, config, Entry as EntryData, strict, once_level, not_level, if_level, list_level, number_level}
use Rattle.pi_meaning.specs.Machine.Step.{goal_step, run_goal, back_to, with_rest}
use Rattle.pi_meaning.specs.Machine.Shape.{open_level}
use Rattle.pi_engine_stands.specs.Here.{Block, SayLast, IsHere, Holds, Here, in_block, GoesOn}
use Rattle.pi_engine_stands.specs.Stands.{tables_in, World, Loaded, Stands, ends_of, values_between, steps_of, entries_of, now_here, GoalStands, KindIs, once_kind, not_kind, if_kind, collect_kind, count_kind, search_kind, StackIs, StackStands, StandsGoing, GoingIs, block_at}
use Rattle.pi_engine_stands.specs.Makes.{StandsAfter, level_kind}
use Rattle.pi_engine_stands.proofs.PointLemmas.{first-of, FirstOf, GoalAtPoint}
use Rattle.pi_engine_code.proofs.CodeLemmas.{child_place-first}
use Rattle.pi_engine_stands.proofs.NodeLemmas.{kind-here, if-of, not-of, once-of, collect-of, count-of}
use Rattle.pi_engine_stands.proofs.FramesStand.{with_new_frames, Entered, entered-behind, going-of, going-size, pushes-more, stack-framed, MoreFrames}
use Rattle.pi_engine_stands.proofs.LevelStands.{block-of-step, entered_level, level-entered}
use Rattle.pi_engine_stands.proofs.StandsLemmas.{entry-facts, EntryFacts, HasNoFound}

-- a goal that is entered stands at its place
stands-at : (l : Loaded) (h : Here) (base place frame : ℕ) (g : GoalTree) (e : Places) (k : List Frame) (b : Block) → block_at l place base ≡ b → Holds h.terms h.slots b e →
    GoalAtPoint (tables_in l) (steps_of l) h b place frame g k → GoalStands l h base place frame g e k
stands-at l h base place frame g e k b same holds at =
    record {
      last = at.own;
      goal = subst (λ x. IsHere (tables_in l) (steps_of l) x place g at.own) (sym same) at.here;
      behind = record {
        slots = subst (λ x. Holds h.terms h.slots x e) (sym same) holds;
        leaves = at.leaves;
        frames = subst (λ x. GoesOn (tables_in l) (steps_of l) h x at.leaves frame k) (sym same) at.frames;
      };
      leaves = at.own_leaves;
    }

pub goal-stands : {M : Type 0} (w : World M) (p : Point) (n : ℕ) (s : Step) (g : GoalTree) (e : Places) (k : List Frame) → slice_get (steps_of w.loaded) p.place ≡ Some s →
    Entered w p n g e k → GoalStands w.loaded (now_here w) p.base p.place n g e k
goal-stands w p n s g e k at in_it =
    stands-at w.loaded (now_here w) p.base p.place n g e k in_it.block (block-of-step w.loaded in_it.block p.place p.base g in_it.at.own s in_it.at.here in_it.base at) in_it.slots in_it.at

kept-some : {M : Type 0} (w : World M) (i : ℕ) (r : Option (Entry M)) → ((x : Entry M) → r ≡ Some x → EntryFacts w i x) → slots_kept_by r ≤ length w.arenas.blocks.slots
kept-some w i None facts = omega arith
kept-some w i (Some x) facts = (facts x refl).kept.within

zero-of : (n : ℕ) → n - n ≡ 0
zero-of n = omega arith

-- what the newest entry keeps is there
kept-by : {M : Type 0} (w : World M) (n to : ℕ) (es : List EntryData) → StackIs w n to es → slots_kept_by (entry_at (entries_of w) n) ≤ length w.arenas.blocks.slots
kept-by w zero to es stack = omega arith
kept-by w (suc i) to es stack = kept-some w i (slice_get (entries_of w) i) (λ x at. entry-facts w (suc i) to es i x stack (omega arith) at)

pub kept-within : {M : Type 0} (w : World M) (es : List EntryData) → StackStands w es → w.arenas.blocks.kept ≤ length w.arenas.blocks.slots
kept-within w es stands = omega (arith, stands.kept, kept-by w (length (entries_of w)) (length w.arenas.collected) es stands.stack)

-- The levels, each by its goal. What is pushed is known; only what the new entry stands for goes by the goal.
abbrev pub Pushed : {M : Type 0} → World M → Point → Step → List Point → ℕ → Type 0
Pushed w p s fs n = (slice_get (steps_of w.loaded) p.place ≡ Some s) × PushesBehind p s w.arenas.frames fs n

pub enter : {M : Type 0} (w : World M) (v : StoreView M) (mark : M) (p : Point) (s : Step) (fs : List Point) (n : ℕ) (kind : Kind) (y : EntryData) (g c : GoalTree) (cs gs : GoalTrees) (e : Places) (k : List Frame) (es : List EntryData) →
    Pushed w p s fs n → Marks w.order w.store v mark → children g ≡ goal c cs → ((own : Bool) → SayLast (steps_of w.loaded) p.place g own → SayLast (steps_of w.loaded) (p.place + 1) c false) →
    ends_of w.loaded kind p.base ≡ in_block (block_at w.loaded p.place p.base) → open_level zero (y ∷ es) ≡ suc (length es) →
    (GoalStands w.loaded (now_here (with_new_frames w fs)) p.base p.place n g e (behind gs k) →
    KindIs w.loaded w.arenas.collected (now_here (with_new_frames w fs)) w.store.now.state p.base n (length w.arenas.blocks.slots) (length w.arenas.collected) (length w.arenas.collected) kind y) → HasNoFound y →
    StandsGoing w p (goal g gs) e k es →
    Stands (entered_level (with_new_frames w fs) v mark p.base n kind) (Now.Going (record { place = p.place + 1; count = 1; base = p.base; frame = 0 })) (config (run_goal c e w.store.now.state []) (y ∷ es))
enter w v mark p s fs n kind y g c cs gs e k es pushed marks is says ends opens kind_is new stands =
    let going : GoingIs w p (goal g gs) e k = going-of w p (goal g gs) e w.store.now.state k stands.runs in
    let size : (s.size ≡ nodes g) × (p.place + nodes g < 2 ^ 32) = going-size w p s g gs e k pushed.0 going in
    let more : MoreFrames w.arenas.frames fs = pushes-more p s w.arenas.frames fs n (omega (arith, size.0, size.1)) pushed.1 in
    let in_it : Entered (with_new_frames w fs) p n g e (behind gs k) = entered-behind w p s g gs e k fs n pushed.0 more pushed.1 going in
    let entries : StackStands (with_new_frames w fs) es = stack-framed w fs es more stands.entries in
    subst (λ t. Stands (entered_level (with_new_frames w fs) v mark p.base n kind) (Now.Going (record { place = p.place + 1; count = 1; base = p.base; frame = 0 })) (config (run_goal c e t []) (y ∷ es))) marks.stays.state
    (level-entered (with_new_frames w fs) v mark p n (length w.arenas.collected) kind y s g c cs e (behind gs k) es entries marks pushed.0 in_it is (says in_it.at.own in_it.at.here.says) ends opens
    (kept-within w es stands.entries) (omega arith) entries.stack (kind_is (goal-stands (with_new_frames w fs) p n s g e (behind gs k) pushed.0 in_it)) new)

once-step : {M : Type 0} (w : World M) (v : StoreView M) (mark : M) (p : Point) (s : Step) (fs : List Point) (n : ℕ) (c : GoalTree) (gs : GoalTrees) (e : Places) (k : List Frame) (es : List EntryData) →
    Pushed w p s fs n → Marks w.order w.store v mark → StandsGoing w p (goal (once c) gs) e k es →
    Stands (entered_level (with_new_frames w fs) v mark p.base n (Kind.Strict (Strict.Once p.place))) (Now.Going (record { place = p.place + 1; count = 1; base = p.base; frame = 0 }))
    (config (run_goal c e w.store.now.state []) (strict once_level (back_to e w.store.now.state (behind gs k)) ∷ es))
unfolding children SayLast open_level
once-step w v mark p s fs n c gs e k es pushed marks stands =
    enter w v mark p s fs n (Kind.Strict (Strict.Once p.place)) (strict once_level (back_to e w.store.now.state (behind gs k))) (once c) c no_goals gs e k es pushed marks refl (λ own is. is.1) refl refl
    (λ is. once_kind is refl) tt stands

not-step : {M : Type 0} (w : World M) (v : StoreView M) (mark : M) (p : Point) (s : Step) (fs : List Point) (n : ℕ) (c : GoalTree) (gs : GoalTrees) (e : Places) (k : List Frame) (es : List EntryData) →
    Pushed w p s fs n → Marks w.order w.store v mark → StandsGoing w p (goal (not c) gs) e k es →
    Stands (entered_level (with_new_frames w fs) v mark p.base n (Kind.Strict (Strict.Not p.place))) (Now.Going (record { place = p.place + 1; count = 1; base = p.base; frame = 0 }))
    (config (run_goal c e w.store.now.state []) (strict not_level (back_to e w.store.now.state (behind gs k)) ∷ es))
unfolding children SayLast open_level
not-step w v mark p s fs n c gs e k es pushed marks stands =
    enter w v mark p s fs n (Kind.Strict (Strict.Not p.place)) (strict not_level (back_to e w.store.now.state (behind gs k))) (not c) c no_goals gs e k es pushed marks refl (λ own is. is.1) refl refl
    (λ is. not_kind is refl) tt stands

if-step : {M : Type 0} (w : World M) (v : StoreView M) (mark : M) (p : Point) (s : Step) (fs : List Point) (n : ℕ) (test c other : GoalTree) (gs : GoalTrees) (e : Places) (k : List Frame) (es : List EntryData) →
    Pushed w p s fs n → Marks w.order w.store v mark → StandsGoing w p (goal (if_else test c other) gs) e k es →
    Stands (entered_level (with_new_frames w fs) v mark p.base n (Kind.Strict (Strict.If p.place))) (Now.Going (record { place = p.place + 1; count = 1; base = p.base; frame = 0 }))
    (config (run_goal test e w.store.now.state []) (strict (if_level c other) (back_to e w.store.now.state (behind gs k)) ∷ es))
unfolding children SayLast open_level
if-step w v mark p s fs n test c other gs e k es pushed marks stands =
    enter w v mark p s fs n (Kind.Strict (Strict.If p.place)) (strict (if_level c other) (back_to e w.store.now.state (behind gs k))) (if_else test c other) test (goal c (goal other no_goals)) gs e k es pushed marks refl (λ own is. is.1) refl refl
    (λ is. if_kind is refl) tt stands

collect-step : {M : Type 0} (w : World M) (v : StoreView M) (mark : M) (p : Point) (s : Step) (fs : List Point) (n value into : ℕ) (c : GoalTree) (gs : GoalTrees) (e : Places) (k : List Frame) (es : List EntryData) →
    Pushed w p s fs n → Marks w.order w.store v mark → StandsGoing w p (goal (collect c value into) gs) e k es →
    Stands (entered_level (with_new_frames w fs) v mark p.base n (Kind.Strict (Strict.Collect p.place (length w.arenas.collected)))) (Now.Going (record { place = p.place + 1; count = 1; base = p.base; frame = 0 }))
    (config (run_goal c e w.store.now.state []) (strict (list_level value into []) (back_to e w.store.now.state (behind gs k)) ∷ es))
unfolding children SayLast open_level
collect-step w v mark p s fs n value into c gs e k es pushed marks stands =
    let top : ℕ = length w.arenas.collected in
    let none : values_between w.arenas.collected top top ≡ [] = ap (λ m. take m (drop top w.arenas.collected)) (zero-of top) in
    enter w v mark p s fs n (Kind.Strict (Strict.Collect p.place top)) (strict (list_level value into []) (back_to e w.store.now.state (behind gs k))) (collect c value into) c no_goals gs e k es pushed marks refl (λ own is. is.1) refl refl
    (λ is. subst (λ got. KindIs w.loaded w.arenas.collected (now_here (with_new_frames w fs)) w.store.now.state p.base n (length w.arenas.blocks.slots) top top (Kind.Strict (Strict.Collect p.place top)) (strict (list_level value into got) (back_to e w.store.now.state (behind gs k)))) none
    (collect_kind is (omega arith) (omega arith))) tt stands

count-step : {M : Type 0} (w : World M) (v : StoreView M) (mark : M) (p : Point) (s : Step) (fs : List Point) (n into : ℕ) (c : GoalTree) (gs : GoalTrees) (e : Places) (k : List Frame) (es : List EntryData) →
    Pushed w p s fs n → Marks w.order w.store v mark → StandsGoing w p (goal (count c into) gs) e k es →
    Stands (entered_level (with_new_frames w fs) v mark p.base n (Kind.Strict (Strict.Count p.place 0))) (Now.Going (record { place = p.place + 1; count = 1; base = p.base; frame = 0 }))
    (config (run_goal c e w.store.now.state []) (strict (number_level into 0) (back_to e w.store.now.state (behind gs k)) ∷ es))
unfolding children SayLast open_level
count-step w v mark p s fs n into c gs e k es pushed marks stands =
    enter w v mark p s fs n (Kind.Strict (Strict.Count p.place 0)) (strict (number_level into 0) (back_to e w.store.now.state (behind gs k))) (count c into) c no_goals gs e k es pushed marks refl (λ own is. is.1) refl refl
    (λ is. count_kind is refl) tt stands

some-is : {a b : Kind} → Some a ≡ Some b → a ≡ b
some-is h = cc

-- all of them, by the node
pub level-step : {M : Type 0} (w : World M) (v : StoreView M) (mark : M) (p : Point) (s : Step) (fs : List Point) (n : ℕ) (node : Node) (kind : Kind) (view : View) (g : GoalTree) (gs : GoalTrees) (e : Places) (k : List Frame) (es : List EntryData) →
    Pushed w p s fs n → Marks w.order w.store v mark → s.node ≡ node → level_kind p.place (length w.arenas.collected) node ≡ Some kind → StandsGoing w p (goal g gs) e k es →
    StandsAfter (entered_level (with_new_frames w fs) v mark p.base n kind) (Now.Going (record { place = p.place + 1; count = 1; base = p.base; frame = 0 })) (goal_step view w.loaded.preds g e w.store.now.state (with_rest gs k es))
unfolding node_kind goal_step
level-step w v mark p s fs n Node.True kind view g gs e k es pushed marks is level stands = absurd cc
level-step w v mark p s fs n Node.Fail kind view g gs e k es pushed marks is level stands = absurd cc
level-step w v mark p s fs n Node.Tick kind view g gs e k es pushed marks is level stands = absurd cc
level-step w v mark p s fs n (Node.Seq m) kind view g gs e k es pushed marks is level stands = absurd cc
level-step w v mark p s fs n (Node.Alt m) kind view g gs e k es pushed marks is level stands = absurd cc
level-step w v mark p s fs n Node.If kind view g gs e k es pushed marks is level stands =
    let going : GoingIs w p (goal g gs) e k = going-of w p (goal g gs) e w.store.now.state k stands.runs in
    let shown : node_kind (tables_in w.loaded) Node.If ≡ kind_of g =
    kind-here (tables_in w.loaded) (steps_of w.loaded) going.block p.place g _ s Node.If (first-of (tables_in w.loaded) (steps_of w.loaded) going.block p.place p.count g gs going.value going.last going.goals).here pushed.0 is in
    let it : _ = if-of g shown in
    subst (λ r. StandsAfter (entered_level (with_new_frames w fs) v mark p.base n r) (Now.Going (record { place = p.place + 1; count = 1; base = p.base; frame = 0 })) (goal_step view w.loaded.preds g e w.store.now.state (with_rest gs k es))) (some-is level)
    (subst (λ r. StandsAfter (entered_level (with_new_frames w fs) v mark p.base n (Kind.Strict (Strict.If p.place))) (Now.Going (record { place = p.place + 1; count = 1; base = p.base; frame = 0 })) (goal_step view w.loaded.preds r e w.store.now.state (with_rest gs k es))) (sym it.3)
    (if-step w v mark p s fs n it.0 it.1 it.2 gs e k es pushed marks (subst (λ r. StandsGoing w p (goal r gs) e k es) it.3 stands)))
level-step w v mark p s fs n Node.Not kind view g gs e k es pushed marks is level stands =
    let going : GoingIs w p (goal g gs) e k = going-of w p (goal g gs) e w.store.now.state k stands.runs in
    let shown : node_kind (tables_in w.loaded) Node.Not ≡ kind_of g =
    kind-here (tables_in w.loaded) (steps_of w.loaded) going.block p.place g _ s Node.Not (first-of (tables_in w.loaded) (steps_of w.loaded) going.block p.place p.count g gs going.value going.last going.goals).here pushed.0 is in
    let it : _ = not-of g shown in
    subst (λ r. StandsAfter (entered_level (with_new_frames w fs) v mark p.base n r) (Now.Going (record { place = p.place + 1; count = 1; base = p.base; frame = 0 })) (goal_step view w.loaded.preds g e w.store.now.state (with_rest gs k es))) (some-is level)
    (subst (λ r. StandsAfter (entered_level (with_new_frames w fs) v mark p.base n (Kind.Strict (Strict.Not p.place))) (Now.Going (record { place = p.place + 1; count = 1; base = p.base; frame = 0 })) (goal_step view w.loaded.preds r e w.store.now.state (with_rest gs k es))) (sym it.1)
    (not-step w v mark p s fs n it.0 gs e k es pushed marks (subst (λ r. StandsGoing w p (goal r gs) e k es) it.1 stands)))
level-step w v mark p s fs n Node.Once kind view g gs e k es pushed marks is level stands =
    let going : GoingIs w p (goal g gs) e k = going-of w p (goal g gs) e w.store.now.state k stands.runs in
    let shown : node_kind (tables_in w.loaded) Node.Once ≡ kind_of g =
    kind-here (tables_in w.loaded) (steps_of w.loaded) going.block p.place g _ s Node.Once (first-of (tables_in w.loaded) (steps_of w.loaded) going.block p.place p.count g gs going.value going.last going.goals).here pushed.0 is in
    let it : _ = once-of g shown in
    subst (λ r. StandsAfter (entered_level (with_new_frames w fs) v mark p.base n r) (Now.Going (record { place = p.place + 1; count = 1; base = p.base; frame = 0 })) (goal_step view w.loaded.preds g e w.store.now.state (with_rest gs k es))) (some-is level)
    (subst (λ r. StandsAfter (entered_level (with_new_frames w fs) v mark p.base n (Kind.Strict (Strict.Once p.place))) (Now.Going (record { place = p.place + 1; count = 1; base = p.base; frame = 0 })) (goal_step view w.loaded.preds r e w.store.now.state (with_rest gs k es))) (sym it.1)
    (once-step w v mark p s fs n it.0 gs e k es pushed marks (subst (λ r. StandsGoing w p (goal r gs) e k es) it.1 stands)))
level-step w v mark p s fs n (Node.Collect value into) kind view g gs e k es pushed marks is level stands =
    let going : GoingIs w p (goal g gs) e k = going-of w p (goal g gs) e w.store.now.state k stands.runs in
    let shown : node_kind (tables_in w.loaded) (Node.Collect value into) ≡ kind_of g =
    kind-here (tables_in w.loaded) (steps_of w.loaded) going.block p.place g _ s (Node.Collect value into) (first-of (tables_in w.loaded) (steps_of w.loaded) going.block p.place p.count g gs going.value going.last going.goals).here pushed.0 is in
    let it : _ = collect-of g value into shown in
    subst (λ r. StandsAfter (entered_level (with_new_frames w fs) v mark p.base n r) (Now.Going (record { place = p.place + 1; count = 1; base = p.base; frame = 0 })) (goal_step view w.loaded.preds g e w.store.now.state (with_rest gs k es))) (some-is level)
    (subst (λ r. StandsAfter (entered_level (with_new_frames w fs) v mark p.base n (Kind.Strict (Strict.Collect p.place (length w.arenas.collected)))) (Now.Going (record { place = p.place + 1; count = 1; base = p.base; frame = 0 })) (goal_step view w.loaded.preds r e w.store.now.state (with_rest gs k es))) (sym it.1)
    (collect-step w v mark p s fs n value into it.0 gs e k es pushed marks (subst (λ r. StandsGoing w p (goal r gs) e k es) it.1 stands)))
level-step w v mark p s fs n (Node.Count into) kind view g gs e k es pushed marks is level stands =
    let going : GoingIs w p (goal g gs) e k = going-of w p (goal g gs) e w.store.now.state k stands.runs in
    let shown : node_kind (tables_in w.loaded) (Node.Count into) ≡ kind_of g =
    kind-here (tables_in w.loaded) (steps_of w.loaded) going.block p.place g _ s (Node.Count into) (first-of (tables_in w.loaded) (steps_of w.loaded) going.block p.place p.count g gs going.value going.last going.goals).here pushed.0 is in
    let it : _ = count-of g into shown in
    subst (λ r. StandsAfter (entered_level (with_new_frames w fs) v mark p.base n r) (Now.Going (record { place = p.place + 1; count = 1; base = p.base; frame = 0 })) (goal_step view w.loaded.preds g e w.store.now.state (with_rest gs k es))) (some-is level)
    (subst (λ r. StandsAfter (entered_level (with_new_frames w fs) v mark p.base n (Kind.Strict (Strict.Count p.place 0))) (Now.Going (record { place = p.place + 1; count = 1; base = p.base; frame = 0 })) (goal_step view w.loaded.preds r e w.store.now.state (with_rest gs k es))) (sym it.1)
    (count-step w v mark p s fs n into it.0 gs e k es pushed marks (subst (λ r. StandsGoing w p (goal r gs) e k es) it.1 stands)))
level-step w v mark p s fs n (Node.Catch ball) kind view g gs e k es pushed marks is level stands = absurd cc
level-step w v mark p s fs n (Node.Unify left right) kind view g gs e k es pushed marks is level stands = absurd cc
level-step w v mark p s fs n (Node.Throw ball) kind view g gs e k es pushed marks is level stands = absurd cc
level-step w v mark p s fs n (Node.BuiltIn built name first arity) kind view g gs e k es pushed marks is level stands = absurd cc
level-step w v mark p s fs n (Node.BuiltInValue built name first arity slot) kind view g gs e k es pushed marks is level stands = absurd cc
level-step w v mark p s fs n (Node.Constrain c name first arity) kind view g gs e k es pushed marks is level stands = absurd cc
level-step w v mark p s fs n (Node.DomainValue f name first arity slot) kind view g gs e k es pushed marks is level stands = absurd cc
level-step w v mark p s fs n (Node.Solve name first arity) kind view g gs e k es pushed marks is level stands = absurd cc
level-step w v mark p s fs n (Node.Call q first) kind view g gs e k es pushed marks is level stands = absurd cc
level-step w v mark p s fs n (Node.Apply q first into) kind view g gs e k es pushed marks is level stands = absurd cc
level-step w v mark p s fs n (Node.Value value) kind view g gs e k es pushed marks is level stands = absurd cc
level-step w v mark p s fs n (Node.CallTerm first arity) kind view g gs e k es pushed marks is level stands = absurd cc

-- ---- the point of a level's goal

has-child : (t : Tables) (place collected : ℕ) (node : Node) (kind : Kind) (g : GoalTree) → level_kind place collected node ≡ Some kind → node_kind t node ≡ kind_of g → 0 < child_count g
unfolding node_kind children count_goals
has-child t place collected Node.True kind g level shown = absurd cc
has-child t place collected Node.Fail kind g level shown = absurd cc
has-child t place collected Node.Tick kind g level shown = absurd cc
has-child t place collected (Node.Seq m) kind g level shown = absurd cc
has-child t place collected (Node.Alt m) kind g level shown = absurd cc
has-child t place collected Node.If kind g level shown = let it : _ = if-of g shown in subst (λ r. 0 < child_count r) (sym it.3) (omega arith)
has-child t place collected Node.Not kind g level shown = let it : _ = not-of g shown in subst (λ r. 0 < child_count r) (sym it.1) (omega arith)
has-child t place collected Node.Once kind g level shown = let it : _ = once-of g shown in subst (λ r. 0 < child_count r) (sym it.1) (omega arith)
has-child t place collected (Node.Collect value into) kind g level shown = let it : _ = collect-of g value into shown in subst (λ r. 0 < child_count r) (sym it.1) (omega arith)
has-child t place collected (Node.Count into) kind g level shown = let it : _ = count-of g into shown in subst (λ r. 0 < child_count r) (sym it.1) (omega arith)
has-child t place collected (Node.Catch ball) kind g level shown = absurd cc
has-child t place collected (Node.Unify left right) kind g level shown = absurd cc
has-child t place collected (Node.Throw ball) kind g level shown = absurd cc
has-child t place collected (Node.BuiltIn built name first arity) kind g level shown = absurd cc
has-child t place collected (Node.BuiltInValue built name first arity slot) kind g level shown = absurd cc
has-child t place collected (Node.Constrain c name first arity) kind g level shown = absurd cc
has-child t place collected (Node.DomainValue f name first arity slot) kind g level shown = absurd cc
has-child t place collected (Node.Solve name first arity) kind g level shown = absurd cc
has-child t place collected (Node.Call q first) kind g level shown = absurd cc
has-child t place collected (Node.Apply q first into) kind g level shown = absurd cc
has-child t place collected (Node.Value value) kind g level shown = absurd cc
has-child t place collected (Node.CallTerm first arity) kind g level shown = absurd cc

-- where a goal that has one begins its first child goal
pub first-point-of : {M : Type 0} (w : World M) (p : Point) (s : Step) (g : GoalTree) (gs : GoalTrees) (e : Places) (k : List Frame) (es : List EntryData) (code : Code) (at_child : ℕ) (now : Now) →
    w.loaded.code ≡ code → slice_get (steps_of w.loaded) p.place ≡ Some s → StandsGoing w p (goal g gs) e k es → 0 < child_count g →
    ((terms : ℕ → Option Tree) (h : GoalTree) → StandsAt (tables_of terms code) code.steps.items p.place h → 0 < child_count h → at_child ≡ child_place h p.place 0) →
    now ≡ Now.Going (record { place = at_child; count = 1; base = p.base; frame = 0 }) →
    Now.Going (record { place = p.place + 1; count = 1; base = p.base; frame = 0 }) ≡ now
first-point-of w p s g gs e k es code at_child now is_code at stands some child is =
    let going : GoingIs w p (goal g gs) e k = going-of w p (goal g gs) e w.store.now.state k stands.runs in
    let first : FirstOf (tables_in w.loaded) (steps_of w.loaded) going.block p.place p.count g gs going.value going.last =
    first-of (tables_in w.loaded) (steps_of w.loaded) going.block p.place p.count g gs going.value going.last going.goals in
    let stand : StandsAt (tables_of w.loaded.terms code) code.steps.items p.place g =
    subst (λ c. StandsAt (tables_of w.loaded.terms c) c.steps.items p.place g) is_code first.here.stands in
    ap (λ n. Now.Going (record { place = n; count = 1; base = p.base; frame = 0 })) (sym (child w.loaded.terms g stand some ∙ child_place-first g p.place)) ∙ sym is

pub first-point : {M : Type 0} (w : World M) (p : Point) (s : Step) (kind : Kind) (g : GoalTree) (gs : GoalTrees) (e : Places) (k : List Frame) (es : List EntryData) (code : Code) (at_child : ℕ) (now : Now) →
    w.loaded.code ≡ code → slice_get (steps_of w.loaded) p.place ≡ Some s → StandsGoing w p (goal g gs) e k es → level_kind p.place (length w.arenas.collected) s.node ≡ Some kind →
    ((terms : ℕ → Option Tree) (h : GoalTree) → StandsAt (tables_of terms code) code.steps.items p.place h → 0 < child_count h → at_child ≡ child_place h p.place 0) →
    now ≡ Now.Going (record { place = at_child; count = 1; base = p.base; frame = 0 }) →
    Now.Going (record { place = p.place + 1; count = 1; base = p.base; frame = 0 }) ≡ now
first-point w p s kind g gs e k es code at_child now is_code at stands level child is =
    let going : GoingIs w p (goal g gs) e k = going-of w p (goal g gs) e w.store.now.state k stands.runs in
    let first : FirstOf (tables_in w.loaded) (steps_of w.loaded) going.block p.place p.count g gs going.value going.last =
    first-of (tables_in w.loaded) (steps_of w.loaded) going.block p.place p.count g gs going.value going.last going.goals in
    let shown : node_kind (tables_in w.loaded) s.node ≡ kind_of g = kind-here (tables_in w.loaded) (steps_of w.loaded) going.block p.place g first.own s s.node first.here at refl in
    let some : 0 < child_count g = has-child (tables_in w.loaded) p.place (length w.arenas.collected) s.node kind g level shown in
    first-point-of w p s g gs e k es code at_child now is_code at stands some child is
