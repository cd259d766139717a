-- A function's value that is evaluated: then it is an answer of the level that waits for it.
use Rattle.std.proofs.Common.{◌≡◌, ℕ, zero, suc, ◌<◌, Bool, true, List, [], ◌∷◌, Some, length, refl, sym, ◌∙◌, ap, subst}
use Rattle.std.specs.Prelude.{slice_get}
use Rattle.pi_terms.specs.Tree.{Tree}
use Rattle.pi_terms.specs.Places.{Places}
use Rattle.pi_constraints.specs.State.{State}
use Rattle.pi_engine_stands.specs.Rests.{Rests}
use Rattle.pi_constraints.specs.Store.{Terms, StoreView, IsTerm, Extend}
use Rattle.pi_meaning.specs.Shared.View.{View}
use Rattle.pi_core.specs.CoreTree.{PredTree}
use Rattle.pi_core.specs.GoalTree.{GoalTree, no_goals, goal}
use Rattle.pi_constraints.specs.Evaluation.{Evaluated, evaluated}
use Rattle.pi_core.specs.declared.core_program.NameSlot.{NameSlot}
use Rattle.pi_constraints.specs.declared.store.Ref.{Ref}
use Rattle.pi_engine_code.specs.declared.code.Code.{Code}
use Rattle.pi_engine_code.specs.declared.code.Node.{Node}
use Rattle.pi_engine_code.specs.declared.code.Operand.{Operand}
use Rattle.pi_engine_code.specs.declared.code.Step.{Step}
use Rattle.pi_engine_arenas.specs.declared.frames.Point.{Point}
use Rattle.pi_engine_arenas.specs.declared.arenas.Kind.{Kind}
use Rattle.pi_engine_arenas.specs.declared.arenas.Strict.{Strict as StrictKind}
use Rattle.pi_engine_arenas.specs.declared.run.Now.{Now}
use Rattle.pi_engine_arenas.specs.Arenas.{ArenasView, entry_at, between}
use Rattle.pi_engine_arenas.specs.declared.arenas.Entry.{Entry}
use Rattle.pi_engine_code.specs.Code.{Tables, tables_of, operand_tree}
use Rattle.pi_meaning.specs.Machine.Configuration.{Frame, give, Entry as EntryData, Config, config, going, Now as NowData, Strict, strict, catch_level, Back as BackData}
use Rattle.pi_meaning.specs.Machine.Step.{Open, step, silently, frame_step, newest_open}
use Rattle.pi_meaning.specs.Machine.Shape.{IsBalanced, open_level}
use Rattle.pi_engine_stands.specs.Here.{Block, Here, with_value, Holds, IsReadable, GoesOn, answers, gives, returns_to_end, more_of_block, returns_to, valued}
use Rattle.pi_engine_stands.specs.Stands.{World, Loaded, tables_in, steps_of, entries_of, ends_of, entry_ends, level_ends, back_here, now_here, Agrees, KindIs, once_kind, not_kind, if_kind, guard_kind, apply_kind, collect_kind, count_kind, search_kind, catch_kind, StackStands, StackBelow, NowIs, going_now, GoingIs, settling_now}
use Rattle.pi_engine_arenas.specs.Frames.{slot_number}
use Rattle.pi_engine_stands.specs.Evaluates.{Evaluates}
use Rattle.pi_engine_stands.specs.Goes.{AtGoal}
use Rattle.pi_engine_stands.specs.Makes.{SilentlyTo, already, one_more}
use Rattle.pi_engine_stands.proofs.StandsLemmas.{moved}
use Rattle.pi_engine_stands.proofs.EqualStands.{node-readable, stack-moved, going-moved}
use Rattle.pi_engine_stands.proofs.OpenStand.{OpenAt, nothing_at, strict_at, catch_at, open-at}
use Rattle.pi_engine_stands.proofs.ValueHere.{ValueAt, value-at}
use Rattle.pi_engine_stands.proofs.RestLemmas.{evaluated-rests}
use Rattle.pi_engine_stands.proofs.StacksLie.{lies-stand}
use Rattle.pi_engine_stands.proofs.SettlesFirst.{settles-first, silently-then}

-- ---- the level that waits for the value

-- behind a value nothing is left, so the newest open level goes by a value
value-ends : (t : Tables) (steps : List Step) (h : Here) (b : Block) (leaves : Bool) (n : ℕ) (k : List Frame) → leaves ≡ true → k ≡ [] → GoesOn t steps h b leaves n k → (base : ℕ) × (h.ends ≡ with_value base)
value-ends t steps h b leaves n k out none (answers is) = absurd cc
value-ends t steps h b leaves n k out none (gives base is lies) = (base, is)
value-ends t steps h b leaves n k out none (returns_to_end d is lies holds) = absurd cc
value-ends t steps h b leaves n k out none (more_of_block p gs value last on k' at same earlier some here left rest) = absurd cc
value-ends t steps h b leaves n k out none (returns_to p d gs value last on k' at same lies earlier some holds here left rest) = absurd cc

-- such a level is that of a function's call
call-kind : (l : Loaded) (c : List Tree) (h : Here) (t : State) (base frame slots from to start : ℕ) (kind : Kind) (s : Strict) (b : BackData) → ends_of l kind base ≡ with_value start → KindIs l c h t base frame slots from to kind (strict s b) →
    (place : ℕ) × (caller : ℕ) × (kind ≡ Kind.Strict (StrictKind.Apply place caller))
call-kind l c h t base frame slots from to start kind s b ends (once_kind own one) = absurd cc
call-kind l c h t base frame slots from to start kind s b ends (not_kind own one) = absurd cc
call-kind l c h t base frame slots from to start kind s b ends (if_kind own one) = absurd cc
call-kind l c h t base frame slots from to start kind s b ends (guard_kind call over one) = absurd cc
call-kind l c h t base frame slots from to start kind s b ends (apply_kind {place = place} {caller = caller} own free args fit one) = (place, caller, refl)
call-kind l c h t base frame slots from to start kind s b ends (collect_kind own order some) = absurd cc
call-kind l c h t base frame slots from to start kind s b ends (count_kind own one) = absurd cc
call-kind l c h t base frame slots from to start kind s b ends (search_kind own labels held fit order one) = absurd cc

no-catch : (l : Loaded) (c : List Tree) (h : Here) (t : State) (base frame slots from to start : ℕ) (kind : Kind) (ball : Tree) (handler : GoalTree) (b : BackData) → ends_of l kind base ≡ with_value start → KindIs l c h t base frame slots from to kind (catch_level ball handler b) → ⊥
no-catch l c h t base frame slots from to start kind ball handler b ends (catch_kind own stays one) = cc

-- the call's entry
pub record CallLevel {M : Type 0} (w : World M) : Type 0 where
  pub i : ℕ
  pub x : Entry M
  pub place : ℕ
  pub caller : ℕ
  pub level : w.arenas.level ≡ suc i
  pub at : slice_get (entries_of w) i ≡ Some x
  pub named : x.back.kind ≡ Kind.Strict (StrictKind.Apply place caller)

-- how the level of an entry ends, by its number
ends-there : {M : Type 0} (w : World M) (level start i : ℕ) (x : Entry M) → level_ends w level ≡ with_value start → level ≡ suc i → slice_get (entries_of w) i ≡ Some x → ends_of w.loaded x.back.kind x.back.base ≡ with_value start
ends-there w level start i x ends is at = sym (ap (λ n. entry_ends w.loaded (entry_at (entries_of w) n)) is ∙ ap (entry_ends w.loaded) at) ∙ ends

call-level-in : {M : Type 0} (w : World M) (level start : ℕ) (o : Open) → level_ends w level ≡ with_value start → w.arenas.level ≡ level → OpenAt w (length w.arenas.collected) o level → CallLevel w
call-level-in w level start o ends is_level nothing_at = absurd cc
call-level-in w level start o ends is_level (strict_at i from x above s b fs at is below) =
    let call : _ =
    call-kind w.loaded w.arenas.collected (back_here w x) _ x.back.base x.back.frame x.back.blocks.slots from (length w.arenas.collected) start x.back.kind s b (ends-there w level start i x ends refl at) is.kind in
    record { i = i; x = x; place = call.0; caller = call.1; level = is_level; at = at; named = call.2 }
call-level-in w level start o ends is_level (catch_at i from x above ball handler b fs at is below) =
    absurd (no-catch w.loaded w.arenas.collected (back_here w x) _ x.back.base x.back.frame x.back.blocks.slots from (length w.arenas.collected) start x.back.kind ball handler b (ends-there w level start i x ends refl at) is.kind)

call-level : {M : Type 0} (w : World M) (start : ℕ) (es : List EntryData) → StackStands w es → IsBalanced zero es → level_ends w w.arenas.level ≡ with_value start → CallLevel w
call-level w start es stands balanced ends =
    call-level-in w (open_level zero es) start (newest_open zero es) (subst (λ n. level_ends w n ≡ with_value start) stands.level ends) stands.level
    (open-at w (length (entries_of w)) (length w.arenas.collected) zero es stands.stack balanced)

-- ---- the value that runs

-- what is known of a value at a point, with the block that it is read in
record ValueThere {M : Type 0} (w : World M) (p : Point) (s : Step) (operand : Operand) (c : Config) : Type 0 where
  pub e : Places
  pub k : List Frame
  pub es : List EntryData
  pub runs : GoingIs w p no_goals e k
  pub stands : StackStands w es
  pub balanced : IsBalanced zero es
  pub value : ValueAt (tables_in w.loaded) runs.block s operand runs.value
  pub start : ℕ
  pub ends : level_ends w w.arenas.level ≡ with_value start
  pub steps : (v : View) (names : List NameSlot) → SilentlyTo v w.loaded.preds names c (config (going no_goals e w.store.now.state (give (Some (operand_tree (tables_in w.loaded) operand)) ∷ [])) es)

value-by : {M : Type 0} (w : World M) (p : Point) (s : Step) (operand : Operand) (x : NowData) (es : List EntryData) (e : Places) (k : List Frame) → slice_get (steps_of w.loaded) p.place ≡ Some s → 0 < p.count → s.node ≡ Node.Value operand → StackStands w es → IsBalanced zero es →
    GoingIs w p no_goals e k → ((v : View) (names : List NameSlot) → SilentlyTo v w.loaded.preds names (config x es) (config (going no_goals e w.store.now.state k) es)) → ValueThere w p s operand (config x es)
value-by w p s operand x es e k at some node stands balanced is steps =
    let t : Tree = operand_tree (tables_in w.loaded) operand in
    let value : ValueAt (tables_in w.loaded) is.block s operand is.value = value-at (tables_in w.loaded) (steps_of w.loaded) is.block p.place p.count is.value is.last s operand is.goals some at node in
    let left : (is.behind.leaves ≡ true) × (is.rest ≡ []) = is.leaves.is_value t value.is in
    let waits : _ = value-ends (tables_in w.loaded) (steps_of w.loaded) (now_here w) is.block is.behind.leaves p.frame is.rest left.0 left.1 is.behind.frames in
    record {
      e = e;
      k = k;
      es = es;
      runs = is;
      stands = stands;
      balanced = balanced;
      value = value;
      start = waits.0;
      ends = waits.1;
      steps = λ v names. subst (λ r. SilentlyTo v w.loaded.preds names (config x es) (config (going no_goals e w.store.now.state r) es)) (is.frames ∙ ap (λ u. valued u is.rest) value.is ∙ ap (λ r. give (Some t) ∷ r) left.1) (steps v names);
    }

value-in : {M : Type 0} (w : World M) (p : Point) (s : Step) (operand : Operand) (x : NowData) (es : List EntryData) → slice_get (steps_of w.loaded) p.place ≡ Some s → 0 < p.count → s.node ≡ Node.Value operand → StackBelow w x es → IsBalanced zero es →
    NowIs w (Now.Going p) x → ValueThere w p s operand (config x es)
value-in w p s operand x es at some node stands balanced (going_now {gs = no_goals} {e = e} {k = k} is) = value-by w p s operand x es e k at some node stands balanced is (λ v names. already)
value-in w p s operand x es at some node stands balanced (going_now {gs = goal g gs} {e = e} {k = k} is) = absurd (node-readable w p s g gs e k (Node.Value operand) at is node)
value-in w p s operand x es at some node stands balanced (settling_now {before = before} {gs = no_goals} {e = e} {k = k} is rests none) =
    value-by w p s operand x es e k at some node (lies-stand w es stands rests) balanced is (λ v names. settles-first v w.loaded.preds names before w.store.now.state no_goals e k es none)
value-in w p s operand x es at some node stands balanced (settling_now {before = before} {gs = goal g gs} {e = e} {k = k} is rests none) = absurd (node-readable w p s g gs e k (Node.Value operand) at is node)

value-there : {M : Type 0} (w : World M) (p : Point) (s : Step) (operand : Operand) (c : Config) → AtGoal w p s c → s.node ≡ Node.Value operand → ValueThere w p s operand c
value-there w p s operand c is node = value-in w p s operand c.now c.stack is.at is.some node is.stands.entries is.good.balanced is.stands.runs

-- ---- it is evaluated

-- what the evaluation of an operand does, whatever the block
abbrev pub Reads : {M : Type 0} → World M → StoreView M → ArenasView M → Code → Operand → ℕ → Ref → Type 0
Reads w v a code operand first r =
    (t : Terms) (b : Block) (e : Places) → first ≡ slot_number b.base b.first → IsReadable (tables_of t code) b operand → Extend t w.store.now.terms → Holds w.store.now.terms w.arenas.blocks.slots b e →
    Evaluates b (between w.store v w.arenas a) (evaluated (operand_tree (tables_of t code) operand) e w.store.now.state) r

-- the value is an answer in front of the level that waits for it
pub record ValueRuns {M : Type 0} (w after : World M) (r : Ref) (c : Config) : Type 0 where
  pub value : Tree
  pub es : List EntryData
  pub silently : (view : View) (names : List NameSlot) → SilentlyTo view w.loaded.preds names c (config (going no_goals (Some value ∷ []) after.store.now.state []) es)
  pub stands : StackStands after es
  pub balanced : IsBalanced zero es
  pub agrees : Agrees after after.arenas.level (now_here after)
  pub term : IsTerm after.store r value
  pub call : CallLevel after

value-step : (view : View) (preds : List PredTree) (names : List NameSlot) (t : Tree) (e : Places) (s : State) (es : List EntryData) →
    step view preds names (config (going no_goals e s (give (Some t) ∷ [])) es) ≡ silently (config (going no_goals (Some (evaluated t e s).tree ∷ []) (evaluated t e s).state []) es)
unfolding step frame_step
value-step view preds names t e s es = refl

pub value-runs : {M : Type 0} (w : World M) (v : StoreView M) (a : ArenasView M) (p : Point) (s : Step) (operand : Operand) (code : Code) (first : ℕ) (r : Ref) (c : Config) → AtGoal w p s c → s.node ≡ Node.Value operand → w.loaded.code ≡ code →
    first ≡ slot_number p.base s.first_slot → Reads w v a code operand first r → ValueRuns w (moved w v a) r c
value-runs w v a p s operand code first r c is node is_code begins reads =
    let after : World _ = moved w v a in
    let it : ValueThere w p s operand c = value-there w p s operand c is node in
    let b : Block = it.runs.block in
    let t : Tree = operand_tree (tables_in w.loaded) operand in
    let x : Evaluated = evaluated t it.e w.store.now.state in
    let starts : first ≡ slot_number b.base b.first = begins ∙ ap (λ n. slot_number n s.first_slot) (sym it.runs.base) ∙ ap (slot_number b.base) it.value.first in
    let got : Evaluates b (between w.store v w.arenas a) x r =
    subst (λ q. IsReadable (tables_of w.loaded.terms q) b operand → Evaluates b (between w.store v w.arenas a) (evaluated (operand_tree (tables_of w.loaded.terms q) operand) it.e w.store.now.state) r) (sym is_code)
    (λ readable. reads w.loaded.terms b it.e starts readable it.stands.tables it.runs.behind.slots) it.value.readable in
    let sound : Rests v.now.state = subst Rests (sym got.writes.state) (evaluated-rests t it.e w.store.now.state it.stands.state) in
    let stands : StackStands after it.es = stack-moved w v a b x.slots x.state it.es got.writes sound it.stands in
    let runs : GoingIs after p no_goals x.slots it.k = going-moved w v a p no_goals it.e x.slots x.state it.k it.es it.stands it.runs got.writes in
    let ends : level_ends after after.arenas.level ≡ with_value it.start = subst (λ r. level_ends (moved w v r) r.level ≡ with_value it.start) (sym got.writes.rest) it.ends in
    record {
      value = x.tree;
      es = it.es;
      silently = λ view names.
          subst (λ q. SilentlyTo view w.loaded.preds names c (config (going no_goals (Some x.tree ∷ []) q []) it.es)) (sym got.writes.state)
          (silently-then view w.loaded.preds names c (config (going no_goals it.e w.store.now.state (give (Some t) ∷ [])) it.es) (config (going no_goals (Some x.tree ∷ []) x.state []) it.es) (it.steps view names)
          (one_more (value-step view w.loaded.preds names t it.e w.store.now.state it.es) already));
      stands = stands;
      balanced = it.balanced;
      agrees = runs.agrees;
      term = got.term;
      call = call-level after it.start it.es stands it.balanced ends;
    }
