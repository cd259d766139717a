-- `once`, `not` and `if` whose goal has an answer.
use Rattle.std.proofs.Common.{◌≡◌, ℕ, zero, suc, ◌-◌, ◌≤◌, ◌<◌, List, [], Option, Some, None, length, refl, sym, ◌∙◌, ap, subst, arith}
use Rattle.std.specs.Prelude.{slice_get}
use Rattle.std.proofs.lemmas.Option.{slice_get_within}
use Rattle.pi_terms.specs.Tree.{Tree}
use Rattle.pi_terms.specs.Places.{Places}
use Rattle.pi_constraints.specs.State.{State}
use Rattle.pi_constraints.specs.Store.{StoreView}
use Rattle.pi_meaning.specs.Shared.View.{View}
use Rattle.pi_core.specs.GoalTree.{GoalTree, no_goals, goal, once, not, if_else, child_count}
use Rattle.pi_core.specs.declared.core_program.NameSlot.{NameSlot}
use Rattle.pi_engine_arenas.specs.declared.frames.Point.{Point}
use Rattle.pi_engine_arenas.specs.declared.run.Now.{Now}
use Rattle.pi_engine_arenas.specs.declared.arenas.Back.{Back}
use Rattle.pi_engine_arenas.specs.declared.arenas.Kind.{Kind}
use Rattle.pi_engine_arenas.specs.declared.arenas.Strict.{Strict as StrictKind}
use Rattle.pi_engine_code.specs.declared.code.Code.{Code}
use Rattle.pi_engine_code.specs.Code.{tables_of, StandsAt, child_place}
use Rattle.pi_engine_arenas.specs.Arenas.{ArenasView, entry_at, LeavesLevel, IsLevel}
use Rattle.pi_engine_arenas.specs.declared.arenas.Entry.{Entry}
use Rattle.pi_meaning.specs.Machine.Configuration.{Frame, Entry as EntryData, Config, config, going, catch_level, Strict, strict, Back as BackData}
use Rattle.pi_meaning.specs.Machine.Step.{silently, step, strict_step, answer_step, newest_open, Open, strict_open}
use Rattle.pi_meaning.specs.Machine.Shape.{open_level, IsBalanced}
use Rattle.pi_engine_stands.specs.Here.{Here, Block, in_block, Holds}
use Rattle.pi_engine_stands.specs.Stands.{World, Loaded, steps_of, entries_of, level_ends, back_here, now_here, agrees_from, Agrees, block_at, entry_ends, ends_of, KindIs, once_kind, not_kind, if_kind, guard_kind, apply_kind, collect_kind, count_kind, search_kind, catch_kind, GoalStands, EntryIs, StackIs, StackStands, Stands, going_now, failing_now, StandsGoing, GoingIs}
use Rattle.pi_engine_stands.specs.Makes.{SilentlyTo, already, one_more}
use Rattle.pi_engine_stands.proofs.FramesStand.{going-of}
use Rattle.pi_engine_stands.proofs.StandsLemmas.{moved}
use Rattle.pi_engine_stands.proofs.BasesStand.{shape-base}
use Rattle.pi_engine_stands.proofs.AnswerStand.{Arrives, arrives}
use Rattle.pi_engine_stands.proofs.LeaveStand.{LeftBy, level-behind}
use Rattle.pi_engine_stands.proofs.EndsStand.{behind-level, second-runs, child-found, if-counts}
use Rattle.pi_engine_stands.proofs.OpenStand.{OpenAt, nothing_at, strict_at, catch_at, open-at, back-length}
use Rattle.pi_engine_stands.proofs.StacksLie.{stack-lies}
use Rattle.pi_engine_stands.proofs.SettlesFirst.{silently-then}

-- ---- a level whose goal has an answer, and which is left

-- what is known where the newest open level has an answer
pub record Answered {M : Type 0} (w : World M) (b : ArenasView M) (i : ℕ) (x : Entry M) (es : List EntryData) : Type 0 where
  pub stands : StackStands w es
  pub balanced : IsBalanced zero es
  pub agrees : Agrees w w.arenas.level (now_here w)
  pub level : w.arenas.level ≡ suc i
  pub at : slice_get (entries_of w) i ≡ Some x
  pub left : LeavesLevel w.arenas b i x.back

-- its goal stands in what is there then
pub record GoalLeft {M : Type 0} (w : World M) (b : ArenasView M) (base place frame : ℕ) (g : GoalTree) (e : Places) (k : List Frame) (fs : List EntryData) : Type 0 where
  pub entries : StackStands (moved w w.store b) fs
  pub goal : GoalStands w.loaded (now_here (moved w w.store b)) base place frame g e k
  pub agrees : Agrees (moved w w.store b) b.level (now_here (moved w w.store b))

pub goal-left : {M : Type 0} (w : World M) (b : ArenasView M) (i from place : ℕ) (x : Entry M) (y : EntryData) (g : GoalTree) (es fs : List EntryData) (f e : Places) (k : List Frame) →
    Answered w b i x es → suc i ≤ length (entries_of w) → EntryIs w fs (entry_at (entries_of w) i) from (length w.arenas.collected) x y → StackIs w i from fs → from ≡ length w.arenas.collected →
    GoalStands w.loaded (back_here w x) x.back.base place x.back.frame g f k → Holds w.store.now.terms w.arenas.blocks.slots (block_at w.loaded place x.back.base) e →
    GoalLeft w b x.back.base place x.back.frame g e k fs
goal-left w b i from place x y g es fs f e k it fit is below none own holds =
    let left : LeftBy w b (block_at w.loaded place x.back.base) own.behind.leaves x.back.frame e k fs =
    level-behind w b i from (length w.arenas.collected) (length w.arenas.collected) (length (entries_of w)) x.back.blocks.slots x y es fs (block_at w.loaded place x.back.base) own.behind.leaves e k
    it.stands it.stands.stack fit (omega arith) (omega arith) it.at is below none
    (subst (λ r. agrees_from w r (now_here w)) it.at (subst (λ n. agrees_from w (entry_at (entries_of w) n) (now_here w)) it.level it.agrees))
    it.left.drops it.left.slots it.left.level (omega (arith, shape-base (slice_get (steps_of w.loaded) place) x.back.base)) (omega (arith, own.behind.slots.within, back-length w x)) holds own.behind.frames in
    record {
      entries = left.entries;
      goal = record { last = own.last; goal = own.goal; behind = record { slots = left.slots; leaves = own.behind.leaves; frames = left.frames }; leaves = own.leaves };
      agrees = left.agrees;
    }

-- the level's own entry among those of the stack
level-entry : {M : Type 0} (w : World M) (b : ArenasView M) (i : ℕ) (x : Entry M) (es : List EntryData) → Answered w b i x es → suc i ≤ length (entries_of w)
level-entry w b i x es it = slice_get_within (entries_of w) i x it.at

-- the strict level that has it
pub record Found {M : Type 0} (w : World M) (i : ℕ) (x : Entry M) (es : List EntryData) : Type 0 where
  pub from : ℕ
  pub above : List EntryData
  pub level : Strict
  pub back : BackData
  pub below : List EntryData
  pub opens : newest_open zero es ≡ strict_open above level back below
  pub is : EntryIs w below (entry_at (entries_of w) i) from (length w.arenas.collected) x (strict level back)
  pub stack : StackIs w i from below

pub same-at : {M : Type 0} (w : World M) (i j : ℕ) (x z : Entry M) → slice_get (entries_of w) i ≡ Some x → slice_get (entries_of w) j ≡ Some z → j ≡ i → z ≡ x
same-at w i j x z here there same = cc

no-catch : (l : Loaded) (c : List Tree) (h : Here) (t : State) (base frame slots from to : ℕ) (kind : Kind) (s : StrictKind) (ball : Tree) (handler : GoalTree) (b : BackData) →
    kind ≡ Kind.Strict s → KindIs l c h t base frame slots from to kind (catch_level ball handler b) → ⊥
no-catch l c h t base frame slots from to kind s ball handler b named (catch_kind own stays one) = cc

found-in : {M : Type 0} (w : World M) (i level : ℕ) (x : Entry M) (s : StrictKind) (o : Open) (es : List EntryData) → slice_get (entries_of w) i ≡ Some x → x.back.kind ≡ Kind.Strict s → newest_open zero es ≡ o → level ≡ suc i →
    OpenAt w (length w.arenas.collected) o level → Found w i x es
found-in w i level x s o es here named opens is_level nothing_at = absurd (omega (arith, is_level))
found-in w i level x s o es here named opens is_level (catch_at j from z above ball handler bk fs at is below) =
    absurd (no-catch w.loaded w.arenas.collected (back_here w z) _ z.back.base z.back.frame z.back.blocks.slots from (length w.arenas.collected) z.back.kind s ball handler bk
    (ap (λ r. r.back.kind) (same-at w i j x z here at (omega (arith, is_level))) ∙ named) is.kind)
found-in w i level x s o es here named opens is_level (strict_at j from z above t bk fs at is below) =
    let number : j ≡ i = omega (arith, is_level) in
    record {
      from = from;
      above = above;
      level = t;
      back = bk;
      below = fs;
      opens = opens;
      is = subst (λ r. EntryIs w fs (entry_at (entries_of w) i) from (length w.arenas.collected) r (strict t bk)) (same-at w i j x z here at number)
          (subst (λ n. EntryIs w fs (entry_at (entries_of w) n) from (length w.arenas.collected) z (strict t bk)) number is);
      stack = subst (λ n. StackIs w n from fs) number below;
    }

pub found : {M : Type 0} (w : World M) (i : ℕ) (x : Entry M) (s : StrictKind) (es : List EntryData) → StackStands w es → IsBalanced zero es → w.arenas.level ≡ suc i → slice_get (entries_of w) i ≡ Some x → x.back.kind ≡ Kind.Strict s → Found w i x es
found w i x s es stands balanced level at named =
    found-in w i (open_level zero es) x s (newest_open zero es) es at named refl (sym stands.level ∙ level) (open-at w (length (entries_of w)) (length w.arenas.collected) zero es stands.stack balanced)

-- what an answer of the level comes to
pub answer-of : {M : Type 0} (w : World M) (i : ℕ) (x : Entry M) (es : List EntryData) (view : View) (names : List NameSlot) (e : Places) → (it : Found w i x es) →
    step view w.loaded.preds names (config (going no_goals e w.store.now.state []) es) ≡ silently (strict_step it.level e w.store.now.state it.above it.back it.below)
unfolding step answer_step
answer-of w i x es view names e it = ap (answer_step names e w.store.now.state es) it.opens

-- the point behind a level
abbrev pub behind_level : {M : Type 0} → Entry M → Point
behind_level x = record { place = 0; count = 0; base = x.back.base; frame = x.back.frame }

-- what the level makes of its answer, by its kind
abbrev pub Makes_of : {M : Type 0} → World M → ArenasView M → Now → Strict → BackData → List EntryData → List EntryData → Places → Type 0
Makes_of w b now s back above below e = Stands (moved w w.store b) now (strict_step s e w.store.now.state above back below)

once-makes : {M : Type 0} (w : World M) (b : ArenasView M) (i from place : ℕ) (x : Entry M) (kind : Kind) (s : Strict) (back : BackData) (es above fs : List EntryData) (e : Places) →
    Answered w b i x es → EntryIs w fs (entry_at (entries_of w) i) from (length w.arenas.collected) x (strict s back) → StackIs w i from fs →
    kind ≡ Kind.Strict (StrictKind.Once place) → Holds w.store.now.terms w.arenas.blocks.slots (block_at w.loaded place x.back.base) e →
    KindIs w.loaded w.arenas.collected (back_here w x) (w.store.at_mark x.mark).state x.back.base x.back.frame x.back.blocks.slots from (length w.arenas.collected) kind (strict s back) →
    Makes_of w b (Now.Going (behind_level x)) s back above fs e
unfolding strict_step
once-makes w b i from place x kind s back es above fs e it is below named holds (once_kind {place = at} {g = g} {e = f} {k = k} own one) =
    let same : at ≡ place = cc in
    let left : GoalLeft w b x.back.base at x.back.frame (once g) e k fs = goal-left w b i from at x (strict s back) (once g) es fs f e k it (level-entry w b i x es it) is below one own
    (subst (λ q. Holds w.store.now.terms w.arenas.blocks.slots (block_at w.loaded q x.back.base) e) (sym same) holds) in
    record { entries = left.entries; runs = going_now (behind-level (moved w w.store b) x.back.base at x.back.frame (once g) e k left.goal left.agrees) }
once-makes w b i from place x kind s back es above fs e it is below named holds (not_kind own one) = absurd cc
once-makes w b i from place x kind s back es above fs e it is below named holds (if_kind own one) = absurd cc
once-makes w b i from place x kind s back es above fs e it is below named holds (guard_kind call over one) = absurd cc
once-makes w b i from place x kind s back es above fs e it is below named holds (apply_kind own free args fit one) = absurd cc
once-makes w b i from place x kind s back es above fs e it is below named holds (collect_kind own order some) = absurd cc
once-makes w b i from place x kind s back es above fs e it is below named holds (count_kind own one) = absurd cc
once-makes w b i from place x kind s back es above fs e it is below named holds (search_kind own labels held fit order one) = absurd cc

not-makes : {M : Type 0} (w : World M) (b : ArenasView M) (i from place : ℕ) (x : Entry M) (kind : Kind) (s : Strict) (back : BackData) (es above fs : List EntryData) (e : Places) →
    Answered w b i x es → EntryIs w fs (entry_at (entries_of w) i) from (length w.arenas.collected) x (strict s back) → StackIs w i from fs →
    kind ≡ Kind.Strict (StrictKind.Not place) → Holds w.store.now.terms w.arenas.blocks.slots (block_at w.loaded place x.back.base) e →
    KindIs w.loaded w.arenas.collected (back_here w x) (w.store.at_mark x.mark).state x.back.base x.back.frame x.back.blocks.slots from (length w.arenas.collected) kind (strict s back) →
    Makes_of w b Now.Failing s back above fs e
unfolding strict_step
not-makes w b i from place x kind s back es above fs e it is below named holds (once_kind own one) = absurd cc
not-makes w b i from place x kind s back es above fs e it is below named holds (not_kind {place = at} {g = g} {e = f} {k = k} own one) =
    let same : at ≡ place = cc in
    let left : GoalLeft w b x.back.base at x.back.frame (not g) e k fs =
    goal-left w b i from at x (strict s back) (not g) es fs f e k it (level-entry w b i x es it) is below one own
    (subst (λ q. Holds w.store.now.terms w.arenas.blocks.slots (block_at w.loaded q x.back.base) e) (sym same) holds) in
    record { entries = stack-lies (moved w w.store b) _ left.entries; runs = failing_now }
not-makes w b i from place x kind s back es above fs e it is below named holds (if_kind own one) = absurd cc
not-makes w b i from place x kind s back es above fs e it is below named holds (guard_kind call over one) = absurd cc
not-makes w b i from place x kind s back es above fs e it is below named holds (apply_kind own free args fit one) = absurd cc
not-makes w b i from place x kind s back es above fs e it is below named holds (collect_kind own order some) = absurd cc
not-makes w b i from place x kind s back es above fs e it is below named holds (count_kind own one) = absurd cc
not-makes w b i from place x kind s back es above fs e it is below named holds (search_kind own labels held fit order one) = absurd cc

if-makes : {M : Type 0} (w : World M) (b : ArenasView M) (i from place at_child : ℕ) (code : Code) (x : Entry M) (kind : Kind) (s : Strict) (back : BackData) (es above fs : List EntryData) (e : Places) →
    w.loaded.code ≡ code → ((terms : ℕ → Option Tree) (h : GoalTree) → StandsAt (tables_of terms code) code.steps.items place h → 1 < child_count h → at_child ≡ child_place h place 1) →
    Answered w b i x es → EntryIs w fs (entry_at (entries_of w) i) from (length w.arenas.collected) x (strict s back) → StackIs w i from fs →
    kind ≡ Kind.Strict (StrictKind.If place) → Holds w.store.now.terms w.arenas.blocks.slots (block_at w.loaded place x.back.base) e →
    KindIs w.loaded w.arenas.collected (back_here w x) (w.store.at_mark x.mark).state x.back.base x.back.frame x.back.blocks.slots from (length w.arenas.collected) kind (strict s back) →
    Makes_of w b (Now.Going (record { place = at_child; count = 1; base = x.back.base; frame = x.back.frame })) s back above fs e
unfolding strict_step
if-makes w b i from place at_child code x kind s back es above fs e is_code finds it is below named holds (once_kind own one) = absurd cc
if-makes w b i from place at_child code x kind s back es above fs e is_code finds it is below named holds (not_kind own one) = absurd cc
if-makes w b i from place at_child code x kind s back es above fs e is_code finds it is below named holds (if_kind {place = at} {test = test} {g = g} {other = other} {e = f} {k = k} own one) =
    let same : at ≡ place = cc in
    let left : GoalLeft w b x.back.base at x.back.frame (if_else test g other) e k fs = goal-left w b i from at x (strict s back) (if_else test g other) es fs f e k it (level-entry w b i x es it) is below one own
    (subst (λ q. Holds w.store.now.terms w.arenas.blocks.slots (block_at w.loaded q x.back.base) e) (sym same) holds) in
    let child_is : at_child ≡ child_place (if_else test g other) at 1 =
    child-found w.loaded (block_at w.loaded at x.back.base) at 1 at_child (if_else test g other) own.last code is_code own.goal (if-counts test g other 1 (omega arith))
    (subst (λ n. (terms : ℕ → Option Tree) (h : GoalTree) → StandsAt (tables_of terms code) code.steps.items n h → 1 < child_count h → at_child ≡ child_place h n 1) (sym same) finds) in
    record {
      entries = left.entries;
      runs = going_now (subst (λ n. GoingIs (moved w w.store b) (record { place = n; count = 1; base = x.back.base; frame = x.back.frame }) (goal g no_goals) e k) (sym child_is)
          (second-runs (moved w w.store b) x.back.base at x.back.frame test g other e k left.goal left.agrees));
    }
if-makes w b i from place at_child code x kind s back es above fs e is_code finds it is below named holds (guard_kind call over one) = absurd cc
if-makes w b i from place at_child code x kind s back es above fs e is_code finds it is below named holds (apply_kind own free args fit one) = absurd cc
if-makes w b i from place at_child code x kind s back es above fs e is_code finds it is below named holds (collect_kind own order some) = absurd cc
if-makes w b i from place at_child code x kind s back es above fs e is_code finds it is below named holds (count_kind own one) = absurd cc
if-makes w b i from place at_child code x kind s back es above fs e is_code finds it is below named holds (search_kind own labels held fit order one) = absurd cc

-- an answer of a level of which the kind is known, from where its goals are done
pub level-answers : {M : Type 0} (w : World M) (v : StoreView M) (b : ArenasView M) (i : ℕ) (d : Block) (x : Entry M) (s : StrictKind) (now : Now) (p : Point) (es : List EntryData) (view : View) (names : List NameSlot) (e : Places) (k : List Frame) →
    StandsGoing w p no_goals e k es → p.count ≡ 0 → p.frame ≡ 0 → IsBalanced zero es → w.arenas.level ≡ suc i → slice_get (entries_of w) i ≡ Some x → x.back.kind ≡ Kind.Strict s →
    ends_of w.loaded (Kind.Strict s) x.back.base ≡ in_block d →
    ((it : Found w i x es) (f : Places) → Agrees w w.arenas.level (now_here w) → Holds w.store.now.terms w.arenas.blocks.slots d f →
    Stands (moved w v b) now (strict_step it.level f w.store.now.state it.above it.back it.below)) →
    (c : Config) × SilentlyTo view w.loaded.preds names (config (going no_goals e w.store.now.state k) es) c × Stands (moved w v b) now c
level-answers w v b i d x s now p es view names e k stands none last balanced level at named in_its_block makes =
    let runs : GoingIs w p no_goals e k = going-of w p no_goals e w.store.now.state k stands.runs in
    let it : Found w i x es = found w i x s es stands.entries balanced level at named in
    let ends : level_ends w w.arenas.level ≡ in_block d =
    ap (λ m. entry_ends w.loaded (entry_at (entries_of w) m)) level ∙ ap (entry_ends w.loaded) at ∙ ap (λ q. ends_of w.loaded q x.back.base) named ∙ in_its_block in
    let there : Arrives w view names d e k es = arrives w view names p d e k es ends last none stands in (
      strict_step it.level there.slots w.store.now.state it.above it.back it.below,
      silently-then view w.loaded.preds names _ _ _ there.silently (one_more (answer-of w i x es view names there.slots it) already),
      makes it there.slots runs.agrees there.holds,
    )

-- the same where the level is left
answers-level : {M : Type 0} (w : World M) (b : ArenasView M) (i place : ℕ) (x : Entry M) (s : StrictKind) (now : Now) (p : Point) (es : List EntryData) (view : View) (names : List NameSlot) (e : Places) (k : List Frame) →
    StandsGoing w p no_goals e k es → p.count ≡ 0 → p.frame ≡ 0 → IsBalanced zero es → w.arenas.level ≡ suc i → slice_get (entries_of w) i ≡ Some x → x.back.kind ≡ Kind.Strict s → LeavesLevel w.arenas b i x.back →
    ends_of w.loaded (Kind.Strict s) x.back.base ≡ in_block (block_at w.loaded place x.back.base) →
    ((it : Found w i x es) (f : Places) → Answered w b i x es → Holds w.store.now.terms w.arenas.blocks.slots (block_at w.loaded place x.back.base) f → Makes_of w b now it.level it.back it.above it.below f) →
    (c : Config) × SilentlyTo view w.loaded.preds names (config (going no_goals e w.store.now.state k) es) c × Stands (moved w w.store b) now c
answers-level w b i place x s now p es view names e k stands none last balanced level at named left in_its_block makes =
    level-answers w w.store b i (block_at w.loaded place x.back.base) x s now p es view names e k stands none last balanced level at named in_its_block
    (λ it f agrees holds. makes it f (record { stands = stands.entries; balanced = balanced; agrees = agrees; level = level; at = at; left = left }) holds)

pub once-answers : {M : Type 0} (w : World M) (b : ArenasView M) (i place : ℕ) (x : Entry M) (p : Point) (es : List EntryData) (view : View) (names : List NameSlot) (e : Places) (k : List Frame) →
    StandsGoing w p no_goals e k es → p.count ≡ 0 → p.frame ≡ 0 → IsBalanced zero es → w.arenas.level ≡ suc i → slice_get (entries_of w) i ≡ Some x → x.back.kind ≡ Kind.Strict (StrictKind.Once place) → LeavesLevel w.arenas b i x.back →
    (c : Config) × SilentlyTo view w.loaded.preds names (config (going no_goals e w.store.now.state k) es) c × Stands (moved w w.store b) (Now.Going (behind_level x)) c
once-answers w b i place x p es view names e k stands none last balanced level at named left =
    answers-level w b i place x (StrictKind.Once place) (Now.Going (behind_level x)) p es view names e k stands none last balanced level at named left refl
    (λ it f is holds. once-makes w b i it.from place x x.back.kind it.level it.back es it.above it.below f is it.is it.stack named holds it.is.kind)

pub not-answers : {M : Type 0} (w : World M) (b : ArenasView M) (i place : ℕ) (x : Entry M) (p : Point) (es : List EntryData) (view : View) (names : List NameSlot) (e : Places) (k : List Frame) →
    StandsGoing w p no_goals e k es → p.count ≡ 0 → p.frame ≡ 0 → IsBalanced zero es → w.arenas.level ≡ suc i → slice_get (entries_of w) i ≡ Some x → x.back.kind ≡ Kind.Strict (StrictKind.Not place) → LeavesLevel w.arenas b i x.back →
    (c : Config) × SilentlyTo view w.loaded.preds names (config (going no_goals e w.store.now.state k) es) c × Stands (moved w w.store b) Now.Failing c
not-answers w b i place x p es view names e k stands none last balanced level at named left =
    answers-level w b i place x (StrictKind.Not place) Now.Failing p es view names e k stands none last balanced level at named left refl
    (λ it f is holds. not-makes w b i it.from place x x.back.kind it.level it.back es it.above it.below f is it.is it.stack named holds it.is.kind)

pub if-answers : {M : Type 0} (w : World M) (b : ArenasView M) (i place at_child : ℕ) (code : Code) (x : Entry M) (p : Point) (es : List EntryData) (view : View) (names : List NameSlot) (e : Places) (k : List Frame) → w.loaded.code ≡ code →
    ((terms : ℕ → Option Tree) (h : GoalTree) → StandsAt (tables_of terms code) code.steps.items place h → 1 < child_count h → at_child ≡ child_place h place 1) →
    StandsGoing w p no_goals e k es → p.count ≡ 0 → p.frame ≡ 0 → IsBalanced zero es → w.arenas.level ≡ suc i → slice_get (entries_of w) i ≡ Some x → x.back.kind ≡ Kind.Strict (StrictKind.If place) → LeavesLevel w.arenas b i x.back →
    (c : Config) × SilentlyTo view w.loaded.preds names (config (going no_goals e w.store.now.state k) es) c
    × Stands (moved w w.store b) (Now.Going (record { place = at_child; count = 1; base = x.back.base; frame = x.back.frame })) c
if-answers w b i place at_child code x p es view names e k is_code finds stands none last balanced level at named left =
    answers-level w b i place x (StrictKind.If place) (Now.Going (record { place = at_child; count = 1; base = x.back.base; frame = x.back.frame })) p es view names e k stands none last balanced level at named left refl
    (λ it f is holds. if-makes w b i it.from place at_child code x x.back.kind it.level it.back es it.above it.below f is_code finds is it.is it.stack named holds it.is.kind)

-- ---- what the code knows of the level

pub record LevelHere {M : Type 0} (w : World M) (b : ArenasView M) (number : ℕ) (back : Back) : Type 0 where
  pub i : ℕ
  pub x : Entry M
  pub at : slice_get (entries_of w) i ≡ Some x
  pub level : w.arenas.level ≡ suc i
  pub back_is : x.back ≡ back
  pub left : LeavesLevel w.arenas b i x.back
  pub point : behind_level x ≡ record { place = 0; count = 0; base = back.base; frame = back.frame }

no-entry : {M : Type 0} {x : Entry M} → None ≡ Some x → ⊥
no-entry h = cc

pub level-here : {M : Type 0} (w : World M) (b : ArenasView M) (number : ℕ) (back : Back) → IsLevel w.arenas number back → LeavesLevel w.arenas b (number - 1) back → LevelHere w b number back
level-here w b zero back is left = absurd (no-entry is.at)
level-here w b (suc i) back is left =
    record {
      i = i;
      x = is.entry;
      at = is.at;
      level = is.is_open;
      back_is = is.back_is;
      left = subst (λ q. LeavesLevel w.arenas b i q) (sym is.back_is) (subst (λ n. LeavesLevel w.arenas b n back) (omega arith) left);
      point = ap (λ q. record { place = 0; count = 0; base = q.base; frame = q.frame }) is.back_is;
    }

-- what an answer of a level comes to, where this is to be run next
abbrev pub AnswersTo : {M : Type 0} → World M → ArenasView M → View → List NameSlot → Places → List Frame → List EntryData → Now → Type 0
AnswersTo w b view names e k es now = (c : Config) × SilentlyTo view w.loaded.preds names (config (going no_goals e w.store.now.state k) es) c × Stands (moved w w.store b) now c
