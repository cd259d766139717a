-- A `catch` whose goal has an answer.
use Rattle.std.proofs.Common.{◌≡◌, ◌≢◌, ℕ, zero, suc, ◌+◌, ◌≤◌, ◌<◌, List, [], ◌∷◌, ◌++◌, Some, None, length, take, refl, sym, ◌∙◌, ap, subst, arith}
use Rattle.std.specs.Prelude.{slice_get, ⊤}
use Rattle.std.proofs.lemmas.List.{length-append}
use Rattle.std.proofs.lemmas.Option.{slice_get_within}
use Rattle.pi_core.specs.CoreTree.{PredTree}
use Rattle.pi_terms.specs.Tree.{Tree}
use Rattle.pi_terms.specs.Places.{Places}
use Rattle.pi_constraints.specs.State.{State}
use Rattle.pi_engine_stands.specs.Rests.{Rests}
use Rattle.pi_constraints.specs.Store.{StoreView, Marks, Extend}
use Rattle.pi_meaning.specs.Shared.View.{View}
use Rattle.pi_core.specs.GoalTree.{GoalTree, no_goals, catch}
use Rattle.pi_core.specs.declared.core_program.NameSlot.{NameSlot}
use Rattle.pi_engine_arenas.specs.declared.frames.Point.{Point}
use Rattle.pi_engine_arenas.specs.declared.run.Now.{Now}
use Rattle.pi_engine_arenas.specs.declared.arenas.Back.{Back}
use Rattle.pi_engine_arenas.specs.declared.arenas.Kind.{Kind}
use Rattle.pi_engine_arenas.specs.Arenas.{ArenasView, entry_at, slots_kept_by, new_entry, pushed, IsLevel, LeavesLevel}
use Rattle.pi_engine_arenas.specs.declared.arenas.Entry.{Entry}
use Rattle.pi_meaning.specs.Machine.Configuration.{Frame, Entry as EntryData, Config, config, going, choice, strict, catch_level, left, Strict, Back as BackData}
use Rattle.pi_meaning.specs.Machine.Step.{silently, step, leave, answer_step, newest_open, Open, none_open, strict_open, catch_open, beneath}
use Rattle.pi_meaning.specs.Machine.Shape.{open_level, IsBalanced}
use Rattle.pi_engine_stands.specs.Here.{Here, Block, in_block, Holds}
use Rattle.pi_engine_stands.specs.Stands.{tables_in, World, Loaded, steps_of, entries_of, level_ends, back_here, now_here, agrees_from, Agrees, block_at, entry_ends, ends_of, KindIs, once_kind, not_kind, if_kind, guard_kind, apply_kind, collect_kind, count_kind, search_kind, catch_kind, exit_kind, GoalStands, EntryIs, IsAbove, StackIs, StackStands, Stands, going_now, StandsGoing, GoingIs}
use Rattle.pi_engine_stands.specs.Makes.{SilentlyTo, already, one_more}
use Rattle.pi_terms.proofs.ListLemmas.{take-take}
use Rattle.pi_engine_stands.proofs.ProgramStands.{code-keeps}
use Rattle.pi_engine_stands.proofs.HereLemmas.{FramesStay, goes_on-moves, holds-extends}
use Rattle.pi_engine_stands.proofs.FramesStand.{going-of}
use Rattle.pi_engine_stands.proofs.StandsLemmas.{moved, Leaves, stack-moves, stack-length, open_level-within, entry_at-take, back-stays, entry-facts}
use Rattle.pi_meaning.proofs.Machine.StackLemmas.{IsFound, newest-found}
use Rattle.pi_engine_stands.proofs.BasesStand.{shape-base, block-above, level-begins}
use Rattle.pi_engine_stands.proofs.EntriesStand.{with_entry, pushed-leaves, stack-pushed}
use Rattle.pi_engine_stands.proofs.CallKept.{newest-last}
use Rattle.pi_engine_stands.proofs.LevelStands.{base-fits-in}
use Rattle.pi_engine_stands.proofs.LevelSteps.{kept-within}
use Rattle.pi_engine_stands.proofs.AnswerStand.{Arrives, arrives}
use Rattle.pi_engine_stands.proofs.LeaveStand.{outer-agrees, above-frames, below-kept}
use Rattle.pi_engine_stands.proofs.EndsStand.{behind-level}
use Rattle.pi_engine_stands.proofs.OpenStand.{OpenAt, nothing_at, strict_at, catch_at, open-at}
use Rattle.pi_engine_stands.proofs.OnceStand.{Answered, GoalLeft, goal-left, behind_level, same-at}
use Rattle.pi_engine_stands.proofs.SettlesFirst.{silently-then}

-- ---- the newest open level is a `catch`

pub record FoundCatch {M : Type 0} (w : World M) (i : ℕ) (x : Entry M) (es : List EntryData) : Type 0 where
  pub from : ℕ
  pub above : List EntryData
  pub ball : Tree
  pub handler : GoalTree
  pub back : BackData
  pub below : List EntryData
  pub opens : newest_open zero es ≡ catch_open above ball handler back below
  pub is : EntryIs w below (entry_at (entries_of w) i) from (length w.arenas.collected) x (catch_level ball handler back)
  pub stack : StackIs w i from below

no-strict : (l : Loaded) (c : List Tree) (h : Here) (t : State) (base frame slots from to place : ℕ) (kind : Kind) (s : Strict) (b : BackData) → kind ≡ Kind.Catch place → KindIs l c h t base frame slots from to kind (strict s b) → ⊥
no-strict l c h t base frame slots from to place kind s b named (once_kind own one) = cc
no-strict l c h t base frame slots from to place kind s b named (not_kind own one) = cc
no-strict l c h t base frame slots from to place kind s b named (if_kind own one) = cc
no-strict l c h t base frame slots from to place kind s b named (guard_kind call over one) = cc
no-strict l c h t base frame slots from to place kind s b named (apply_kind own free args fit one) = cc
no-strict l c h t base frame slots from to place kind s b named (collect_kind own order some) = cc
no-strict l c h t base frame slots from to place kind s b named (count_kind own one) = cc
no-strict l c h t base frame slots from to place kind s b named (search_kind own labels held fit order one) = cc

catch-found-in : {M : Type 0} (w : World M) (i level place : ℕ) (x : Entry M) (o : Open) (es : List EntryData) → slice_get (entries_of w) i ≡ Some x → x.back.kind ≡ Kind.Catch place → newest_open zero es ≡ o → level ≡ suc i →
    OpenAt w (length w.arenas.collected) o level → FoundCatch w i x es
catch-found-in w i level place x o es here named opens is_level nothing_at = absurd (omega (arith, is_level))
catch-found-in w i level place x o es here named opens is_level (strict_at j from z above t bk fs at is below) =
    absurd (no-strict w.loaded w.arenas.collected (back_here w z) _ z.back.base z.back.frame z.back.blocks.slots from (length w.arenas.collected) place z.back.kind t bk
    (ap (λ r. r.back.kind) (same-at w i j x z here at (omega (arith, is_level))) ∙ named) is.kind)
catch-found-in w i level place x o es here named opens is_level (catch_at j from z above ball handler bk fs at is below) =
    let number : j ≡ i = omega (arith, is_level) in
    record {
      from = from;
      above = above;
      ball = ball;
      handler = handler;
      back = bk;
      below = fs;
      opens = opens;
      is = subst (λ r. EntryIs w fs (entry_at (entries_of w) i) from (length w.arenas.collected) r (catch_level ball handler bk)) (same-at w i j x z here at number)
          (subst (λ n. EntryIs w fs (entry_at (entries_of w) n) from (length w.arenas.collected) z (catch_level ball handler bk)) number is);
      stack = subst (λ n. StackIs w n from fs) number below;
    }

catch-found : {M : Type 0} (w : World M) (i place : ℕ) (x : Entry M) (es : List EntryData) → StackStands w es → IsBalanced zero es → w.arenas.level ≡ suc i → slice_get (entries_of w) i ≡ Some x → x.back.kind ≡ Kind.Catch place → FoundCatch w i x es
catch-found w i place x es stands balanced level at named =
    catch-found-in w i (open_level zero es) place x (newest_open zero es) es at named refl (sym stands.level ∙ level) (open-at w (length (entries_of w)) (length w.arenas.collected) zero es stands.stack balanced)

-- what an answer of it comes to
catch-answer-of : {M : Type 0} (w : World M) (i : ℕ) (x : Entry M) (es : List EntryData) (view : View) (names : List NameSlot) (e : Places) → (it : FoundCatch w i x es) →
    step view w.loaded.preds names (config (going no_goals e w.store.now.state []) es) ≡ silently (config (going no_goals e w.store.now.state it.back.frames) (leave it.above it.ball it.handler it.back it.below))
unfolding step answer_step
catch-answer-of w i x es view names e it = ap (answer_step names e w.store.now.state es) it.opens

-- ---- what lies above it

found-stack : (es : List EntryData) (o : Open) (above below : List EntryData) (ball : Tree) (handler : GoalTree) (b : BackData) → IsFound zero es o → o ≡ catch_open above ball handler b below → es ≡ above ++ catch_level ball handler b ∷ below
unfolding IsFound
found-stack es o above below ball handler b found is = (subst (IsFound zero es) is found).0

leave-none : (above below : List EntryData) (ball : Tree) (handler : GoalTree) (b : BackData) → length above ≡ 0 → leave above ball handler b below ≡ below
leave-none [] below ball handler b none = refl
leave-none (x ∷ above) below ball handler b none = absurd (omega (arith, none))

leave-some : (above below : List EntryData) (ball : Tree) (handler : GoalTree) (b : BackData) → 0 < length above → leave above ball handler b below ≡ left ∷ (above ++ catch_level ball handler b ∷ below)
leave-some [] below ball handler b some = absurd (omega (arith, some))
leave-some (x ∷ above) below ball handler b some = refl

-- how many entries lie above it
lies-above : {M : Type 0} (w : World M) (i : ℕ) (x : Entry M) (es : List EntryData) → StackStands w es → (it : FoundCatch w i x es) → length it.above + suc i ≡ length (entries_of w)
lies-above w i x es stands it =
    let whole : es ≡ it.above ++ catch_level it.ball it.handler it.back ∷ it.below = found-stack es (newest_open zero es) it.above it.below it.ball it.handler it.back (newest-found zero es) it.opens in
    omega (
      arith,
      stack-length w (length (entries_of w)) (length w.arenas.collected) es stands.stack,
      stack-length w i it.from it.below it.stack,
      ap length whole ∙ length-append it.above (catch_level it.ball it.handler it.back ∷ it.below),
    )

-- the newest open level outside of it
unfoldable IsOutside : ℕ → List EntryData → Open → Type 0
IsOutside n es none_open = ⊤
IsOutside n es (strict_open above s b below) = ⊤
IsOutside n es (catch_open above ball handler b below) = open_level (suc n) es ≡ open_level zero below

outside-beneath : (n m : ℕ) (x : EntryData) (es : List EntryData) (o : Open) → open_level (suc m) (x ∷ es) ≡ open_level (suc n) es → IsOutside n es o → IsOutside m (x ∷ es) (beneath x o)
unfolding IsOutside
outside-beneath n m x es none_open same h = tt
outside-beneath n m x es (strict_open above s b below) same h = tt
outside-beneath n m x es (catch_open above ball handler b below) same h = same ∙ h

outside-is : (n : ℕ) (es : List EntryData) → IsOutside n es (newest_open n es)
unfolding IsOutside newest_open open_level
outside-is n [] = tt
outside-is n (choice c b ∷ es) = outside-beneath n n (choice c b) es (newest_open n es) refl (outside-is n es)
outside-is zero (strict s b ∷ es) = tt
outside-is (suc n) (strict s b ∷ es) = outside-beneath (suc n) (suc n) (strict s b) es (newest_open (suc n) es) refl (outside-is (suc n) es)
outside-is zero (catch_level ball handler b ∷ es) = refl
outside-is (suc n) (catch_level ball handler b ∷ es) = outside-beneath n (suc n) (catch_level ball handler b) es (newest_open n es) refl (outside-is n es)
outside-is n (left ∷ es) = outside-beneath (suc n) n left es (newest_open (suc n) es) refl (outside-is (suc n) es)

outside-level : (es : List EntryData) (o : Open) (above below : List EntryData) (ball : Tree) (handler : GoalTree) (b : BackData) → IsOutside zero es o → o ≡ catch_open above ball handler b below → open_level zero (left ∷ es) ≡ open_level zero below
unfolding IsOutside open_level
outside-level es o above below ball handler b h is = subst (IsOutside zero es) is h

-- ---- it is left

-- what the code makes of an answer
abbrev pub CatchMakes : {M : Type 0} (w : World M) (v : StoreView M) (b : ArenasView M) (i : ℕ) (x : Entry M) (es : List EntryData) → FoundCatch w i x es → Places → Type 0
CatchMakes w v b i x es it e =
    Stands (moved w v b) (Now.Going (behind_level x)) (config (going no_goals e w.store.now.state it.back.frames) (leave it.above it.ball it.handler it.back it.below))

-- an answer of a `catch`, from where its goals are done
catch-answers : {M : Type 0} (w : World M) (v : StoreView M) (b : ArenasView M) (i place : ℕ) (x : Entry M) (p : Point) (es : List EntryData) (view : View) (names : List NameSlot) (e : Places) (k : List Frame) →
    StandsGoing w p no_goals e k es → p.count ≡ 0 → p.frame ≡ 0 → IsBalanced zero es → w.arenas.level ≡ suc i → slice_get (entries_of w) i ≡ Some x → x.back.kind ≡ Kind.Catch place →
    ((it : FoundCatch w i x es) (f : Places) → Agrees w w.arenas.level (now_here w) → Holds w.store.now.terms w.arenas.blocks.slots (block_at w.loaded place x.back.base) f → CatchMakes w v b i x es it f) →
    (c : Config) × SilentlyTo view w.loaded.preds names (config (going no_goals e w.store.now.state k) es) c × Stands (moved w v b) (Now.Going (behind_level x)) c
catch-answers w v b i place x p es view names e k stands none last balanced level at named makes =
    let runs : GoingIs w p no_goals e k = going-of w p no_goals e w.store.now.state k stands.runs in
    let it : FoundCatch w i x es = catch-found w i place x es stands.entries balanced level at named in
    let ends : level_ends w w.arenas.level ≡ in_block (block_at w.loaded place x.back.base) =
    ap (λ m. entry_ends w.loaded (entry_at (entries_of w) m)) level ∙ ap (entry_ends w.loaded) at ∙ ap (λ q. ends_of w.loaded q x.back.base) named in
    let there : Arrives w view names (block_at w.loaded place x.back.base) e k es = arrives w view names p (block_at w.loaded place x.back.base) e k es ends last none stands in (
      config (going no_goals there.slots w.store.now.state it.back.frames) (leave it.above it.ball it.handler it.back it.below),
      silently-then view w.loaded.preds names _ _ _ there.silently (one_more (catch-answer-of w i x es view names there.slots it) already),
      makes it there.slots runs.agrees there.holds,
    )

-- ---- without choices left

alone-in : {M : Type 0} (w : World M) (b : ArenasView M) (i from place : ℕ) (x : Entry M) (kind : Kind) (ball : Tree) (handler : GoalTree) (back : BackData) (es fs : List EntryData) (e : Places) →
    Answered w b i x es → EntryIs w fs (entry_at (entries_of w) i) from (length w.arenas.collected) x (catch_level ball handler back) → StackIs w i from fs →
    kind ≡ Kind.Catch place → Holds w.store.now.terms w.arenas.blocks.slots (block_at w.loaded place x.back.base) e →
    KindIs w.loaded w.arenas.collected (back_here w x) (w.store.at_mark x.mark).state x.back.base x.back.frame x.back.blocks.slots from (length w.arenas.collected) kind (catch_level ball handler back) →
    Stands (moved w w.store b) (Now.Going (behind_level x)) (config (going no_goals e w.store.now.state back.frames) fs)
alone-in w b i from place x kind ball handler back es fs e it is below named holds (catch_kind {place = at} {g = g} {handler = h} {wanted = wanted} {e = f} {k = k} own stays one) =
    let same : at ≡ place = cc in
    let gone : GoalLeft w b x.back.base at x.back.frame (catch g wanted h) e k fs =
    goal-left w b i from at x (catch_level ball handler back) (catch g wanted h) es fs f e k it (slice_get_within (entries_of w) i x it.at) is below one own
    (subst (λ q. Holds w.store.now.terms w.arenas.blocks.slots (block_at w.loaded q x.back.base) e) (sym same) holds) in
    record { entries = gone.entries; runs = going_now (behind-level (moved w w.store b) x.back.base at x.back.frame (catch g wanted h) e k gone.goal gone.agrees) }

pub alone-answers : {M : Type 0} (w : World M) (b : ArenasView M) (i place : ℕ) (x : Entry M) (p : Point) (es : List EntryData) (view : View) (names : List NameSlot) (e : Places) (k : List Frame) →
    StandsGoing w p no_goals e k es → p.count ≡ 0 → p.frame ≡ 0 → IsBalanced zero es → w.arenas.level ≡ suc i → slice_get (entries_of w) i ≡ Some x → x.back.kind ≡ Kind.Catch place → length (entries_of w) ≡ suc i → LeavesLevel w.arenas b i x.back →
    (c : Config) × SilentlyTo view w.loaded.preds names (config (going no_goals e w.store.now.state k) es) c × Stands (moved w w.store b) (Now.Going (behind_level x)) c
alone-answers w b i place x p es view names e k stands none last balanced level at named all leaves =
    catch-answers w w.store b i place x p es view names e k stands none last balanced level at named
    (λ it f agrees holds.
    subst (λ r. Stands (moved w w.store b) (Now.Going (behind_level x)) (config (going no_goals f w.store.now.state it.back.frames) r))
    (sym (leave-none it.above it.below it.ball it.handler it.back (omega (arith, lies-above w i x es stands.entries it, all))))
    (alone-in w b i it.from place x x.back.kind it.ball it.handler it.back es it.below f
    (record { stands = stands.entries; balanced = balanced; agrees = agrees; level = level; at = at; left = leaves }) it.is it.stack named holds it.is.kind))

-- ---- with choices left

-- the arenas with an exit, outside of the level
abbrev pub exited : {M : Type 0} → ArenasView M → M → Back → ArenasView M
exited a mark back =
    let b : ArenasView _ = pushed a mark (length a.blocks.slots) back.base back.frame Kind.Exit in
    record { frames = b.frames; blocks = b.blocks; entries = b.entries; level = back.level; collected = b.collected }

get-taken : {A : Type 0} (m i : ℕ) (xs : List A) (x : A) → slice_get (take m xs) i ≡ Some x → slice_get xs i ≡ Some x
get-taken zero i xs x h = absurd cc
get-taken (suc m) i [] x h = h
get-taken (suc m) zero (y ∷ xs) x h = h
get-taken (suc m) (suc i) (y ∷ xs) x h = get-taken m i xs x h

frames-taken : (m n : ℕ) (fs : List Point) → FramesStay (take m fs) fs n
frames-taken m n fs zero p within at = absurd cc
frames-taken m n fs (suc i) p within at = get-taken m i fs p at

exit-leaves : {M : Type 0} (w : World M) (v : StoreView M) (mark : M) (back : Back) (es : List EntryData) → StackStands w es → Marks w.order w.store v mark →
    Leaves w v (exited w.arenas mark back) (length (entries_of w)) (length w.arenas.collected)
exit-leaves w v mark back es stands marks =
    let it : Leaves w v (pushed w.arenas mark (length w.arenas.blocks.slots) back.base back.frame Kind.Exit) (length (entries_of w)) (length w.arenas.collected) =
    pushed-leaves w v mark (length w.arenas.blocks.slots) back.base back.frame (length (entries_of w)) Kind.Exit (omega arith) (kept-within w es stands) marks.stays.keeps in
    record { entries = it.entries; marks = it.marks; blocks = it.blocks; frames = it.frames; collected = it.collected; enough = it.enough; beside = it.beside; names = it.names }

exit-stack : {M : Type 0} (w : World M) (v : StoreView M) (mark : M) (back : Back) (es : List EntryData) → StackStands w es → Marks w.order w.store v mark → Agrees w w.arenas.level (now_here w) → back.level ≡ open_level zero (left ∷ es) →
    StackStands (moved w v (exited w.arenas mark back)) (left ∷ es)
exit-stack w v mark back es stands marks agrees level =
    let slots : ℕ = length w.arenas.blocks.slots in
    let top : ℕ = length w.arenas.collected in
    let m : ℕ = length (entries_of w) in
    let x : Entry _ = new_entry w.arenas mark slots back.base back.frame Kind.Exit in
    let more : length (entries_of w ++ x ∷ []) ≡ suc m = length-append (entries_of w) (x ∷ []) ∙ omega arith in
    let is : StackIs (with_entry w v mark slots back.base back.frame Kind.Exit) (suc m) top (left ∷ es) =
    stack-pushed w v mark slots back.base back.frame top Kind.Exit left es stands marks (kept-within w es stands) (omega arith) (omega arith) (base-fits-in w (entry_at (entries_of w) w.arenas.level) agrees) agrees
    (exit_kind refl) tt stands.stack in
    record {
      code = code-keeps w.loaded.code (tables_in w.loaded) w.store.names v.names w.loaded.preds (λ i name has. marks.stays.keeps.names i name has) stands.code;
      state = subst Rests (sym marks.stays.state) stands.state;
      tables = λ i t has. marks.stays.keeps.terms (record { number = i }) t (stands.tables i t has);
      level = level;
      kept = ap slots_kept_by (sym (newest-last (entries_of w) x));
      stack = subst (λ q. StackIs (moved w v (exited w.arenas mark back)) q top (left ∷ es)) (sym more)
          (stack-moves (with_entry w v mark slots back.base back.frame Kind.Exit) v (exited w.arenas mark back) (suc m) top (suc m) top (left ∷ es)
          (record { entries = refl; marks = λ i z h at good. (good, refl); blocks = λ i z h at kept. (kept, refl); frames = λ i z h at fit. (fit, refl); collected = refl; enough = omega arith; beside = λ m. refl; names = λ k name has. has })
          (omega arith) (omega arith) is);
    }

z-frames : {M : Type 0} (w : World M) (i from level : ℕ) (fs : List EntryData) (x z : Entry M) → StackIs w i from fs → IsAbove w (entry_at (entries_of w) i) x → level ≤ i → entry_at (entries_of w) level ≡ Some z → z.back.frames ≤ x.back.frames
z-frames w i from zero fs x z below above within found = absurd cc
z-frames w i from (suc j) fs x z below above within found =
    omega (arith, (below-kept w i i from fs j z below (omega arith) (omega (arith, within)) found).frames, above-frames w (entry_at (entries_of w) i) x above)

exit-stays : {M : Type 0} (w : World M) (v : StoreView M) (mark : M) (back : Back) (es : List EntryData) → StackStands w es → Marks w.order w.store v mark → (level : ℕ) (z : Entry M) → level ≤ length (entries_of w) →
    entry_at (entries_of w) level ≡ Some z → back_here (moved w v (exited w.arenas mark back)) z ≡ back_here w z
exit-stays w v mark back es stands marks zero z fit found = absurd cc
exit-stays w v mark back es stands marks (suc j) z fit found =
    back-stays w v (exited w.arenas mark back) (length (entries_of w)) (length w.arenas.collected) j z (exit-leaves w v mark back es stands marks) (omega (arith, fit)) found
    (entry-facts w (length (entries_of w)) (length w.arenas.collected) es j z stands.stack (omega (arith, fit)) found)

some-above : (m i n : ℕ) → m + suc i ≡ n → n ≢ suc i → 0 < m
some-above zero i n all more = absurd (more (omega (arith, all)))
some-above (suc m) i n all more = omega arith

exit-goes : {M : Type 0} (w : World M) (v : StoreView M) (mark : M) (i from place : ℕ) (x : Entry M) (y : EntryData) (g : GoalTree) (es fs : List EntryData) (f e : Places) (k : List Frame) →
    StackStands w es → Marks w.order w.store v mark → Agrees w w.arenas.level (now_here w) → w.arenas.level ≡ suc i → slice_get (entries_of w) i ≡ Some x → EntryIs w fs (entry_at (entries_of w) i) from (length w.arenas.collected) x y → StackIs w i from fs →
    GoalStands w.loaded (back_here w x) x.back.base place x.back.frame g f k → Holds w.store.now.terms w.arenas.blocks.slots (block_at w.loaded place x.back.base) e →
    GoingIs (moved w v (exited w.arenas mark x.back)) (behind_level x) no_goals e k
exit-goes w v mark i from place x y g es fs f e k stands marks agrees level at is below own holds =
    let a : ArenasView _ = exited w.arenas mark x.back in
    let after : World _ = moved w v a in
    let block : Block = block_at w.loaded place x.back.base in
    let base : block.base ≡ x.back.base = shape-base (slice_get (steps_of w.loaded) place) x.back.base in
    let n : ℕ = length (entries_of w) in
    let leave_is : Leaves w v a n (length w.arenas.collected) = exit-leaves w v mark x.back es stands marks in
    let inner : agrees_from w (Some x) (now_here w) = subst (λ r. agrees_from w r (now_here w)) at (subst (λ m. agrees_from w (entry_at (entries_of w) m) (now_here w)) level agrees) in
    let fit : suc i ≤ n = slice_get_within (entries_of w) i x at in
    let outer : x.back.level ≤ i = omega (arith, is.level, open_level-within zero fs, stack-length w i from fs below) in
    let ends : level_ends w x.back.level ≡ level_ends after x.back.level =
    ap (entry_ends w.loaded) (entry_at-take (entries_of w) a.entries n x.back.level (omega (arith, outer, fit)) leave_is.entries) in
    let terms : Extend (back_here w x).terms v.now.terms = λ m t has. marks.stays.keeps.terms (record { number = m }) t (inner.0 m t has) in
    let front : take block.base (back_here w x).slots ≡ take block.base w.arenas.blocks.slots = subst (λ m. take m (back_here w x).slots ≡ take m w.arenas.blocks.slots) (sym base) inner.1 in
    behind-level after x.back.base place x.back.frame g e k
    (record {
      last = own.last;
      goal = own.goal;
      behind = record {
        slots = holds-extends w.store.now.terms v.now.terms w.arenas.blocks.slots block e (λ m t has. marks.stays.keeps.terms (record { number = m }) t has) holds;
        leaves = own.behind.leaves;
        frames = goes_on-moves (tables_in w.loaded) (steps_of w.loaded) (back_here w x) (now_here after) block own.behind.leaves x.back.frame k block.base x.back.frame (omega arith) (omega arith)
            (record { long = omega (arith, holds.within); slots = front; terms = terms; frames = frames-taken x.back.frames x.back.frame w.arenas.frames }) ends own.behind.frames;
      };
      leaves = own.leaves;
    })
    (subst (λ r. agrees_from after r (now_here after)) (entry_at-take (entries_of w) a.entries n x.back.level (omega (arith, outer, fit)) leave_is.entries)
    (outer-agrees w v a x block.base (entry_at (entries_of w) x.back.level) terms front (omega (arith, holds.within))
    (λ z found. sym (take-take z.back.frames x.back.frames w.arenas.frames (z-frames w i from x.back.level fs x z below is.older outer found)))
    (λ z found. level-begins w.loaded z (entry_at (entries_of w) x.back.level) block.base found (block-above (tables_in w.loaded) (steps_of w.loaded) (back_here w x) block own.behind.leaves x.back.frame k own.behind.frames))
    (λ z found. exit-stays w v mark x.back es stands marks x.back.level z (omega (arith, outer, fit)) found) is.agrees))

exit-in : {M : Type 0} (w : World M) (v : StoreView M) (mark : M) (i from place : ℕ) (x : Entry M) (kind : Kind) (ball : Tree) (handler : GoalTree) (back : BackData) (es fs : List EntryData) (e : Places) →
    StackStands w es → Marks w.order w.store v mark → Agrees w w.arenas.level (now_here w) → w.arenas.level ≡ suc i → slice_get (entries_of w) i ≡ Some x → x.back.level ≡ open_level zero (left ∷ es) →
    EntryIs w fs (entry_at (entries_of w) i) from (length w.arenas.collected) x (catch_level ball handler back) → StackIs w i from fs →
    kind ≡ Kind.Catch place → Holds w.store.now.terms w.arenas.blocks.slots (block_at w.loaded place x.back.base) e →
    KindIs w.loaded w.arenas.collected (back_here w x) (w.store.at_mark x.mark).state x.back.base x.back.frame x.back.blocks.slots from (length w.arenas.collected) kind (catch_level ball handler back) →
    Stands (moved w v (exited w.arenas mark x.back)) (Now.Going (behind_level x)) (config (going no_goals e v.now.state back.frames) (left ∷ es))
exit-in w v mark i from place x kind ball handler back es fs e stands marks agrees level at outer is below named holds (catch_kind {place = here} {g = g} {handler = h} {wanted = wanted} {e = f} {k = k} own stays one) =
    let same : here ≡ place = cc in
    record {
      entries = exit-stack w v mark x.back es stands marks agrees outer;
      runs = going_now (exit-goes w v mark i from here x (catch_level ball handler back) (catch g wanted h) es fs f e k stands marks agrees level at is below own
          (subst (λ q. Holds w.store.now.terms w.arenas.blocks.slots (block_at w.loaded q x.back.base) e) (sym same) holds));
    }

pub exit-answers : {M : Type 0} (w : World M) (v : StoreView M) (mark : M) (i place : ℕ) (x : Entry M) (p : Point) (es : List EntryData) (view : View) (names : List NameSlot) (e : Places) (k : List Frame) →
    StandsGoing w p no_goals e k es → p.count ≡ 0 → p.frame ≡ 0 → IsBalanced zero es → w.arenas.level ≡ suc i → slice_get (entries_of w) i ≡ Some x → x.back.kind ≡ Kind.Catch place → length (entries_of w) ≢ suc i → Marks w.order w.store v mark →
    (c : Config) × SilentlyTo view w.loaded.preds names (config (going no_goals e w.store.now.state k) es) c × Stands (moved w v (exited w.arenas mark x.back)) (Now.Going (behind_level x)) c
exit-answers w v mark i place x p es view names e k stands none last balanced level at named more marks =
    catch-answers w v (exited w.arenas mark x.back) i place x p es view names e k stands none last balanced level at named
    (λ it f agrees holds.
    let whole : es ≡ it.above ++ catch_level it.ball it.handler it.back ∷ it.below = found-stack es (newest_open zero es) it.above it.below it.ball it.handler it.back (newest-found zero es) it.opens in
    let some : 0 < length it.above = some-above (length it.above) i (length (entries_of w)) (lies-above w i x es stands.entries it) more in
    let outer : x.back.level ≡ open_level zero (left ∷ es) = it.is.level ∙ sym (outside-level es (newest_open zero es) it.above it.below it.ball it.handler it.back (outside-is zero es) it.opens) in
    subst (λ r. Stands (moved w v (exited w.arenas mark x.back)) (Now.Going (behind_level x)) (config (going no_goals f w.store.now.state it.back.frames) r))
    (ap (λ r. left ∷ r) whole ∙ sym (leave-some it.above it.below it.ball it.handler it.back some))
    (subst (λ s. Stands (moved w v (exited w.arenas mark x.back)) (Now.Going (behind_level x)) (config (going no_goals f s it.back.frames) (left ∷ es))) marks.stays.state
    (exit-in w v mark i it.from place x x.back.kind it.ball it.handler it.back es it.below f stands.entries marks agrees level at outer it.is it.stack named holds it.is.kind)))

-- ---- what the code knows of the level

-- a run stands for what silent steps lead to
abbrev pub Reaches : {M : Type 0} → View → List PredTree → List NameSlot → Config → World M → Now → Type 0
Reaches view preds names from after now = (c : Config) × SilentlyTo view preds names from c × Stands after now c

pub record LevelAt {M : Type 0} (w : World M) (number : ℕ) (back : Back) : Type 0 where
  pub i : ℕ
  pub x : Entry M
  pub at : slice_get (entries_of w) i ≡ Some x
  pub level : w.arenas.level ≡ suc i
  pub back_is : x.back ≡ back
  pub is : number ≡ suc i
  pub point : behind_level x ≡ record { place = 0; count = 0; base = back.base; frame = back.frame }

no-entry : {M : Type 0} {x : Entry M} → None ≡ Some x → ⊥
no-entry h = cc

pub level-at : {M : Type 0} (w : World M) (number : ℕ) (back : Back) → IsLevel w.arenas number back → LevelAt w number back
level-at w zero back is = absurd (no-entry is.at)
level-at w (suc i) back is =
    record { i = i; x = is.entry; at = is.at; level = is.is_open; back_is = is.back_is; is = refl; point = ap (λ q. record { place = 0; count = 0; base = q.base; frame = q.frame }) is.back_is }
