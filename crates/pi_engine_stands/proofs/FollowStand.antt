-- A frame that is gone on with.
use Rattle.std.proofs.Common.{◌≡◌, ℕ, zero, suc, ◌-◌, ◌≤◌, ◌<◌, max, min, Bool, List, Option, Some, None, length, take, refl, sym, ◌∙◌, ap, subst, arith}
use Rattle.std.specs.Prelude.{slice_get}
use Rattle.std.proofs.lemmas.List.{length-take}
use Rattle.pi_terms.specs.Tree.{Tree}
use Rattle.pi_terms.specs.Places.{Places}
use Rattle.pi_constraints.specs.State.{State}
use Rattle.pi_meaning.specs.Shared.View.{View}
use Rattle.pi_core.specs.CoreTree.{PredTree}
use Rattle.pi_core.specs.GoalTree.{GoalTrees, no_goals, goal}
use Rattle.pi_core.specs.declared.core_program.NameSlot.{NameSlot}
use Rattle.pi_engine_arenas.specs.declared.frames.Point.{Point}
use Rattle.pi_engine_arenas.specs.declared.run.Now.{Now}
use Rattle.pi_engine_code.specs.declared.code.Step.{Step}
use Rattle.pi_engine_code.specs.Code.{Tables}
use Rattle.pi_engine_arenas.specs.Frames.{frame_at}
use Rattle.pi_engine_arenas.specs.Arenas.{ArenasView, entry_at, newest, slots_kept_by, frames_kept_by, FollowsFrame}
use Rattle.pi_engine_arenas.specs.declared.arenas.Entry.{Entry}
use Rattle.pi_meaning.specs.Machine.Configuration.{Frame, behind, Entry as EntryData, Config, config, going}
use Rattle.pi_meaning.specs.Machine.Step.{step, frame_step}
use Rattle.pi_engine_stands.specs.Here.{Block, AreHere, none_here, value_here, Holds, valued, GoesOn, answers, gives, returns_to_end, more_of_block, returns_to}
use Rattle.pi_engine_stands.specs.Stands.{tables_in, World, steps_of, entries_of, entry_ends, level_ends, now_here, back_here, Agrees, agrees_from, StackIs, StackStands, Stands, GoingIs, NowIs, going_now, StandsGoing}
use Rattle.pi_constraints.specs.Store.{Extend}
use Rattle.pi_engine_stands.specs.Makes.{SilentlyTo, already, one_more}
use Rattle.pi_terms.proofs.ListLemmas.{take-take}
use Rattle.pi_engine_stands.proofs.HereLemmas.{FramesStay, Moves, goes_on-moves, holds-moves}
use Rattle.pi_engine_stands.proofs.StandsLemmas.{moved, slice-take, Leaves, stack-moves, stack-length, open_level-within, back-stays, entry-facts}
use Rattle.pi_engine_stands.proofs.OpenStand.{level-base}
use Rattle.pi_engine_stands.proofs.OlderStand.{kept-by-newest}
use Rattle.pi_engine_stands.proofs.FramesStand.{going-of}

-- ---- the entries stay

follows-leaves : {M : Type 0} (w : World M) (b : ArenasView M) (p next : Point) (es : List EntryData) → StackStands w es → FollowsFrame w.arenas b p next →
    Leaves w w.store b (length (entries_of w)) (length w.arenas.collected)
follows-leaves w b p next es stands follows =
    let n : ℕ = length (entries_of w) in
    record {
      entries = ap (take n) (sym follows.entries);
      marks = λ i x h at good. (good, refl);
      blocks = λ i x h at kept. follows.keeps x.back.blocks kept;
      frames = λ i x h at fit.
          (let below : x.back.frames ≤ frames_kept_by (newest (entries_of w)) = (kept-by-newest w n (length w.arenas.collected) es i x stands.stack h at).frames in
          let long : length b.frames ≡ min (max (p.frame - 1) (frames_kept_by (newest (entries_of w)))) (length w.arenas.frames) =
          ap length follows.frames ∙ length-take (max (p.frame - 1) (frames_kept_by (newest (entries_of w)))) w.arenas.frames in (
            omega (arith, fit, below, long),
            ap (take x.back.frames) follows.frames ∙ take-take x.back.frames (max (p.frame - 1) (frames_kept_by (newest (entries_of w)))) w.arenas.frames (omega (arith, below)),
          ));
      collected = ap (take (length w.arenas.collected)) (sym follows.collected);
      enough = omega (arith, ap length follows.collected);
      beside = λ m. refl;
      names = λ k name has. has;
    }

pub stack-follows : {M : Type 0} (w : World M) (b : ArenasView M) (p next : Point) (es : List EntryData) → StackStands w es → FollowsFrame w.arenas b p next →
    StackStands (moved w w.store b) es
stack-follows w b p next es stands follows =
    record {
      code = stands.code;
      state = stands.state;
      tables = stands.tables;
      level = follows.level ∙ stands.level;
      kept = follows.kept ∙ stands.kept ∙ ap (λ r. slots_kept_by (newest r)) (sym follows.entries);
      stack = subst (λ r. StackIs (moved w w.store b) (length r) (length b.collected) es) (sym follows.entries)
          (subst (λ r. StackIs (moved w w.store b) (length (entries_of w)) (length r) es) (sym follows.collected)
          (stack-moves w w.store b (length (entries_of w)) (length w.arenas.collected) (length (entries_of w)) (length w.arenas.collected) es
          (follows-leaves w b p next es stands follows) (omega arith) (omega arith) stands.stack));
    }

-- ---- what runs

frames-kept-front : (fs : List Point) (m n : ℕ) → n ≤ m → FramesStay fs (take m fs) n
frames-kept-front fs m n fit zero p within at = absurd cc
frames-kept-front fs m n fit (suc i) p within at =
    slice-take (take m fs) fs m i (omega (arith, within, fit)) (take-take m m fs (omega arith)) ∙ at

-- what lies in front of the present block moves with it
follow-moves : {M : Type 0} (w : World M) (b : ArenasView M) (p next : Point) (limit : ℕ) → FollowsFrame w.arenas b p next → limit ≤ p.base → limit ≤ length w.arenas.blocks.slots →
    Moves (now_here w) (now_here (moved w w.store b)) limit (p.frame - 1)
follow-moves w b p next limit follows fit within =
    let front : (take limit b.blocks.slots ≡ take limit w.arenas.blocks.slots) × (limit ≤ length b.blocks.slots) = follows.front limit (omega (arith, fit)) within in
    record {
      long = front.1;
      slots = sym front.0;
      terms = λ n x is. is;
      frames = λ n q few at. subst (λ fs. frame_at fs n ≡ Some q) (sym follows.frames) (frames-kept-front w.arenas.frames (max (p.frame - 1) (frames_kept_by (newest (entries_of w)))) (p.frame - 1) (omega arith) n q few at);
    }

follow-ends : {M : Type 0} (w : World M) (b : ArenasView M) (p next : Point) → FollowsFrame w.arenas b p next → level_ends w w.arenas.level ≡ level_ends (moved w w.store b) b.level
follow-ends w b p next follows =
    ap (λ r. entry_ends w.loaded (entry_at r w.arenas.level)) (sym follows.entries) ∙ ap (λ n. entry_ends w.loaded (entry_at b.entries n)) (sym follows.level)

level-facts : {M : Type 0} (w : World M) (n top level : ℕ) (es : List EntryData) (x : Entry M) → StackIs w n top es → level ≤ n → entry_at (entries_of w) level ≡ Some x →
    (i : ℕ) × (i < n) × (slice_get (entries_of w) i ≡ Some x)
level-facts w n top zero es x stack fit at = absurd cc
level-facts w n top (suc i) es x stack fit at = (i, omega (arith, fit), at)

followed-agrees : {M : Type 0} (w : World M) (b : ArenasView M) (p next : Point) (es : List EntryData) (r : Option (Entry M)) → StackStands w es → FollowsFrame w.arenas b p next →
    entry_at (entries_of w) w.arenas.level ≡ r → agrees_from w r (now_here w) → agrees_from (moved w w.store b) r (now_here (moved w w.store b))
followed-agrees w b p next es None stands follows at agrees = tt
followed-agrees w b p next es (Some x) stands follows at agrees =
    let n : ℕ = length (entries_of w) in
    let long : length es ≡ n = stack-length w n (length w.arenas.collected) es stands.stack in
    let it : (i : ℕ) × (i < n) × (slice_get (entries_of w) i ≡ Some x) = level-facts w n (length w.arenas.collected) w.arenas.level es x stands.stack (omega (arith, stands.level, open_level-within zero es, long)) at in
    let stays : back_here (moved w w.store b) x ≡ back_here w x =
    back-stays w w.store b n (length w.arenas.collected) it.0 x (follows-leaves w b p next es stands follows) it.1 it.2 (entry-facts w n (length w.arenas.collected) es it.0 x stands.stack it.1 it.2) in
    let base : x.back.base ≤ w.arenas.blocks.kept = level-base w es stands x at in
    let front : (take x.back.base b.blocks.slots ≡ take x.back.base w.arenas.blocks.slots) × (x.back.base ≤ length b.blocks.slots) = follows.front x.back.base (omega (arith, base)) agrees.2 in
    subst (λ h. Extend h.terms w.store.now.terms × (take x.back.base h.slots ≡ take x.back.base b.blocks.slots) × (x.back.base ≤ length b.blocks.slots) × (take x.back.frames b.frames ≡ h.frames)) (sym stays)
    (agrees.0, agrees.1 ∙ sym front.0, front.1, ((follows-leaves w b p next es stands follows).frames it.0 x it.1 it.2 (entry-facts w n (length w.arenas.collected) es it.0 x stands.stack it.1 it.2).frames).1)

follow-agrees : {M : Type 0} (w : World M) (b : ArenasView M) (p next : Point) (es : List EntryData) → StackStands w es → FollowsFrame w.arenas b p next → Agrees w w.arenas.level (now_here w) →
    Agrees (moved w w.store b) b.level (now_here (moved w w.store b))
follow-agrees w b p next es stands follows agrees =
    subst (λ n. Agrees (moved w w.store b) n (now_here (moved w w.store b))) (sym follows.level)
    (subst (λ r. agrees_from (moved w w.store b) (entry_at r w.arenas.level) (now_here (moved w w.store b))) (sym follows.entries)
    (followed-agrees w b p next es (entry_at (entries_of w) w.arenas.level) stands follows refl agrees))

pub no-value : (t : Tables) (steps : List Step) (b : Block) (place count : ℕ) (value : Option Tree) (last : Bool) → count ≡ 0 → AreHere t steps b place count no_goals value last → value ≡ None
no-value t steps b place count value last none none_here = refl
no-value t steps b place count value last none (value_here is) = absurd (omega (arith, none))

-- what is left to do behind the goals of a block, once its frame is gone on with
goals-next : (view : View) (preds : List PredTree) (names : List NameSlot) (gs : GoalTrees) (value : Option Tree) (e : Places) (t : State) (k : List Frame) (es : List EntryData) →
    SilentlyTo view preds names (config (going no_goals e t (behind gs (valued value k))) es) (config (going gs e t (valued value k)) es)
unfolding step frame_step
goals-next view preds names no_goals value e t k es = already
goals-next view preds names (goal g gs) value e t k es = one_more refl already

follow-going : {M : Type 0} (w : World M) (b : ArenasView M) (p next : Point) (view : View) (names : List NameSlot) (block : Block) (leaves : Bool) (e : Places) (n : ℕ) (k : List Frame) (es : List EntryData) →
    StackStands w es → FollowsFrame w.arenas b p next → block.base ≡ p.base → n ≡ p.frame → frame_at w.arenas.frames n ≡ Some next → Holds w.store.now.terms w.arenas.blocks.slots block e →
    Agrees w w.arenas.level (now_here w) → GoesOn (tables_in w.loaded) (steps_of w.loaded) (now_here w) block leaves n k →
    (c : Config) × SilentlyTo view w.loaded.preds names (config (going no_goals e w.store.now.state k) es) c × Stands (moved w w.store b) (Now.Going next) c
unfolding step frame_step
follow-going w b p next view names block leaves e n k es stands follows base number at holds agrees (answers is) = absurd cc
follow-going w b p next view names block leaves e n k es stands follows base number at holds agrees (gives start is lies) = absurd cc
follow-going w b p next view names block leaves e n k es stands follows base number at holds agrees (returns_to_end d is lies held) = absurd cc
follow-going w b p next view names block leaves e n k es stands follows base number at holds agrees (more_of_block q gs value last out k' there same earlier some here and_leaves rest) =
    let is_next : q ≡ next = cc in
    let blocks : b.blocks ≡ w.arenas.blocks = follows.same (ap (λ r. r.base) (sym is_next) ∙ same ∙ base) in (
      config (going gs e w.store.now.state (valued value k')) es,
      goals-next view w.loaded.preds names gs value e w.store.now.state k' es,
      record {
        entries = stack-follows w b p next es stands follows;
        runs = subst (λ r. NowIs (moved w w.store b) (Now.Going r) (going gs e w.store.now.state (valued value k'))) is_next (going_now (record {
          block = block;
          base = sym same;
          value = value;
          last = last;
          rest = k';
          goals = here;
          behind = record {
            slots = subst (λ x. Holds w.store.now.terms x.slots block e) (sym blocks) holds;
            leaves = out;
            frames = goes_on-moves (tables_in w.loaded) (steps_of w.loaded) (now_here w) (now_here (moved w w.store b)) block out q.frame k' block.base (p.frame - 1) (omega arith) (omega (arith, earlier, number))
                (follow-moves w b p next block.base follows (omega (arith, base)) (omega (arith, holds.within))) (follow-ends w b p next follows) rest;
          };
          leaves = and_leaves;
          frames = refl;
          agrees = follow-agrees w b p next es stands follows agrees;
        }));
      },
    )
follow-going w b p next view names block leaves e n k es stands follows base number at holds agrees (returns_to {e = f} q d gs value last out k' there same lies earlier some held here and_leaves rest) =
    let is_next : q ≡ next = cc in
    let moves : Moves (now_here w) (now_here (moved w w.store b)) block.base (p.frame - 1) = follow-moves w b p next block.base follows (omega (arith, base)) (omega (arith, holds.within)) in (
      config (going gs f w.store.now.state (valued value k')) es,
      one_more refl (goals-next view w.loaded.preds names gs value f w.store.now.state k' es),
      record {
        entries = stack-follows w b p next es stands follows;
        runs = subst (λ r. NowIs (moved w w.store b) (Now.Going r) (going gs f w.store.now.state (valued value k'))) is_next (going_now (record {
          block = d;
          base = sym same;
          value = value;
          last = last;
          rest = k';
          goals = here;
          behind = record {
            slots = holds-moves w.store.now.terms w.store.now.terms w.arenas.blocks.slots b.blocks.slots d f block.base lies moves.long moves.slots (λ m x is. is) held;
            leaves = out;
            frames = goes_on-moves (tables_in w.loaded) (steps_of w.loaded) (now_here w) (now_here (moved w w.store b)) d out q.frame k' block.base (p.frame - 1) (omega (arith, lies)) (omega (arith, earlier, number))
                moves (follow-ends w b p next follows) rest;
          };
          leaves = and_leaves;
          frames = refl;
          agrees = follow-agrees w b p next es stands follows agrees;
        }));
      },
    )

-- goals that are done, with a frame behind them
pub frame-followed : {M : Type 0} (w : World M) (b : ArenasView M) (p next : Point) (view : View) (names : List NameSlot) (e : Places) (k : List Frame) (es : List EntryData) →
    FollowsFrame w.arenas b p next → frame_at w.arenas.frames p.frame ≡ Some next → p.count ≡ 0 → StandsGoing w p no_goals e k es →
    (c : Config) × SilentlyTo view w.loaded.preds names (config (going no_goals e w.store.now.state k) es) c × Stands (moved w w.store b) (Now.Going next) c
frame-followed w b p next view names e k es follows at none stands =
    let is : GoingIs w p no_goals e k = going-of w p no_goals e w.store.now.state k stands.runs in
    let rest : k ≡ is.rest = is.frames ∙ ap (λ v. valued v is.rest) (no-value (tables_in w.loaded) (steps_of w.loaded) is.block p.place p.count is.value is.last none is.goals) in
    subst (λ r. (c : Config) × SilentlyTo view w.loaded.preds names (config (going no_goals e w.store.now.state r) es) c × Stands (moved w w.store b) (Now.Going next) c) (sym rest)
    (follow-going w b p next view names is.block is.behind.leaves e p.frame is.rest es stands.entries follows is.base refl at is.behind.slots is.agrees is.behind.frames)
