-- Entries that are dropped when a level is left.
use Rattle.std.proofs.Common.{◌≡◌, ◌⊎◌, inl, inr, ℕ, zero, suc, ◌≤◌, ◌<◌, max, min, Bool, List, ◌∷◌, Option, Some, None, length, take, refl, sym, ◌∙◌, ap, subst, arith}
use Rattle.std.specs.Prelude.{slice_get}
use Rattle.std.proofs.lemmas.List.{length-take}
use Rattle.pi_terms.specs.Places.{Places}
use Rattle.pi_constraints.specs.Store.{StoreView, Extend}
use Rattle.pi_engine_arenas.specs.Frames.{frame_at}
use Rattle.pi_engine_arenas.specs.Arenas.{ArenasView, entry_at, newest, slots_kept_by, frames_kept_by, noted_by, Drops}
use Rattle.pi_engine_arenas.specs.declared.arenas.Entry.{Entry}
use Rattle.pi_meaning.specs.Machine.Configuration.{Frame, Entry as EntryData}
use Rattle.pi_engine_stands.specs.Here.{Block, block_end, Holds, ends_base, GoesOn}
use Rattle.pi_engine_stands.specs.Stands.{tables_in, World, Loaded, steps_of, entries_of, IsAbove, entry_ends, level_ends, now_here, back_here, Agrees, agrees_from, EntryIs, StackIs, no_entries, entry_above, StackStands}
use Rattle.pi_terms.proofs.ListLemmas.{take-take}
use Rattle.pi_engine_stands.proofs.HereLemmas.{goes_on-moves, holds-moves, take-agrees}
use Rattle.pi_engine_stands.proofs.StandsLemmas.{moved, last-or-below, Leaves, stack-moves, stack-length, open_level-within, entry-facts, back-stays, entry_at-take}
use Rattle.pi_engine_stands.proofs.OlderStand.{kept-by-newest, KeptBy}
use Rattle.pi_engine_stands.proofs.BasesStand.{ends-begin, block-above}

last-or-below-eq : (i m : ℕ) → i ≤ suc m → (i ≤ m) ⊎ (i ≡ suc m)
last-or-below-eq zero m h = inl (omega arith)
last-or-below-eq (suc i) m h =
    elim (last-or-below i m (omega (arith, h))) as (λ w. (suc i ≤ m) ⊎ (suc i ≡ suc m))
    [ inl below ↦ inl (omega (arith, below)) | inr same ↦ inr (ap suc same) ]

pub newest-of-first : {M : Type 0} (xs : List (Entry M)) (n : ℕ) → n ≤ length xs → newest (take n xs) ≡ entry_at xs n
newest-of-first xs n fit =
    let long : length (take n xs) ≡ n = length-take n xs ∙ omega (arith, fit) in
    ap (entry_at (take n xs)) long ∙ entry_at-take (take n xs) xs n n (omega arith) (take-take n n xs (omega arith))

pub below-kept : {M : Type 0} (w : World M) (i n top : ℕ) (es : List EntryData) (j : ℕ) (x : Entry M) → StackIs w n top es → i ≤ n → j < i → slice_get (entries_of w) j ≡ Some x →
    KeptBy w (entry_at (entries_of w) i) x
below-kept w i n top es j x no_entries fit within at = absurd (omega (arith, fit, within))
below-kept w i n top es j x (entry_above m from fs z y here is below) fit within at =
    elim (last-or-below-eq i m fit) as (λ h. KeptBy w (entry_at (entries_of w) i) x) [
      | inl lower ↦ below-kept w i m from fs j x below lower within at
      | inr same ↦ subst (λ k. KeptBy w (entry_at (entries_of w) k) x) (sym same) (kept-by-newest w (suc m) top (y ∷ fs) j x (entry_above m from fs z y here is below) (omega (arith, within, same)) at)
    ]

-- the entries below the first i stay where all others are dropped
pub drops-leave : {M : Type 0} (w : World M) (b : ArenasView M) (i n top frames : ℕ) (es fs : List EntryData) → StackIs w n top es → Drops w.arenas b i frames →
    i ≤ n → n ≤ length (entries_of w) → frames_kept_by (entry_at (entries_of w) i) ≤ frames → top ≤ length w.arenas.collected → Leaves w w.store b i top
drops-leave w b i n top frames es fs stack drops fit within kept some =
    record {
      entries = sym (ap (take i) drops.entries ∙ take-take i i (entries_of w) (omega arith));
      marks = λ j x h at good. (good, refl);
      blocks = λ j x h at is.
          (let below : KeptBy w (entry_at (entries_of w) i) x = below-kept w i n top es j x stack fit h at in
          drops.keeps x.back.blocks is
          (omega (arith, below.slots, ap slots_kept_by (newest-of-first (entries_of w) i (omega (arith, fit, within))), drops.kept))
          (omega (arith, below.trail, ap noted_by (newest-of-first (entries_of w) i (omega (arith, fit, within))))));
      frames = λ j x h at few.
          (let below : KeptBy w (entry_at (entries_of w) i) x = below-kept w i n top es j x stack fit h at in
          let long : length b.frames ≡ min frames (length w.arenas.frames) = ap length drops.frames_are ∙ length-take frames w.arenas.frames in
          (omega (arith, few, below.frames, kept, long), ap (take x.back.frames) drops.frames_are ∙ take-take x.back.frames frames w.arenas.frames (omega (arith, below.frames, kept))));
      collected = ap (take top) (sym drops.collected);
      enough = omega (arith, some, ap length drops.collected);
      beside = λ m. refl;
      names = λ k name has. has;
    }

-- ---- a level that is left

-- the level outside of one that is left: what is there agrees with it
pub outer-agrees : {M : Type 0} (w : World M) (v : StoreView M) (b : ArenasView M) (x : Entry M) (limit : ℕ) (r : Option (Entry M)) → Extend (back_here w x).terms v.now.terms →
    take limit (back_here w x).slots ≡ take limit b.blocks.slots → limit ≤ length b.blocks.slots → ((z : Entry M) → r ≡ Some z → take z.back.frames b.frames ≡ take z.back.frames (back_here w x).frames) →
    ((z : Entry M) → r ≡ Some z → z.back.base ≤ limit) → ((z : Entry M) → r ≡ Some z → back_here (moved w v b) z ≡ back_here w z) → agrees_from w r (back_here w x) →
    agrees_from (moved w v b) r (now_here (moved w v b))
outer-agrees w v b x limit None terms slots long frames bases stay agrees = tt
outer-agrees w v b x limit (Some z) terms slots long frames bases stay agrees =
    subst (λ h. Extend h.terms v.now.terms × (take z.back.base h.slots ≡ take z.back.base b.blocks.slots) × (z.back.base ≤ length b.blocks.slots) × (take z.back.frames b.frames ≡ h.frames)) (sym (stay z refl)) (
      λ n t is. terms n t (agrees.0 n t is),
      agrees.1 ∙ take-agrees z.back.base limit (back_here w x).slots b.blocks.slots (bases z refl) slots,
      omega (arith, bases z refl, long),
      frames z refl ∙ agrees.3,
    )

pub above-frames : {M : Type 0} (w : World M) (r : Option (Entry M)) (x : Entry M) → IsAbove w r x → frames_kept_by r ≤ x.back.frames
above-frames w None x above = omega arith
above-frames w (Some z) x above = above.1

pub outer-stays : {M : Type 0} (w : World M) (b : ArenasView M) (i from : ℕ) (fs : List EntryData) → Leaves w w.store b i from → StackIs w i from fs → (level : ℕ) (z : Entry M) → level ≤ i → entry_at (entries_of w) level ≡ Some z →
    back_here (moved w w.store b) z ≡ back_here w z
outer-stays w b i from fs leave below zero z fit found = absurd cc
outer-stays w b i from fs leave below (suc j) z fit found =
    back-stays w w.store b i from j z leave (omega (arith, fit)) found (entry-facts w i from fs j z below (omega (arith, fit)) found)

-- what is there once the level is left: the entries below stand for the rest of the stack, and the level's block goes on
pub record LeftBy {M : Type 0} (w : World M) (b : ArenasView M) (block : Block) (leaves : Bool) (frame : ℕ) (e : Places) (k : List Frame) (fs : List EntryData) : Type 0 where
  pub entries : StackStands (moved w w.store b) fs
  pub slots : Holds w.store.now.terms b.blocks.slots block e
  pub frames : GoesOn (tables_in w.loaded) (steps_of w.loaded) (now_here (moved w w.store b)) block leaves frame k
  pub agrees : Agrees (moved w w.store b) b.level (now_here (moved w w.store b))

pub level-behind : {M : Type 0} (w : World M) (b : ArenasView M) (i from to top n limit : ℕ) (x : Entry M) (y : EntryData) (es fs : List EntryData) (block : Block) (leaves : Bool) (e : Places) (k : List Frame) →
    StackStands w es → StackIs w n top es → suc i ≤ n → n ≤ length (entries_of w) → top ≤ length w.arenas.collected → slice_get (entries_of w) i ≡ Some x → EntryIs w fs (entry_at (entries_of w) i) from to x y → StackIs w i from fs →
    from ≡ length w.arenas.collected → agrees_from w (Some x) (now_here w) → Drops w.arenas b i x.back.frames → b.blocks.slots ≡ take (max limit b.blocks.kept) w.arenas.blocks.slots → b.level ≡ x.back.level →
    block.base ≤ x.back.base → block_end block ≤ limit → Holds w.store.now.terms w.arenas.blocks.slots block e → GoesOn (tables_in w.loaded) (steps_of w.loaded) (back_here w x) block leaves x.back.frame k →
    LeftBy w b block leaves x.back.frame e k fs
level-behind w b i from to top n limit x y es fs block leaves e k stands all fit within some at is below none agrees drops cut level_is base block_fits holds goes =
    let l : Loaded = w.loaded in
    let frames_kept : frames_kept_by (entry_at (entries_of w) i) ≤ x.back.frames = above-frames w (entry_at (entries_of w) i) x is.older in
    let leave : Leaves w w.store b i from = drops-leave w b i i from x.back.frames fs fs below drops (omega arith) (omega (arith, fit, within)) frames_kept (omega (arith, none)) in
    let long : length b.entries ≡ i = ap length drops.entries ∙ length-take i (entries_of w) ∙ omega (arith, fit, within) in
    let depth : length fs ≡ i = stack-length w i from fs below in
    let level : x.back.level ≤ i = omega (arith, is.level, open_level-within zero fs, depth) in
    let long_slots : length b.blocks.slots ≡ min (max limit b.blocks.kept) (length w.arenas.blocks.slots) = ap length cut ∙ length-take (max limit b.blocks.kept) w.arenas.blocks.slots in
    let fits : block_end block ≤ length b.blocks.slots = omega (arith, long_slots, block_fits, holds.within) in
    let same : take (block_end block) w.arenas.blocks.slots ≡ take (block_end block) b.blocks.slots =
    sym (ap (take (block_end block)) cut ∙ take-take (block_end block) (max limit b.blocks.kept) w.arenas.blocks.slots (omega (arith, block_fits))) in
    let front : take block.base (back_here w x).slots ≡ take block.base b.blocks.slots =
    take-agrees block.base x.back.base (back_here w x).slots w.arenas.blocks.slots base agrees.1 ∙ take-agrees block.base (block_end block) w.arenas.blocks.slots b.blocks.slots (omega arith) same in
    let ends : level_ends w x.back.level ≡ level_ends (moved w w.store b) b.level =
    ap (entry_ends l) (entry_at-take (entries_of w) b.entries i x.back.level level leave.entries) ∙ ap (λ m. entry_ends l (entry_at b.entries m)) (sym level_is) in
    record {
      entries = record {
        code = stands.code;
        state = stands.state;
        tables = stands.tables;
        level = level_is ∙ is.level;
        kept = drops.kept ∙ ap (λ r. slots_kept_by (newest r)) (sym drops.entries);
        stack = subst (λ m. StackIs (moved w w.store b) m (length b.collected) fs) (sym long)
            (subst (λ m. StackIs (moved w w.store b) i m fs) (none ∙ ap length (sym drops.collected)) (stack-moves w w.store b i from i from fs leave (omega arith) (omega arith) below));
      };
      slots = holds-moves w.store.now.terms w.store.now.terms w.arenas.blocks.slots b.blocks.slots block e (block_end block) (omega arith) fits same (λ m t h. h) holds;
      frames = goes_on-moves (tables_in l) (steps_of l) (back_here w x) (now_here (moved w w.store b)) block leaves x.back.frame k block.base x.back.frame (omega arith) (omega arith)
          (record {
            long = omega (arith, fits);
            slots = front;
            terms = agrees.0;
            frames = λ m q few found. subst (λ r. frame_at r m ≡ Some q) (sym drops.frames_are) found;
          })
          ends goes;
      agrees = subst (λ m. Agrees (moved w w.store b) m (now_here (moved w w.store b))) (sym level_is)
          (subst (λ r. agrees_from (moved w w.store b) r (now_here (moved w w.store b))) (entry_at-take (entries_of w) b.entries i x.back.level level leave.entries)
          (outer-agrees w w.store b x block.base (entry_at (entries_of w) x.back.level) agrees.0 front (omega (arith, fits)) (λ z found. ap (take z.back.frames) drops.frames_are)
          (λ z found. omega (arith, sym (ap (λ r. ends_base (entry_ends l r)) found), ends-begin l z.back.kind z.back.base, block-above (tables_in l) (steps_of l) (back_here w x) block leaves x.back.frame k goes))
          (λ z found. outer-stays w b i from fs leave below x.back.level z level found)
          is.agrees));
    }
