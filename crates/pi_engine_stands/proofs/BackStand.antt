-- The newest entry is come back to, and then it is dropped.
use Rattle.std.proofs.Common.{◌≡◌, ℕ, zero, suc, ◌-◌, ◌≤◌, min, List, [], ◌∷◌, Some, None, length, take, refl, sym, ◌∙◌, ap, subst, arith}
use Rattle.std.specs.Prelude.{slice_get}
use Rattle.std.proofs.lemmas.List.{length-take, take_all}
use Rattle.pi_terms.specs.Tree.{Tree}
use Rattle.pi_engine_stands.specs.Rests.{Rests}
use Rattle.pi_constraints.specs.Store.{StoreView, IsGood, Returns, Extend}
use Rattle.pi_engine_arenas.specs.declared.arenas.Back.{Back}
use Rattle.pi_engine_arenas.specs.declared.blocks.BlocksMark.{BlocksMark}
use Rattle.pi_engine_arenas.specs.Blocks.{IsKept, brought_back}
use Rattle.pi_engine_arenas.specs.Arenas.{ArenasView, entry_at, newest, slots_kept_by, frames_kept_by, noted_by, Drops, ComesBack, ReturnsToNewest, DropsNewest, between}
use Rattle.pi_engine_arenas.specs.declared.arenas.Entry.{Entry}
use Rattle.pi_meaning.specs.Machine.Configuration.{Entry as EntryData}
use Rattle.pi_meaning.specs.Machine.Shape.{open_level}
use Rattle.pi_engine_stands.specs.Stands.{tables_in, World, IsCodeOf, entries_of, entry_ends, level_ends, now_here, back_here, Agrees, KindIs, EntryIs, StackIs, no_entries, entry_above, StackLies, StackStands}
use Rattle.pi_engine_stands.specs.Fails.{IsBack}
use Rattle.pi_terms.proofs.ListLemmas.{take-take}
use Rattle.pi_terms.proofs.OptionLemmas.{none-some, taken-is}
use Rattle.pi_engine_stands.proofs.ProgramStands.{code-keeps}
use Rattle.pi_engine_stands.proofs.StandsLemmas.{moved, here_of, Leaves, stack-moves, entry-moves, stack-length, open_level-within, agrees-moves, back-stays, entry-facts, entry_at-take, kind-order}
use Rattle.pi_engine_stands.proofs.OlderStand.{kept-by-newest, KeptBy}
use Rattle.pi_engine_stands.proofs.LeaveStand.{above-frames, drops-leave}

-- ---- the newest entry is come back to

-- all entries stay
back-leaves : {M : Type 0} (w : World M) (v : StoreView M) (b : ArenasView M) (m top : ℕ) (x : Entry M) (es : List EntryData) → StackIs w (suc m) top es → slice_get (entries_of w) m ≡ Some x →
    IsKept w.arenas.blocks x.back.blocks → ComesBack w.arenas b x.back → Returns w.order w.store v x.mark → top ≤ length w.arenas.collected → Leaves w v b (suc m) top
back-leaves w v b m top x es whole here good_blocks comes returns some =
    record {
      entries = ap (take (suc m)) (sym comes.entries);
      marks = λ j z h at good.
          (let top_is : KeptBy w (entry_at (entries_of w) (suc m)) z = kept-by-newest w (suc m) top es j z whole h at in
          (returns.good z.mark good (top_is.order x here), returns.same z.mark good (top_is.order x here)));
      blocks = λ j z h at kept.
          (let top_is : KeptBy w (entry_at (entries_of w) (suc m)) z = kept-by-newest w (suc m) top es j z whole h at in
          comes.keeps z.back.blocks good_blocks kept
          (record { slots = omega (arith, top_is.slots, ap slots_kept_by here); trail = omega (arith, top_is.trail, ap noted_by here) }));
      frames = λ j z h at few.
          (let top_is : KeptBy w (entry_at (entries_of w) (suc m)) z = kept-by-newest w (suc m) top es j z whole h at in
          let within : z.back.frames ≤ x.back.frames = omega (arith, top_is.frames, ap frames_kept_by here) in
          let long : length b.frames ≡ min x.back.frames (length w.arenas.frames) = ap length comes.frames ∙ length-take x.back.frames w.arenas.frames in
          (omega (arith, few, within, long), ap (take z.back.frames) comes.frames ∙ take-take z.back.frames x.back.frames w.arenas.frames within));
      collected = ap (take top) (sym comes.collected);
      enough = omega (arith, some, ap length comes.collected);
      beside = returns.beside;
      names = returns.names;
    }

-- what the newest entry is, and what is below it
pub record CameBack {M : Type 0} (w : World M) (back : Back) (es : List EntryData) : Type 0 where
  pub waits : EntryData
  pub below : List EntryData
  pub is : es ≡ waits ∷ below
  pub back_at : IsBack w back waits below

came-back-in : {M : Type 0} (w : World M) (v : StoreView M) (b : ArenasView M) (back : Back) (n top : ℕ) (es : List EntryData) → StackLies w es →
    ReturnsToNewest w.order (between w.store v w.arenas b) back → length (entries_of w) ≡ n → top ≡ length w.arenas.collected → StackIs w n top es → CameBack (moved w v b) back es
came-back-in w v b back n top es stands takes count all no_entries = absurd (none-some refl (sym (ap (entry_at (entries_of w)) count) ∙ takes.newest_is))
came-back-in w v b back n top es stands takes count all (entry_above m from fs x y here is below) =
    let taken : x ≡ takes.entry = taken-is (ap (entry_at (entries_of w)) count) takes.newest_is here in
    let back_is : x.back ≡ back = ap (λ r. r.back) taken ∙ takes.back_is in
    let comes : ComesBack w.arenas b x.back = subst (λ q. ComesBack w.arenas b q) (sym back_is) takes.comes in
    let returns : Returns w.order w.store v x.mark = subst (λ r. Returns w.order w.store v r.mark) (sym taken) (takes.returns (subst (λ r. IsGood w.store r.mark) taken is.good)) in
    let whole : StackIs w (suc m) top (y ∷ fs) = entry_above m from fs x y here is below in
    let leave : Leaves w v b (suc m) top = back-leaves w v b m top x (y ∷ fs) whole here is.kept comes returns (omega (arith, all)) in
    let depth : length fs ≡ m = stack-length w m from fs below in
    let level : x.back.level ≤ m = omega (arith, is.level, open_level-within zero fs, depth) in
    let order : from ≤ top = kind-order w.loaded w.arenas.collected (back_here w x) (w.store.at_mark x.mark).state x.back.base x.back.frame x.back.blocks.slots from top x.back.kind y is.kind in
    let stays : back_here (moved w v b) x ≡ back_here w x = back-stays w v b (suc m) top m x leave (omega arith) here (entry-facts w (suc m) top (y ∷ fs) m x whole (omega arith) here) in
    let ends : level_ends (moved w v b) b.level ≡ level_ends w x.back.level =
    ap (λ k. entry_ends w.loaded (entry_at b.entries k)) comes.level ∙ ap (λ r. entry_ends w.loaded (entry_at r x.back.level)) comes.entries in
    let now : now_here (moved w v b) ≡ back_here w x =
    ap (λ k. here_of k.terms b.blocks.slots b.frames (level_ends (moved w v b) b.level)) returns.now
    ∙ ap (λ s. here_of (w.store.at_mark x.mark).terms s b.frames (level_ends (moved w v b) b.level)) (comes.slots is.kept)
    ∙ ap (λ f. here_of (w.store.at_mark x.mark).terms (brought_back x.back.blocks w.arenas.blocks) f (level_ends (moved w v b) b.level)) comes.frames
    ∙ ap (here_of (w.store.at_mark x.mark).terms (brought_back x.back.blocks w.arenas.blocks) (take x.back.frames w.arenas.frames)) ends in
    record {
      waits = y;
      below = fs;
      is = refl;
      back_at = record {
        below = m;
        from = from;
        entry = x;
        count = ap length comes.entries ∙ count;
        at = ap (λ r. slice_get r m) comes.entries ∙ here;
        back_is = back_is;
        is = subst (λ t. EntryIs (moved w v b) fs (entry_at b.entries m) from t x y) (all ∙ ap length (sym comes.collected))
            (entry-moves w v b (suc m) top m from top fs x y leave (omega arith) (omega arith) here is below);
        stack = stack-moves w v b (suc m) top m from fs leave (omega arith) order below;
        here = now ∙ sym stays;
        now = ap (λ k. k.state) returns.now ∙ ap (λ k. k.state) (sym (leave.marks m x (omega arith) here is.good).1);
        words = ap (λ k. k.words) returns.now ∙ ap (λ k. k.words) (sym (leave.marks m x (omega arith) here is.good).1);
        level = comes.level ∙ ap (λ r. r.level) back_is;
        kept = comes.kept ∙ stands.kept ∙ ap (λ r. slots_kept_by (newest r)) (sym comes.entries);
        code = code-keeps w.loaded.code (tables_in w.loaded) w.store.names v.names w.loaded.preds (λ k name has. returns.names k name has) stands.code;
        tables = subst (λ k. Extend w.loaded.terms k.terms) (sym returns.now) is.tables;
      };
    }

pub came-back : {M : Type 0} (w : World M) (v : StoreView M) (b : ArenasView M) (back : Back) (es : List EntryData) → StackLies w es →
    ReturnsToNewest w.order (between w.store v w.arenas b) back → CameBack (moved w v b) back es
came-back w v b back es stands takes = came-back-in w v b back (length (entries_of w)) (length w.arenas.collected) es stands takes refl refl stands.stack

-- the state is the one that the entry was made in
pub back-rests : {M : Type 0} (w : World M) (back : Back) (y : EntryData) (es : List EntryData) → IsBack w back y es → Rests w.store.now.state
back-rests w back y es it = subst Rests (sym it.now) it.is.state

-- what the entry waits for, in what is there
pub back-kind : {M : Type 0} (w : World M) (back : Back) (y : EntryData) (es : List EntryData) → (it : IsBack w back y es) →
    KindIs w.loaded w.arenas.collected (now_here w) w.store.now.state back.base back.frame back.blocks.slots it.from (length w.arenas.collected) back.kind y
back-kind w back y es it =
    let x : Entry _ = it.entry in
    let top : ℕ = length w.arenas.collected in
    subst (λ r. KindIs w.loaded w.arenas.collected (now_here w) w.store.now.state r.base r.frame r.blocks.slots it.from top r.kind y) it.back_is
    (subst (λ h. KindIs w.loaded w.arenas.collected h w.store.now.state x.back.base x.back.frame x.back.blocks.slots it.from top x.back.kind y) (sym it.here)
    (subst (λ s. KindIs w.loaded w.arenas.collected (back_here w x) s x.back.base x.back.frame x.back.blocks.slots it.from top x.back.kind y) (sym it.now) it.is.kind))

-- which agrees with its level
pub back-agrees : {M : Type 0} (w : World M) (back : Back) (y : EntryData) (es : List EntryData) → IsBack w back y es → Agrees w w.arenas.level (now_here w)
back-agrees w back y es it =
    subst (λ n. Agrees w n (now_here w)) (ap (λ r. r.level) it.back_is ∙ sym it.level)
    (subst (λ h. Agrees w it.entry.back.level h) (sym it.here) it.is.agrees)

-- without a newest entry the stack is empty
nothing-in : {M : Type 0} (w : World M) (n top : ℕ) (es : List EntryData) → newest (entries_of w) ≡ None → length (entries_of w) ≡ n → StackIs w n top es → es ≡ []
nothing-in w n top es none count no_entries = refl
nothing-in w n top es none count (entry_above m from fs x y here is below) = absurd (none-some (sym (ap (entry_at (entries_of w)) count) ∙ none) here)

pub nothing-there : {M : Type 0} (w : World M) (es : List EntryData) → StackLies w es → newest (entries_of w) ≡ None → es ≡ []
nothing-there w es stands none = nothing-in w (length (entries_of w)) (length w.arenas.collected) es none refl stands.stack

-- ---- it is dropped

-- what the entry waits for stands in what is there, and the entries below stand for the rest of the stack
pub record Popped {M : Type 0} (w : World M) (back : Back) (collected : List Tree) (from : ℕ) (y : EntryData) (es : List EntryData) : Type 0 where
  pub code : IsCodeOf w.loaded.code (tables_in w.loaded) w.store.names w.loaded.preds
  pub state : Rests w.store.now.state
  pub tables : Extend w.loaded.terms w.store.now.terms
  pub level : w.arenas.level ≡ open_level zero es
  pub kept : w.arenas.blocks.kept ≡ slots_kept_by (newest (entries_of w))
  pub stack : StackIs w (length (entries_of w)) from es
  pub kind : KindIs w.loaded collected (now_here w) w.store.now.state back.base back.frame back.blocks.slots from (length collected) back.kind y
  pub agrees : Agrees w w.arenas.level (now_here w)
  pub same : w.arenas.collected ≡ collected
  pub order : from ≤ length collected

pub popped : {M : Type 0} (w : World M) (b : ArenasView M) (back : Back) (y : EntryData) (es : List EntryData) → (it : IsBack w back y es) → DropsNewest w.arenas b →
    Popped (moved w w.store b) back w.arenas.collected it.from y es
popped w b back y es it drops =
    let i : ℕ = it.below in
    let x : Entry _ = it.entry in
    let top : ℕ = length w.arenas.collected in
    let less : length (entries_of w) - 1 ≡ i = omega (arith, it.count) in
    let entries : b.entries ≡ take i (entries_of w) = drops.drops.entries ∙ ap (λ n. take n (entries_of w)) less in
    let long : length b.entries ≡ i = ap length entries ∙ length-take i (entries_of w) ∙ omega (arith, it.count) in
    let depth : length es ≡ i = stack-length w i it.from es it.stack in
    let level : x.back.level ≤ i = omega (arith, it.is.level, open_level-within zero es, depth) in
    let open_is : w.arenas.level ≡ x.back.level = it.level ∙ ap (λ r. r.level) (sym it.back_is) in
    let order : it.from ≤ top = kind-order w.loaded w.arenas.collected (back_here w x) (w.store.at_mark x.mark).state x.back.base x.back.frame x.back.blocks.slots it.from top x.back.kind y it.is.kind in
    let fit : frames_kept_by (entry_at (entries_of w) i) ≤ length w.arenas.frames = omega (arith, above-frames w (entry_at (entries_of w) i) x it.is.older, it.is.frames) in
    let leave : Leaves w w.store b i it.from =
    drops-leave w b i i it.from (length w.arenas.frames) es es it.stack (subst (λ n. Drops w.arenas b n (length w.arenas.frames)) less drops.drops) (omega arith) (omega (arith, it.count)) fit order in
    let frames : b.frames ≡ w.arenas.frames = drops.drops.frames_are ∙ take_all (length w.arenas.frames) w.arenas.frames (omega arith) in
    let ends : level_ends (moved w w.store b) b.level ≡ level_ends w w.arenas.level =
    ap (λ n. entry_ends w.loaded (entry_at b.entries n)) drops.level
    ∙ ap (entry_ends w.loaded) (sym (entry_at-take (entries_of w) b.entries i w.arenas.level (omega (arith, level, open_is)) leave.entries)) in
    let now : now_here (moved w w.store b) ≡ now_here w =
    ap (λ s. here_of w.store.now.terms s b.frames (level_ends (moved w w.store b) b.level)) drops.slots
    ∙ ap (λ f. here_of w.store.now.terms w.arenas.blocks.slots f (level_ends (moved w w.store b) b.level)) frames
    ∙ ap (here_of w.store.now.terms w.arenas.blocks.slots w.arenas.frames) ends in
    record {
      code = it.code;
      state = back-rests w back y es it;
      tables = it.tables;
      level = drops.level ∙ open_is ∙ it.is.level;
      kept = drops.drops.kept ∙ ap (λ r. slots_kept_by (newest r)) (sym drops.drops.entries);
      stack = subst (λ n. StackIs (moved w w.store b) n it.from es) (sym long) (stack-moves w w.store b i it.from i it.from es leave (omega arith) (omega arith) it.stack);
      kind = subst (λ r. KindIs w.loaded w.arenas.collected (now_here (moved w w.store b)) w.store.now.state r.base r.frame r.blocks.slots it.from top r.kind y) it.back_is
          (subst (λ h. KindIs w.loaded w.arenas.collected h w.store.now.state x.back.base x.back.frame x.back.blocks.slots it.from top x.back.kind y) (sym (now ∙ it.here))
          (subst (λ s. KindIs w.loaded w.arenas.collected (back_here w x) s x.back.base x.back.frame x.back.blocks.slots it.from top x.back.kind y) (sym it.now) it.is.kind));
      agrees = subst (λ n. Agrees (moved w w.store b) n (now_here (moved w w.store b))) (sym (drops.level ∙ open_is))
          (agrees-moves w w.store b i it.from i it.from x.back.level es (back_here w x) (now_here (moved w w.store b)) leave (omega arith) it.stack level (now ∙ it.here) it.is.agrees);
      same = drops.drops.collected;
      order = order;
    }

-- where nothing of what is collected is the entry's
pub popped-stands : {M : Type 0} (w : World M) (back : Back) (collected : List Tree) (from : ℕ) (y : EntryData) (es : List EntryData) → Popped w back collected from y es → from ≡ length collected →
    StackStands w es
popped-stands w back collected from y es it none =
    record {
      code = it.code;
      state = it.state;
      tables = it.tables;
      level = it.level;
      kept = it.kept;
      stack = subst (λ n. StackIs w (length (entries_of w)) n es) (none ∙ ap length (sym it.same)) it.stack;
    }

-- what the call of the arenas leaves
pub drops-newest : {M : Type 0} (a b : ArenasView M) → b.entries ≡ take (length a.entries - 1) a.entries → b.blocks.kept ≡ slots_kept_by (newest (take (length a.entries - 1) a.entries)) →
    b.blocks.slots ≡ a.blocks.slots →
    ((m : BlocksMark) → IsKept a.blocks m → m.slots ≤ b.blocks.kept → m.trail ≤ noted_by (newest (take (length a.entries - 1) a.entries)) → IsKept b.blocks m × (brought_back m b.blocks ≡ brought_back m a.blocks)) →
    b.collected ≡ a.collected → b.frames ≡ a.frames → b.level ≡ a.level → DropsNewest a b
drops-newest a b entries kept slots keeps collected frames level =
    record {
      drops = record { entries = entries; frames_are = frames ∙ sym (take_all (length a.frames) a.frames (omega arith)); collected = collected; kept = kept; keeps = keeps };
      slots = slots;
      level = level;
    }
