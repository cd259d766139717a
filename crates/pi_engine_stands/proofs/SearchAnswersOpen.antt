-- A level is gone back to, whose entry stays and is the newest, while the store goes on; and then its entry is written anew.
use Rattle.std.proofs.Common.{◌≡◌, ℕ, zero, suc, ◌-◌, ◌≤◌, min, List, [], ◌∷◌, Option, Some, None, length, take, refl, sym, ◌∙◌, ap, subst, arith}
use Rattle.std.specs.Prelude.{slice_get, slice_set}
use Rattle.std.proofs.lemmas.List.{length-take, length-set, take-set}
use Rattle.std.proofs.lemmas.Option.{slice_get_within}
use Rattle.pi_constraints.specs.Store.{StoreView, IsGood, IsName, Extend}
use Rattle.pi_engine_arenas.specs.declared.arenas.Back.{Back}
use Rattle.pi_engine_arenas.specs.declared.arenas.Entry.{Entry}
use Rattle.pi_engine_arenas.specs.declared.arenas.Kind.{Kind}
use Rattle.pi_engine_arenas.specs.declared.blocks.BlocksMark.{BlocksMark}
use Rattle.pi_engine_arenas.specs.Blocks.{IsKept, IsOlder, brought_back}
use Rattle.pi_engine_arenas.specs.Arenas.{ArenasView, entry_at, newest, slots_kept_by, noted_by, frames_kept_by, with_kind}
use Rattle.pi_meaning.specs.Machine.Configuration.{Entry as EntryData, Strict, strict, Back as BackData}
use Rattle.pi_meaning.specs.Machine.Shape.{open_level}
use Rattle.pi_engine_stands.specs.Rests.{Rests}
use Rattle.pi_engine_stands.specs.Stands.{World, tables_in, entries_of, ends_of, entry_ends, level_ends, back_here, now_here, agrees_from, Agrees, KindIs, KeepsFound, IsAbove, EntryIs, StackIs, entry_above, StackStands}
use Rattle.pi_engine_stands.specs.Rounds.{Reopens, IsReopened}
use Rattle.pi_terms.proofs.ListLemmas.{take-take}
use Rattle.pi_engine_stands.proofs.ProgramStands.{code-keeps}
use Rattle.pi_engine_stands.proofs.StandsLemmas.{moved, here_of, Leaves, slice-take, entry_at-take, stack-moves, entry-moves, stack-length, open_level-within, agrees-moves, above-moves, back-stays, entry-facts, kind-order}
use Rattle.pi_engine_stands.proofs.OlderStand.{kept-by-newest, KeptBy}
use Rattle.pi_engine_stands.proofs.CallEntries.{get-set}
use Rattle.pi_engine_stands.proofs.LeaveStand.{newest-of-first}

-- ---- what the call of the arenas leaves

entry-within : {M : Type 0} (xs : List (Entry M)) (n : ℕ) (x : Entry M) → entry_at xs n ≡ Some x → n ≤ length xs
entry-within xs zero x at = absurd cc
entry-within xs (suc i) x at = slice_get_within xs i x at

-- entries are dropped, what the newest then brings back is there again, and its level is open
pub reopens : {M : Type 0} (a t c b : ArenasView M) (level : ℕ) (back : Back) (x : Entry M) → entry_at a.entries level ≡ Some x → x.back ≡ back →
    t.entries ≡ take level a.entries → t.blocks.kept ≡ slots_kept_by (newest (take level a.entries)) →
    ((m : BlocksMark) → IsKept a.blocks m → m.slots ≤ t.blocks.kept → m.trail ≤ noted_by (newest (take level a.entries)) → IsKept t.blocks m × (brought_back m t.blocks ≡ brought_back m a.blocks)) → t.frames ≡ a.frames → t.collected ≡ a.collected →
    c.frames ≡ take back.frames t.frames → (IsKept t.blocks back.blocks → c.blocks.slots ≡ brought_back back.blocks t.blocks) →
    ((m : BlocksMark) → IsKept t.blocks back.blocks → IsKept t.blocks m → IsOlder m back.blocks → IsKept c.blocks m × (brought_back m c.blocks ≡ brought_back m t.blocks)) → c.blocks.kept ≡ t.blocks.kept → c.entries ≡ t.entries → c.collected ≡ t.collected →
    b.level ≡ length c.entries → b.entries ≡ c.entries → b.frames ≡ c.frames → b.blocks ≡ c.blocks → b.collected ≡ c.collected → Reopens a b level back
reopens a t c b level back x at is entries kept keeps frames collected came_frames came older came_kept came_entries came_collected opens open_entries open_frames open_blocks open_collected =
    let within : level ≤ length a.entries = entry-within a.entries level x at in
    let newest_is : newest (take level a.entries) ≡ Some x = newest-of-first a.entries level within ∙ at in
    let most : slots_kept_by (newest (take level a.entries)) ≡ back.blocks.slots = ap slots_kept_by newest_is ∙ ap (λ r. r.blocks.slots) is in
    let noted : noted_by (newest (take level a.entries)) ≡ back.blocks.trail = ap noted_by newest_is ∙ ap (λ r. r.blocks.trail) is in
    record {
      entries = open_entries ∙ came_entries ∙ entries;
      frames = open_frames ∙ came_frames ∙ ap (take back.frames) frames;
      slots = λ good.
          (let own : IsKept t.blocks back.blocks × (brought_back back.blocks t.blocks ≡ brought_back back.blocks a.blocks) = keeps back.blocks good (omega (arith, kept, most)) (omega (arith, noted)) in
          ap (λ r. r.slots) open_blocks ∙ came own.0 ∙ own.1);
      kept = ap (λ r. r.kept) open_blocks ∙ came_kept ∙ kept ∙ most;
      keeps = λ m good is_kept before.
          (let own : IsKept t.blocks back.blocks × (brought_back back.blocks t.blocks ≡ brought_back back.blocks a.blocks) = keeps back.blocks good (omega (arith, kept, most)) (omega (arith, noted)) in
          let first : IsKept t.blocks m × (brought_back m t.blocks ≡ brought_back m a.blocks) = keeps m is_kept (omega (arith, kept, most, before.slots)) (omega (arith, noted, before.trail)) in
          let then : IsKept c.blocks m × (brought_back m c.blocks ≡ brought_back m t.blocks) = older m own.0 first.0 before in
          (subst (λ r. IsKept r m) (sym open_blocks) then.0, ap (brought_back m) open_blocks ∙ then.1 ∙ first.1));
      opens = opens ∙ ap length (came_entries ∙ entries) ∙ length-take level a.entries ∙ omega (arith, within);
      collected = open_collected ∙ came_collected ∙ collected;
    }

-- ---- it is gone back to

-- all entries up to it stay
reopen-leaves : {M : Type 0} (w : World M) (b : ArenasView M) (i top : ℕ) (x : Entry M) (es : List EntryData) → StackIs w (suc i) top es → slice_get (entries_of w) i ≡ Some x → IsKept w.arenas.blocks x.back.blocks →
    Reopens w.arenas b (suc i) x.back → top ≤ length w.arenas.collected → Leaves w w.store b (suc i) top
reopen-leaves w b i top x es whole here good opens some =
    record {
      entries = sym (ap (take (suc i)) opens.entries ∙ take-take (suc i) (suc i) (entries_of w) (omega arith));
      marks = λ j z h at is. (is, refl);
      blocks = λ j z h at kept.
          (let top_is : KeptBy w (entry_at (entries_of w) (suc i)) z = kept-by-newest w (suc i) top es j z whole h at in
          opens.keeps z.back.blocks good kept (record { slots = omega (arith, top_is.slots, ap slots_kept_by here); trail = omega (arith, top_is.trail, ap noted_by here) }));
      frames = λ j z h at few.
          (let top_is : KeptBy w (entry_at (entries_of w) (suc i)) z = kept-by-newest w (suc i) top es j z whole h at in
          let within : z.back.frames ≤ x.back.frames = omega (arith, top_is.frames, ap frames_kept_by here) in
          let long : length b.frames ≡ min x.back.frames (length w.arenas.frames) = ap length opens.frames ∙ length-take x.back.frames w.arenas.frames in
          (omega (arith, few, within, long), ap (take z.back.frames) opens.frames ∙ take-take z.back.frames x.back.frames w.arenas.frames within));
      collected = ap (take top) (sym opens.collected);
      enough = omega (arith, some, ap length opens.collected);
      beside = λ m. refl;
      names = λ k name has. has;
    }

pub reopened : {M : Type 0} (w : World M) (b : ArenasView M) (i from : ℕ) (x : Entry M) (y : EntryData) (es fs : List EntryData) → StackStands w es → suc i ≤ length (entries_of w) → slice_get (entries_of w) i ≡ Some x →
    EntryIs w fs (entry_at (entries_of w) i) from (length w.arenas.collected) x y → StackIs w i from fs → agrees_from w (Some x) (now_here w) → Reopens w.arenas b (suc i) x.back →
    IsReopened (moved w w.store b) (suc i) x.back y fs
reopened w b i from x y es fs stands fit here is below agrees opens =
    let top : ℕ = length w.arenas.collected in
    let whole : StackIs w (suc i) top (y ∷ fs) = entry_above i from fs x y here is below in
    let leave : Leaves w w.store b (suc i) top = reopen-leaves w b i top x (y ∷ fs) whole here is.kept opens (omega arith) in
    let order : from ≤ top = kind-order w.loaded w.arenas.collected (back_here w x) (w.store.at_mark x.mark).state x.back.base x.back.frame x.back.blocks.slots from top x.back.kind y is.kind in
    let stays : back_here (moved w w.store b) x ≡ back_here w x = back-stays w w.store b (suc i) top i x leave (omega arith) here (entry-facts w (suc i) top (y ∷ fs) i x whole (omega arith) here) in
    let at : slice_get b.entries i ≡ Some x = sym (slice-take (entries_of w) b.entries (suc i) i (omega arith) leave.entries) ∙ here in
    let long : length b.entries ≡ suc i = ap length opens.entries ∙ length-take (suc i) (entries_of w) ∙ omega (arith, fit) in
    let slots : b.blocks.slots ≡ (back_here w x).slots = opens.slots is.kept in
    let within : x.back.base ≤ length b.blocks.slots =
    omega (arith, agrees.2, ap length agrees.1, length-take x.back.base (back_here w x).slots, length-take x.back.base w.arenas.blocks.slots, ap length slots) in
    record {
      below = i;
      from = from;
      entry = x;
      number = refl;
      count = long;
      at = at;
      back_is = refl;
      is = subst (λ t. EntryIs (moved w w.store b) fs (entry_at b.entries i) from t x y) (ap length (sym opens.collected))
          (entry-moves w w.store b (suc i) top i from top fs x y leave (omega arith) (omega arith) here is below);
      stack = stack-moves w w.store b (suc i) top i from fs leave (omega arith) order below;
      slots = slots ∙ ap (λ h. h.slots) (sym stays);
      frames = opens.frames ∙ ap (λ h. h.frames) (sym stays);
      agrees = subst (λ h. Extend h.terms w.store.now.terms × (take x.back.base h.slots ≡ take x.back.base b.blocks.slots) × (x.back.base ≤ length b.blocks.slots) × (take x.back.frames b.frames ≡ h.frames)) (sym stays)
          (agrees.0, ap (take x.back.base) (sym slots), within, ap (take x.back.frames) opens.frames ∙ take-take x.back.frames x.back.frames w.arenas.frames (omega arith));
      opens = opens.opens;
      kept = opens.kept ∙ sym (ap slots_kept_by (ap (entry_at b.entries) long ∙ at));
      code = stands.code;
      state = stands.state;
      tables = stands.tables;
    }

-- ---- what it stands for

pub reopened-stands : {M : Type 0} (w : World M) (level : ℕ) (back : Back) (s : Strict) (d : BackData) (es : List EntryData) → IsReopened w level back (strict s d) es → StackStands w (strict s d ∷ es)
unfolding open_level
reopened-stands w level back s d es it =
    record {
      code = it.code;
      state = it.state;
      tables = it.tables;
      level = it.opens ∙ it.number ∙ ap suc (sym (stack-length w it.below it.from es it.stack));
      kept = it.kept;
      stack = subst (λ n. StackIs w n (length w.arenas.collected) (strict s d ∷ es)) (sym it.count) (entry_above it.below it.from es it.entry (strict s d) it.at it.is it.stack);
    }

-- the open level has that entry
pub reopened-entry : {M : Type 0} (w : World M) (level : ℕ) (back : Back) (y : EntryData) (es : List EntryData) → (it : IsReopened w level back y es) → entry_at (entries_of w) w.arenas.level ≡ Some it.entry
reopened-entry w level back y es it = ap (entry_at (entries_of w)) (it.opens ∙ it.number) ∙ it.at

pub reopened-agrees : {M : Type 0} (w : World M) (level : ℕ) (back : Back) (y : EntryData) (es : List EntryData) → IsReopened w level back y es → Agrees w w.arenas.level (now_here w)
reopened-agrees w level back y es it = subst (λ r. agrees_from w r (now_here w)) (sym (reopened-entry w level back y es it)) it.agrees

pub reopened-ends : {M : Type 0} (w : World M) (level : ℕ) (back : Back) (y : EntryData) (es : List EntryData) → IsReopened w level back y es → level_ends w w.arenas.level ≡ ends_of w.loaded back.kind back.base
reopened-ends w level back y es it = ap (entry_ends w.loaded) (reopened-entry w level back y es it) ∙ ap (λ r. ends_of w.loaded r.kind r.base) it.back_is

-- by the number that the code has
pub reopened-at : {M : Type 0} (w : World M) (level : ℕ) (back : Back) (y : EntryData) (es : List EntryData) → (it : IsReopened w level back y es) → entry_at (entries_of w) level ≡ Some it.entry
reopened-at w level back y es it = ap (entry_at (entries_of w)) it.number ∙ it.at

-- ---- its entry is written anew

-- the arenas where the entry i, counted from 0, is this one
abbrev pub with_entry_at : {M : Type 0} → ArenasView M → ℕ → Entry M → ArenasView M
with_entry_at a i x = record { frames = a.frames; blocks = a.blocks; entries = slice_set a.entries i x; level = a.level; collected = a.collected }

-- an entry with another mark, which waits for something else
abbrev pub entry_anew : {M : Type 0} → Entry M → M → Kind → Entry M
entry_anew x mark kind = with_kind (record { mark = mark; back = x.back }) kind

-- what is owed of it: its mark brings back what the one before does, and the store has what that brings back, or more
pub record IsAnew {M : Type 0} (w : World M) (v : StoreView M) (x : Entry M) (mark : M) (kind : Kind) (y z : EntryData) : Type 0 where
  pub marks : (m : M) → IsGood w.store m → w.order m ≤ w.order x.mark → IsGood v m × (v.at_mark m ≡ w.store.at_mark m)
  pub good : IsGood v mark
  pub same : v.at_mark mark ≡ w.store.at_mark x.mark
  pub order : w.order mark ≡ w.order x.mark
  pub beside : (m : M) → v.beside m ≡ w.store.beside m
  pub names : (k : ℕ) (name : List ℕ) → IsName w.store k name → IsName v k name
  pub state : Rests v.now.state
  pub terms : Extend (w.store.at_mark x.mark).terms v.now.terms
  pub tables : Extend w.loaded.terms v.now.terms
  pub ends : (base : ℕ) → ends_of w.loaded kind base ≡ ends_of w.loaded x.back.kind base
  pub found : KeepsFound v mark z
  pub waits : (from : ℕ) →
      KindIs w.loaded w.arenas.collected (back_here w x) (w.store.at_mark x.mark).state x.back.base x.back.frame x.back.blocks.slots from (length w.arenas.collected) x.back.kind y →
      KindIs w.loaded w.arenas.collected (back_here w x) (w.store.at_mark x.mark).state x.back.base x.back.frame x.back.blocks.slots from (length w.arenas.collected) kind z

above-anew : {M : Type 0} (w : World M) (r : Option (Entry M)) (x : Entry M) (mark : M) (kind : Kind) → w.order mark ≡ w.order x.mark → IsAbove w r x → IsAbove w r (entry_anew x mark kind)
above-anew w None x mark kind same above = tt
above-anew w (Some y) x mark kind same above = (above.0, above.1, omega (arith, above.2, same))

pub anew : {M : Type 0} (w : World M) (v : StoreView M) (level : ℕ) (back : Back) (mark : M) (kind : Kind) (y z : EntryData) (es : List EntryData) → (it : IsReopened w level back y es) → IsAnew w v it.entry mark kind y z →
    IsReopened (moved w v (with_entry_at w.arenas it.below (entry_anew it.entry mark kind))) level (with_kind it.entry kind).back z es
anew w v level back mark kind y z es it is =
    let i : ℕ = it.below in
    let x : Entry _ = it.entry in
    let u : Entry _ = entry_anew x mark kind in
    let top : ℕ = length w.arenas.collected in
    let b : ArenasView _ = with_entry_at w.arenas i u in
    let after : World _ = moved w v b in
    let whole : StackIs w (suc i) top (y ∷ es) = entry_above i it.from es x y it.at it.is it.stack in
    let order : it.from ≤ top = kind-order w.loaded w.arenas.collected (back_here w x) (w.store.at_mark x.mark).state x.back.base x.back.frame x.back.blocks.slots it.from top x.back.kind y it.is.kind in
    let leave : Leaves w v b i it.from = record {
      entries = sym (take-set (entries_of w) i u);
      marks = λ j q h at good.
          (let top_is : KeptBy w (entry_at (entries_of w) (suc i)) q = kept-by-newest w (suc i) top (y ∷ es) j q whole (omega (arith, h)) at in is.marks q.mark good (top_is.order x it.at));
      blocks = λ j q h at kept. (kept, refl);
      frames = λ j q h at few. (few, refl);
      collected = refl;
      enough = order;
      beside = is.beside;
      names = is.names;
    } in
    let depth : length es ≡ i = stack-length w i it.from es it.stack in
    let outer : x.back.level ≤ i = omega (arith, it.is.level, open_level-within zero es, depth) in
    let ends : level_ends after x.back.level ≡ level_ends w x.back.level = ap (entry_ends w.loaded) (sym (entry_at-take (entries_of w) b.entries i x.back.level outer leave.entries)) in
    let stays : back_here after u ≡ back_here w x =
    ap (λ m. here_of m.terms (brought_back x.back.blocks w.arenas.blocks) (take x.back.frames w.arenas.frames) (level_ends after x.back.level)) is.same
    ∙ ap (here_of (w.store.at_mark x.mark).terms (brought_back x.back.blocks w.arenas.blocks) (take x.back.frames w.arenas.frames)) ends in
    let at : slice_get b.entries i ≡ Some u = get-set (entries_of w) i x u it.at in
    let long : length b.entries ≡ suc i = length-set (entries_of w) i u ∙ it.count in
    record {
      below = i;
      from = it.from;
      entry = u;
      number = it.number;
      count = long;
      at = at;
      back_is = refl;
      is = record {
        good = is.good;
        state = subst (λ m. Rests m.state) (sym is.same) it.is.state;
        tables = subst (λ m. Extend w.loaded.terms m.terms) (sym is.same) it.is.tables;
        level = it.is.level;
        kept = it.is.kept;
        frames = it.is.frames;
        agrees = agrees-moves w v b i it.from i it.from x.back.level es (back_here w x) (back_here after u) leave (omega arith) it.stack outer stays it.is.agrees;
        kind = subst (λ h. KindIs w.loaded w.arenas.collected h (v.at_mark mark).state x.back.base x.back.frame x.back.blocks.slots it.from top kind z) (sym stays)
            (subst (λ m. KindIs w.loaded w.arenas.collected (back_here w x) m.state x.back.base x.back.frame x.back.blocks.slots it.from top kind z) (sym is.same) (is.waits it.from it.is.kind));
        older = above-anew after (entry_at b.entries i) x mark kind is.order
            (above-moves w v b (entry_at (entries_of w) i) (entry_at b.entries i) x (entry_at-take (entries_of w) b.entries i i (omega arith) leave.entries) it.is.older);
        found = is.found;
      };
      stack = stack-moves w v b i it.from i it.from es leave (omega arith) (omega arith) it.stack;
      slots = it.slots ∙ ap (λ h. h.slots) (sym stays);
      frames = it.frames ∙ ap (λ h. h.frames) (sym stays);
      agrees = subst (λ h. Extend h.terms v.now.terms × (take x.back.base h.slots ≡ take x.back.base w.arenas.blocks.slots) × (x.back.base ≤ length w.arenas.blocks.slots) × (take x.back.frames w.arenas.frames ≡ h.frames)) (sym stays)
          (is.terms, it.agrees.1, it.agrees.2, it.agrees.3);
      opens = it.opens;
      kept = it.kept ∙ ap slots_kept_by (ap (entry_at (entries_of w)) it.count ∙ it.at) ∙ sym (ap slots_kept_by (ap (entry_at b.entries) long ∙ at));
      code = code-keeps w.loaded.code (tables_in w.loaded) w.store.names v.names w.loaded.preds is.names it.code;
      state = is.state;
      tables = is.tables;
    }

-- what the calls of the arenas leave
pub arenas-anew : {M : Type 0} (a b : ArenasView M) (i number : ℕ) (u : Entry M) → number ≡ suc i → b.entries ≡ slice_set a.entries (number - 1) u → b.blocks ≡ a.blocks → b.frames ≡ a.frames → b.level ≡ a.level → b.collected ≡ a.collected → b ≡ with_entry_at a i u
arenas-anew a b i number u is entries blocks frames level collected =
    ap (λ r. record { frames = r; blocks = b.blocks; entries = b.entries; level = b.level; collected = b.collected }) frames
    ∙ ap (λ r. record { frames = a.frames; blocks = r; entries = b.entries; level = b.level; collected = b.collected }) blocks
    ∙ ap (λ r. record { frames = a.frames; blocks = a.blocks; entries = r; level = b.level; collected = b.collected }) (entries ∙ ap (λ n. slice_set a.entries n u) (omega (arith, is)))
    ∙ ap (λ r. record { frames = a.frames; blocks = a.blocks; entries = slice_set a.entries i u; level = r; collected = b.collected }) level
    ∙ ap (λ r. record { frames = a.frames; blocks = a.blocks; entries = slice_set a.entries i u; level = a.level; collected = r }) collected

pub set-again : {A : Type 0} (xs : List A) (i : ℕ) (x y : A) → slice_set (slice_set xs i x) i y ≡ slice_set xs i y
set-again [] i x y = refl
set-again (z ∷ xs) zero x y = refl
set-again (z ∷ xs) (suc i) x y = ap (λ zs. z ∷ zs) (set-again xs i x y)
