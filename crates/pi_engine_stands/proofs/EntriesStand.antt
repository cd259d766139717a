-- An entry that is put on the stack.
use Rattle.std.proofs.Common.{◌≡◌, ℕ, zero, suc, ◌≤◌, List, [], ◌∷◌, ◌++◌, Option, Some, None, length, take, drop, refl, sym, ◌∙◌, ap, subst, arith}
use Rattle.std.specs.Prelude.{slice_get}
use Rattle.std.proofs.lemmas.List.{take-append-le, length-take, drop_all, take_all}
use Rattle.pi_constraints.specs.Store.{StoreView, Marks, Keeps, Extend}
use Rattle.pi_engine_stands.specs.Rests.{Rests}
use Rattle.pi_terms.proofs.GetLemmas.{get_append_last}
use Rattle.pi_engine_arenas.specs.declared.arenas.Kind.{Kind}
use Rattle.pi_engine_arenas.specs.Blocks.{brought_back, slots_before}
use Rattle.pi_engine_arenas.specs.Arenas.{ArenasView, entry_at, slots_kept_by, new_entry, pushed}
use Rattle.pi_engine_arenas.specs.declared.arenas.Entry.{Entry}
use Rattle.pi_meaning.specs.Machine.Configuration.{Entry as EntryData}
use Rattle.pi_engine_stands.specs.Here.{Here}
use Rattle.pi_engine_stands.specs.Stands.{World, entries_of, entry_ends, level_ends, back_here, now_here, Agrees, agrees_from, KindIs, IsAbove, StackIs, entry_above, StackStands}
use Rattle.pi_terms.proofs.ListLemmas.{take-take}
use Rattle.pi_engine_stands.proofs.StandsLemmas.{moved, here_of, Leaves, stack-moves, stack-length, open_level-within, agrees-moves, above-moves, entry-facts, EntryFacts, entry_at-take, HasNoFound, found-none}

-- what such an entry comes back to
abbrev pub marked_here : {M : Type 0} → World M → ℕ → Here
marked_here w slots = record { terms = w.store.now.terms; slots = take slots w.arenas.blocks.slots; frames = w.arenas.frames; ends = level_ends w w.arenas.level }

abbrev pub with_entry : {M : Type 0} → World M → StoreView M → M → ℕ → ℕ → ℕ → Kind → World M
with_entry w v mark slots base frame kind = moved w v (pushed w.arenas mark slots base frame kind)

-- the entries below stay
pub pushed-leaves : {M : Type 0} (w : World M) (v : StoreView M) (mark : M) (slots base frame n : ℕ) (kind : Kind) →
    n ≤ length (entries_of w) → w.arenas.blocks.kept ≤ slots → Keeps w.store v → Leaves w v (pushed w.arenas mark slots base frame kind) n (length w.arenas.collected)
unfolding brought_back
pushed-leaves w v mark slots base frame n kind fit more keeps =
    record {
      entries = sym (take-append-le n (entries_of w) (new_entry w.arenas mark slots base frame kind ∷ []) fit);
      marks = λ i x h at good. (keeps.good x.mark good, keeps.same x.mark good);
      blocks = λ i x h at kept. (record { within = kept.within; protected = omega (arith, kept.protected, more); noted = kept.noted }, refl);
      frames = λ i x h at few. (few, refl);
      collected = refl;
      enough = omega arith;
      beside = keeps.beside;
      names = keeps.names;
    }

-- what it comes back to is what is there now
pub back-of-new : {M : Type 0} (w : World M) (v : StoreView M) (mark : M) (slots base frame : ℕ) (kind : Kind) →
    w.arenas.level ≤ length (entries_of w) → v.at_mark mark ≡ w.store.now →
    back_here (with_entry w v mark slots base frame kind) (new_entry w.arenas mark slots base frame kind) ≡ marked_here w slots
unfolding brought_back slots_before
back-of-new w v mark slots base frame kind within back =
    let a : ArenasView _ = w.arenas in
    let x : Entry _ = new_entry a mark slots base frame kind in
    ap (λ m. here_of m.terms (slots_before (drop (length a.blocks.trail) a.blocks.trail) (take slots a.blocks.slots)) (take (length a.frames) a.frames) (level_ends (with_entry w v mark slots base frame kind) a.level)) back
    ∙ ap (λ ws. here_of w.store.now.terms (slots_before ws (take slots a.blocks.slots)) (take (length a.frames) a.frames) (level_ends (with_entry w v mark slots base frame kind) a.level))
    (drop_all (length a.blocks.trail) a.blocks.trail (omega arith))
    ∙ ap (λ fs. here_of w.store.now.terms (take slots a.blocks.slots) fs (level_ends (with_entry w v mark slots base frame kind) a.level)) (take_all (length a.frames) a.frames (omega arith))
    ∙ ap (λ r. here_of w.store.now.terms (take slots a.blocks.slots) a.frames (entry_ends w.loaded r))
    (sym (entry_at-take (entries_of w) (entries_of w ++ x ∷ []) (length (entries_of w)) a.level within
    (sym (take-append-le (length (entries_of w)) (entries_of w) (x ∷ []) (omega arith)))))

-- what is there now agrees with its level also where some slots are left out
marked-agrees : {M : Type 0} (w : World M) (slots : ℕ) (r : Option (Entry M)) → ((x : Entry M) → r ≡ Some x → x.back.base ≤ slots) → slots ≤ length w.arenas.blocks.slots →
    agrees_from w r (now_here w) → agrees_from w r (marked_here w slots)
marked-agrees w slots None fit within agrees = tt
marked-agrees w slots (Some x) fit within agrees = (
  agrees.0,
  agrees.1 ∙ sym (take-take x.back.base slots w.arenas.blocks.slots (fit x refl)),
  omega (arith, fit x refl, within, length-take slots w.arenas.blocks.slots),
  agrees.3,
)

above-some : {M : Type 0} (w : World M) (v : StoreView M) (mark : M) (slots base frame : ℕ) (kind : Kind) (i : ℕ) (r : Option (Entry M)) → slice_get (entries_of w) i ≡ r →
    ((x : Entry M) → slice_get (entries_of w) i ≡ Some x → EntryFacts w i x) → slots_kept_by r ≤ slots → Marks w.order w.store v mark →
    IsAbove w r (new_entry w.arenas mark slots base frame kind)
above-some w v mark slots base frame kind i None at facts more marks = tt
above-some w v mark slots base frame kind i (Some x) at facts more marks =
    let is : EntryFacts w i x = facts x at in
    (record { slots = more; trail = is.kept.noted }, is.frames, marks.newest x.mark is.good)

-- the entry below was made before
above-newest : {M : Type 0} (w : World M) (v : StoreView M) (mark : M) (slots base frame : ℕ) (kind : Kind) (n to : ℕ) (es : List EntryData) → n ≡ length (entries_of w) →
    StackIs w n to es → slots_kept_by (entry_at (entries_of w) n) ≤ slots → Marks w.order w.store v mark →
    IsAbove w (entry_at (entries_of w) n) (new_entry w.arenas mark slots base frame kind)
above-newest w v mark slots base frame kind zero to es all stack more marks = tt
above-newest w v mark slots base frame kind (suc i) to es all stack more marks =
    above-some w v mark slots base frame kind i (slice_get (entries_of w) i) refl (λ x at. entry-facts w (suc i) to es i x stack (omega arith) at) more marks

-- The stack with one more entry, which stands for what it is told to.
pub stack-pushed : {M : Type 0} (w : World M) (v : StoreView M) (mark : M) (slots base frame from : ℕ) (kind : Kind) (y : EntryData) (es : List EntryData) →
    StackStands w es → Marks w.order w.store v mark → w.arenas.blocks.kept ≤ slots → slots ≤ length w.arenas.blocks.slots → from ≤ length w.arenas.collected →
    ((x : Entry M) → entry_at (entries_of w) w.arenas.level ≡ Some x → x.back.base ≤ slots) → Agrees w w.arenas.level (now_here w) →
    KindIs w.loaded w.arenas.collected (marked_here w slots) w.store.now.state base frame slots from (length w.arenas.collected) kind y → HasNoFound y →
    StackIs w (length (entries_of w)) from es →
    StackIs (with_entry w v mark slots base frame kind) (suc (length (entries_of w))) (length w.arenas.collected) (y ∷ es)
stack-pushed w v mark slots base frame from kind y es stands marks more within some fit agrees is new below =
    let n : ℕ = length (entries_of w) in
    let x : Entry _ = new_entry w.arenas mark slots base frame kind in
    let after : World _ = with_entry w v mark slots base frame kind in
    let long : length es ≡ n = stack-length w n from es below in
    let level : w.arenas.level ≤ n = omega (arith, stands.level, open_level-within zero es, long) in
    let back : back_here after x ≡ marked_here w slots = back-of-new w v mark slots base frame kind level marks.brings_back in
    let front : take n (entries_of w) ≡ take n (entries_of w ++ x ∷ []) = sym (take-append-le n (entries_of w) (x ∷ []) (omega arith)) in
    entry_above n from es x y (get_append_last (entries_of w) x)
    (record {
      good = marks.good;
      state = subst (λ m. Rests m.state) (sym marks.brings_back) stands.state;
      tables = subst (λ m. Extend w.loaded.terms m.terms) (sym marks.brings_back) stands.tables;
      level = stands.level;
      kept = record { within = within; protected = omega arith; noted = omega arith };
      frames = omega arith;
      agrees = agrees-moves w v (pushed w.arenas mark slots base frame kind) n (length w.arenas.collected) n from w.arenas.level es (marked_here w slots) (back_here after x)
          (pushed-leaves w v mark slots base frame n kind (omega arith) more marks.stays.keeps) (omega arith) below level back
          (marked-agrees w slots (entry_at (entries_of w) w.arenas.level) fit within agrees);
      kind = subst (λ h. KindIs w.loaded w.arenas.collected h (v.at_mark mark).state base frame slots from (length w.arenas.collected) kind y) (sym back)
          (subst (λ m. KindIs w.loaded w.arenas.collected (marked_here w slots) m.state base frame slots from (length w.arenas.collected) kind y) (sym marks.brings_back) is);
      older = above-moves w v (pushed w.arenas mark slots base frame kind) (entry_at (entries_of w) n) (entry_at (entries_of w ++ x ∷ []) n) x
          (entry_at-take (entries_of w) (entries_of w ++ x ∷ []) n n (omega arith) front)
          (above-newest w v mark slots base frame kind n from es refl below (omega (arith, stands.kept, more)) marks);
      found = found-none v mark y marks.nothing new;
    })
    (stack-moves w v (pushed w.arenas mark slots base frame kind) n (length w.arenas.collected) n from es
    (pushed-leaves w v mark slots base frame n kind (omega arith) more marks.stays.keeps) (omega arith) some below)
