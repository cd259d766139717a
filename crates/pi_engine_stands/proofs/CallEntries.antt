-- The entry of a call: it is put on the stack, waits for something else, or is gone.
use Rattle.std.proofs.Common.{◌≡◌, ℕ, zero, suc, ◌-◌, ◌≤◌, ◌<◌, Bool, true, false, List, [], ◌∷◌, inl, inr, Option, Some, None, length, take, refl, sym, ◌∙◌, ap, subst, arith}
use Rattle.std.specs.Prelude.{slice_get, slice_set}
use Rattle.std.proofs.lemmas.List.{take-set, length-take-le}
use Rattle.pi_terms.proofs.ListLemmas.{take-take}
use Rattle.pi_constraints.specs.Store.{StoreView, Stays}
use Rattle.pi_engine_arenas.specs.declared.arenas.Kind.{Kind}
use Rattle.pi_engine_arenas.specs.declared.blocks.BlocksMark.{BlocksMark}
use Rattle.pi_engine_arenas.specs.Blocks.{IsKept, brought_back}
use Rattle.pi_engine_arenas.specs.Arenas.{ArenasView, entry_at, newest, slots_kept_by, frames_kept_by, noted_by, with_kind, PushesEntry, between, keeping}
use Rattle.pi_engine_arenas.specs.declared.arenas.Entry.{Entry}
use Rattle.pi_meaning.specs.Machine.Configuration.{Entry as EntryData}
use Rattle.pi_engine_stands.specs.Stands.{World, entries_of, entry_ends, back_here, KindIs, KeepsFound, EntryIs, IsAbove, StackIs, no_entries, entry_above}
use Rattle.pi_engine_stands.specs.Tries.{renamed, KeepsCall, keeps_new, keeps_own}
use Rattle.pi_engine_stands.proofs.StandsLemmas.{moved, here_of, Leaves, stack-length, open_level-within, entry_at-take, agrees-moves, stack-moves, above-moves, last-or-below}
use Rattle.pi_engine_stands.proofs.CallsStand.{Passes}

-- ---- the newest entry waits for something else

-- a store that stays
pub same-stays : {M : Type 0} (v : StoreView M) → Stays v v
same-stays v = record { keeps = record { good = λ m h. h; same = λ m h. refl; beside = λ m. refl; terms = λ r t h. h; names = λ k n h. h }; state = refl }

renamed-leaves : {M : Type 0} (w : World M) (x : Entry M) (kind : Kind) (n : ℕ) → length (entries_of w) ≡ suc n → Leaves w w.store (renamed w.arenas x kind) n (length w.arenas.collected)
renamed-leaves w x kind n all =
    record {
      entries = sym (ap (λ m. take n (slice_set (entries_of w) m (with_kind x kind))) (omega (arith, all)) ∙ take-set (entries_of w) n (with_kind x kind));
      marks = λ i z h at good. (good, refl);
      blocks = λ i z h at kept. (kept, refl);
      frames = λ i z h at fit. (fit, refl);
      collected = refl;
      enough = omega arith;
      beside = λ m. refl;
      names = λ k name has. has;
    }

pub renamed-passes : {M : Type 0} (w : World M) (x : Entry M) (kind : Kind) (n : ℕ) → length (entries_of w) ≡ suc n → Passes w w.store (renamed w.arenas x kind) n
renamed-passes w x kind n all = record { leaves = renamed-leaves w x kind n all; slots = refl; frames = refl; level = refl; stays = same-stays w.store }

pub get-set : {X : Type 0} (xs : List X) (n : ℕ) (x y : X) → slice_get xs n ≡ Some x → slice_get (slice_set xs n y) n ≡ Some y
get-set [] n x y at = absurd cc
get-set (z ∷ xs) zero x y at = refl
get-set (z ∷ xs) (suc n) x y at = get-set xs n x y at

pub above-kind : {M : Type 0} (w : World M) (r : Option (Entry M)) (x : Entry M) (kind : Kind) → IsAbove w r x → IsAbove w r (with_kind x kind)
above-kind w None x kind h = tt
above-kind w (Some y) x kind h = h

-- it comes back to the same
pub back-renamed : {M : Type 0} (w : World M) (n : ℕ) (x : Entry M) (kind : Kind) → length (entries_of w) ≡ suc n → x.back.level ≤ n →
    back_here (moved w w.store (renamed w.arenas x kind)) (with_kind x kind) ≡ back_here w x
back-renamed w n x kind all level =
    ap (here_of (w.store.at_mark x.mark).terms (brought_back x.back.blocks w.arenas.blocks) (take x.back.frames w.arenas.frames))
    (ap (entry_ends w.loaded) (sym (entry_at-take (entries_of w) (renamed w.arenas x kind).entries n x.back.level level (renamed-leaves w x kind n all).entries)))

-- the stack, whose newest entry stands for something else
pub stack-renamed : {M : Type 0} (w : World M) (n : ℕ) (es : List EntryData) (x : Entry M) (stood y : EntryData) (kind : Kind) →
    length (entries_of w) ≡ suc n → slice_get (entries_of w) n ≡ Some x →
    EntryIs w es (entry_at (entries_of w) n) (length w.arenas.collected) (length w.arenas.collected) x stood → StackIs w n (length w.arenas.collected) es →
    KindIs w.loaded w.arenas.collected (back_here w x) (w.store.at_mark x.mark).state x.back.base x.back.frame x.back.blocks.slots (length w.arenas.collected) (length w.arenas.collected) kind y → KeepsFound w.store x.mark y →
    StackIs (moved w w.store (renamed w.arenas x kind)) (suc n) (length w.arenas.collected) (y ∷ es)
stack-renamed w n es x stood y kind all at is stack kind_is found =
    let a : ArenasView _ = renamed w.arenas x kind in
    let top : ℕ = length w.arenas.collected in
    let after : World _ = moved w w.store a in
    let leaves : Leaves w w.store a n top = renamed-leaves w x kind n all in
    let level : x.back.level ≤ n = omega (arith, is.level, open_level-within zero es, stack-length w n top es stack) in
    let back : back_here after (with_kind x kind) ≡ back_here w x = back-renamed w n x kind all level in
    entry_above n top es (with_kind x kind) y (ap (λ m. slice_get (slice_set (entries_of w) m (with_kind x kind)) n) (omega (arith, all)) ∙ get-set (entries_of w) n x (with_kind x kind) at)
    (record {
      good = is.good;
      state = is.state;
      tables = is.tables;
      level = is.level;
      kept = is.kept;
      frames = is.frames;
      agrees = agrees-moves w w.store a n top n top x.back.level es (back_here w x) (back_here after (with_kind x kind)) leaves (omega arith) stack level back is.agrees;
      kind = subst (λ h. KindIs w.loaded w.arenas.collected h (w.store.at_mark x.mark).state x.back.base x.back.frame x.back.blocks.slots top top kind y) (sym back) kind_is;
      older = above-moves w w.store a (entry_at (entries_of w) n) (entry_at a.entries n) (with_kind x kind) (entry_at-take (entries_of w) a.entries n n (omega arith) leaves.entries) (above-kind w (entry_at (entries_of w) n) x kind is.older);
      found = found;
    })
    (stack-moves w w.store a n top n top es leaves (omega arith) (omega arith) stack)

-- ---- the newest entry is gone

-- an entry was made before the newest one
pub record IsBefore {M : Type 0} (x : Entry M) (r : Option (Entry M)) : Type 0 where
  pub slots : x.back.blocks.slots ≤ slots_kept_by r
  pub trail : x.back.blocks.trail ≤ noted_by r
  pub frames : x.back.frames ≤ frames_kept_by r

same-found : {M : Type 0} (r q : Option (Entry M)) (x y : Entry M) → r ≡ q → r ≡ Some x → q ≡ Some y → x ≡ y
same-found r q x y same h k = cc

before-above : {M : Type 0} (w : World M) (x z : Entry M) (r : Option (Entry M)) → IsAbove w r z → IsBefore x r → IsBefore x (Some z)
before-above w x z None above before = record { slots = omega (arith, before.slots); trail = omega (arith, before.trail); frames = omega (arith, before.frames) }
before-above w x z (Some y) above before = record { slots = omega (arith, before.slots, above.0.slots); trail = omega (arith, before.trail, above.0.trail); frames = omega (arith, before.frames, above.1) }

pub entry-before : {M : Type 0} (w : World M) (n to : ℕ) (es : List EntryData) (i : ℕ) (x : Entry M) → StackIs w n to es → i < n → slice_get (entries_of w) i ≡ Some x → IsBefore x (entry_at (entries_of w) n)
entry-before w n to es i x no_entries within at = absurd (omega (arith, within))
entry-before w n to es i x (entry_above m from fs z y here is below) within at =
    subst (IsBefore x) (sym here)
    (elim (last-or-below i m within) as (λ o. IsBefore x (Some z)) [
      | inl less ↦ before-above w x z (entry_at (entries_of w) m) is.older (entry-before w m from fs i x below less at)
      | inr same ↦ subst (λ q. IsBefore q (Some z)) (same-found (slice_get (entries_of w) m) (slice_get (entries_of w) i) z x (ap (slice_get (entries_of w)) (sym same)) here at) (record { slots = omega arith; trail = omega arith; frames = omega arith })
    ])

-- the entry that is the newest then
pub newest-below : {M : Type 0} (xs : List (Entry M)) (n : ℕ) → n ≤ length xs → newest (take n xs) ≡ entry_at xs n
newest-below xs n within =
    ap (entry_at (take n xs)) (length-take-le n xs within)
    ∙ entry_at-take (take n xs) xs n n (omega arith) (take-take n n xs (omega arith))

-- the entries behind the first so many are dropped, and some writes that were noted are forgotten
pub record Drops {M : Type 0} (a b : ArenasView M) (n : ℕ) : Type 0 where
  pub entries : b.entries ≡ take n a.entries
  pub kept : b.blocks.kept ≡ slots_kept_by (newest (take n a.entries))
  pub slots : b.blocks.slots ≡ a.blocks.slots
  pub keeps : (m : BlocksMark) → IsKept a.blocks m → m.slots ≤ b.blocks.kept → m.trail ≤ noted_by (newest (take n a.entries)) → IsKept b.blocks m × (brought_back m b.blocks ≡ brought_back m a.blocks)
  pub frames : b.frames ≡ a.frames
  pub level : b.level ≡ a.level
  pub collected : b.collected ≡ a.collected

pub drops-leave : {M : Type 0} (w : World M) (b : ArenasView M) (n : ℕ) (es : List EntryData) → n ≤ length (entries_of w) → StackIs w n (length w.arenas.collected) es → Drops w.arenas b n →
    Leaves w w.store b n (length w.arenas.collected)
drops-leave w b n es within stack drops =
    let now : newest (take n (entries_of w)) ≡ entry_at (entries_of w) n = newest-below (entries_of w) n within in
    record {
      entries = sym (ap (take n) drops.entries ∙ take-take n n (entries_of w) (omega arith));
      marks = λ i x h at good. (good, refl);
      blocks = λ i x h at kept.
          let before : IsBefore x (newest (take n (entries_of w))) = subst (IsBefore x) (sym now) (entry-before w n (length w.arenas.collected) es i x stack h at) in
          drops.keeps x.back.blocks kept (omega (arith, before.slots, drops.kept)) before.trail;
      frames = λ i x h at fit. (subst (λ fs. x.back.frames ≤ length fs) (sym drops.frames) fit, ap (take x.back.frames) drops.frames);
      collected = ap (take (length w.arenas.collected)) (sym drops.collected);
      enough = subst (λ c. length w.arenas.collected ≤ length c) (sym drops.collected) (omega arith);
      beside = λ m. refl;
      names = λ k name has. has;
    }

pub drops-pass : {M : Type 0} (w : World M) (b : ArenasView M) (n : ℕ) (es : List EntryData) → n ≤ length (entries_of w) → StackIs w n (length w.arenas.collected) es → Drops w.arenas b n → Passes w w.store b n
drops-pass w b n es within stack drops =
    record { leaves = drops-leave w b n es within stack drops; slots = drops.slots; frames = drops.frames; level = drops.level; stays = same-stays w.store }

-- ---- what calls of the arenas leave

pub arenas-renamed : {M : Type 0} (a b : ArenasView M) (x : Entry M) (kind : Kind) → b.entries ≡ slice_set a.entries (length a.entries - 1) (with_kind x kind) → b.blocks ≡ a.blocks → b.frames ≡ a.frames →
    b.level ≡ a.level → b.collected ≡ a.collected → b ≡ renamed a x kind
arenas-renamed a b x kind entries blocks frames level collected =
    ap (λ r. record { frames = r; blocks = b.blocks; entries = b.entries; level = b.level; collected = b.collected }) frames
    ∙ ap (λ r. record { frames = a.frames; blocks = r; entries = b.entries; level = b.level; collected = b.collected }) blocks
    ∙ ap (λ r. record { frames = a.frames; blocks = a.blocks; entries = r; level = b.level; collected = b.collected }) entries
    ∙ ap (λ r. record { frames = a.frames; blocks = a.blocks; entries = slice_set a.entries (length a.entries - 1) (with_kind x kind); level = r; collected = b.collected }) level
    ∙ ap (λ r. record { frames = a.frames; blocks = a.blocks; entries = slice_set a.entries (length a.entries - 1) (with_kind x kind); level = a.level; collected = r }) collected

-- a call is kept, as it is known
pub keeps-own : {M : Type 0} (order : M → ℕ) (v : StoreView M) (a b : ArenasView M) (slots base frame : ℕ) (kind : Kind) (again : Bool) → again ≡ true →
    ((x : Entry M) → newest a.entries ≡ Some x → b ≡ renamed a x kind) → KeepsCall order (between v v a b) (keeping slots base frame kind) again
keeps-own order v a b slots base frame kind again is same = subst (KeepsCall order (between v v a b) (keeping slots base frame kind)) (sym is) (keeps_own refl same)

pub keeps-new : {M : Type 0} (order : M → ℕ) (v w : StoreView M) (a b : ArenasView M) (slots from base frame : ℕ) (kind : Kind) (again : Bool) → again ≡ false → from ≡ slots →
    PushesEntry order (between v w a b) (keeping from base frame kind) → KeepsCall order (between v w a b) (keeping slots base frame kind) again
keeps-new order v w a b slots from base frame kind again is at push =
    subst (KeepsCall order (between v w a b) (keeping slots base frame kind)) (sym is) (keeps_new (subst (λ n. PushesEntry order (between v w a b) (keeping n base frame kind)) at push))
