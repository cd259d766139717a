-- A call that is kept, in an entry of its own.
use Rattle.std.proofs.Common.{◌≡◌, ℕ, zero, suc, ◌+◌, ◌-◌, ◌≤◌, Bool, List, [], ◌∷◌, ◌++◌, Option, Some, length, take, refl, sym, ◌∙◌, ap, subst, arith}
use Rattle.std.specs.Prelude.{slice_get, slice_set}
use Rattle.std.proofs.lemmas.List.{length-set, length-append, length-take-le, take_all}
use Rattle.pi_constraints.specs.Store.{StoreView, Marks, Extend}
use Rattle.pi_constraints.specs.State.{State}
use Rattle.pi_core.specs.CoreTree.{ClauseTree, PredTree}
use Rattle.pi_terms.proofs.GetLemmas.{get_append_last}
use Rattle.pi_engine_arenas.specs.declared.arenas.Kind.{Kind}
use Rattle.pi_engine_arenas.specs.Arenas.{ArenasView, entry_at, newest, slots_kept_by, with_kind, new_entry, pushed, PushesEntry, between, keeping}
use Rattle.pi_engine_arenas.specs.declared.arenas.Entry.{Entry}
use Rattle.pi_meaning.specs.Machine.Configuration.{Frame, Called, Entry as EntryData}
use Rattle.pi_engine_stands.specs.Here.{Here}
use Rattle.pi_engine_stands.specs.Stands.{World, entries_of, now_here, back_here, agrees_from, CallStands, KindIs, StackIs}
use Rattle.pi_engine_stands.specs.Tries.{OwnEntry, HasEntry, no_entry, own_entry, CallIs, renamed, KeepsCall, keeps_new, keeps_own}
use Rattle.pi_terms.proofs.ListLemmas.{take-take}
use Rattle.pi_engine_stands.proofs.HereLemmas.{Moves}
use Rattle.pi_engine_stands.proofs.StandsLemmas.{moved, stack-length, open_level-within, IsNoSearch, no-search-none, no-search-found}
use Rattle.pi_engine_stands.proofs.EntriesStand.{marked_here, with_entry, pushed-leaves, back-of-new, stack-pushed}
use Rattle.pi_engine_stands.proofs.CallsStand.{Passes, keeps-terms, call-moves}
use Rattle.pi_engine_stands.proofs.CallEntries.{renamed-passes, back-renamed, stack-renamed, get-set}

-- what is there once a call is kept by an entry that stands for this
pub record CallKept {M : Type 0} (w : World M) (v : StoreView M) (a : ArenasView M) (base : ℕ) (kind : Kind) (y : EntryData) (es : List EntryData) : Type 0 where
  pub below : ℕ
  pub entry : Entry M
  pub is_newest : newest a.entries ≡ Some entry
  pub is_kind : entry.back.kind ≡ kind
  pub begins : entry.back.base ≡ base
  pub agrees : agrees_from (moved w v a) (Some entry) (now_here (moved w v a))
  pub under : StackIs w below (length w.arenas.collected) es
  pub passes : Passes w v a below
  pub stack : StackIs (moved w v a) (length a.entries) (length a.collected) (y ∷ es)
  pub kept : a.blocks.kept ≡ slots_kept_by (newest a.entries)

-- a kind stands for an entry, where the call stands
abbrev pub Makes : {M : Type 0} → World M → ℕ → ℕ → ℕ → ℕ → Called → List ClauseTree → State → List Frame → Kind → EntryData → Type 0
Makes w p base frame from called cs s k kind y =
    (h : Here) (slots : ℕ) → (stands : CallStands w.loaded h base frame p from called cs k) → slots ≤ base + stands.call.pred.arity →
    KindIs w.loaded w.arenas.collected h s base frame slots (length w.arenas.collected) (length w.arenas.collected) kind y

pub newest-last : {M : Type 0} (xs : List (Entry M)) (x : Entry M) → newest (xs ++ x ∷ []) ≡ Some x
newest-last xs x =
    let more : length (xs ++ x ∷ []) ≡ suc (length xs) = length-append xs (x ∷ []) ∙ omega arith in
    ap (entry_at (xs ++ x ∷ [])) more ∙ get_append_last xs x

moves-marked : {M : Type 0} (w : World M) (slots m : ℕ) → slots ≤ length w.arenas.blocks.slots → Moves (now_here w) (marked_here w slots) slots m
moves-marked w slots m fit =
    record { long = omega (arith, length-take-le slots w.arenas.blocks.slots fit); slots = sym (take-take slots slots w.arenas.blocks.slots (omega arith)); terms = λ n t is. is; frames = λ n p h at. at }

-- what is there agrees with an entry that is put on the stack just now
new-agrees : {M : Type 0} (w : World M) (v : StoreView M) (mark : M) (slots base frame : ℕ) (kind : Kind) → w.arenas.level ≤ length (entries_of w) → base ≤ slots → slots ≤ length w.arenas.blocks.slots →
    Marks w.order w.store v mark → agrees_from (with_entry w v mark slots base frame kind) (Some (new_entry w.arenas mark slots base frame kind)) (now_here (with_entry w v mark slots base frame kind))
new-agrees w v mark slots base frame kind within in_front fit marks =
    subst (λ h. Extend h.terms v.now.terms × (take base h.slots ≡ take base w.arenas.blocks.slots) × (base ≤ length w.arenas.blocks.slots) × (take (length w.arenas.frames) w.arenas.frames ≡ h.frames))
    (sym (back-of-new w v mark slots base frame kind within marks.brings_back))
    (keeps-terms w.store v marks.stays.keeps, take-take base slots w.arenas.blocks.slots in_front, omega (arith, in_front, fit), take_all (length w.arenas.frames) w.arenas.frames (omega arith))

one-pred : (r : Option PredTree) (p q : PredTree) → r ≡ Some p → r ≡ Some q → p ≡ q
one-pred r p q h k = cc

kept-new : {M : Type 0} (w : World M) (v : StoreView M) (a : ArenasView M) (p base frame from slots : ℕ) (called : Called) (cs : List ClauseTree) (s : State) (k : List Frame) (es : List EntryData) (again : Bool) (kind : Kind) (y : EntryData) →
    (is : CallIs w p base frame from called cs s k es again) → slots ≡ base + is.call.call.pred.arity → Makes w p base frame from called cs s k kind y → IsNoSearch y →
    w.store.now.state ≡ s → CallStands w.loaded (now_here w) base frame p from called cs k → StackIs w (length (entries_of w)) (length w.arenas.collected) es →
    PushesEntry w.order (between w.store v w.arenas a) (keeping slots base frame kind) → CallKept w v a base kind y es
kept-new w v a p base frame from slots called cs s k es again kind y is at makes none same stands stack push =
    let top : ℕ = length w.arenas.collected in
    let n : ℕ = length (entries_of w) in
    let b : ArenasView _ = pushed w.arenas push.mark slots base frame kind in
    let one : stands.call.pred.arity ≡ is.call.call.pred.arity = ap (λ q. q.arity) (one-pred (slice_get w.loaded.preds p) stands.call.pred is.call.call.pred stands.call.is_pred is.call.call.is_pred) in
    let fit : slots ≤ length w.arenas.blocks.slots = omega (arith, at, is.call.fits) in
    let more : length b.entries ≡ suc n = length-append (entries_of w) (new_entry w.arenas push.mark slots base frame kind ∷ []) ∙ omega arith in
    subst (λ r. CallKept w v r base kind y es) (sym push.arenas)
    (record {
      below = n;
      entry = new_entry w.arenas push.mark slots base frame kind;
      is_newest = newest-last (entries_of w) (new_entry w.arenas push.mark slots base frame kind);
      is_kind = refl;
      begins = refl;
      agrees = new-agrees w v push.mark slots base frame kind (omega (arith, is.level, open_level-within zero es, stack-length w n top es stack)) (omega (arith, at)) fit push.marks;
      under = stack;
      passes = record { leaves = pushed-leaves w v push.mark slots base frame n kind (omega arith) (omega (arith, is.over, at)) push.marks.stays.keeps; slots = refl; frames = refl; level = refl; stays = push.marks.stays };
      stack = subst (λ m. StackIs (moved w v b) m top (y ∷ es)) (sym more)
          (stack-pushed w v push.mark slots base frame top kind y es
          (record { code = is.code; state = is.state; tables = is.tables; level = is.level; kept = is.kept; stack = stack })
          push.marks (omega (arith, is.over, at)) fit (omega arith) (λ x found. omega (arith, is.inside x found, at)) is.agrees
          (subst (λ r. KindIs w.loaded w.arenas.collected (marked_here w slots) r base frame slots top top kind y) (sym same)
          (makes (marked_here w slots) slots (call-moves w.loaded (now_here w) (marked_here w slots) base frame p from slots frame called cs k stands (omega (arith, at, one)) (omega arith) (moves-marked w slots frame fit) refl) (omega (arith, at, one)))) (no-search-none y none)
          stack);
      kept = ap slots_kept_by (sym (newest-last (entries_of w) (new_entry w.arenas push.mark slots base frame kind)));
    })

kept-own : {M : Type 0} (w : World M) (v : StoreView M) (a : ArenasView M) (p base frame from : ℕ) (called : Called) (cs : List ClauseTree) (s : State) (k : List Frame) (es : List EntryData) (kind : Kind) (y : EntryData) →
    (own : OwnEntry w p base frame from called cs s k es) → Makes w p base frame from called cs s k kind y → IsNoSearch y → w.arenas.blocks.kept ≡ slots_kept_by (newest (entries_of w)) →
    v ≡ w.store → a ≡ renamed w.arenas own.entry kind → CallKept w v a base kind y es
kept-own w v a p base frame from called cs s k es kind y own makes none kept store arenas =
    let top : ℕ = length w.arenas.collected in
    let x : Entry _ = own.entry in
    let b : ArenasView _ = renamed w.arenas x kind in
    let more : length b.entries ≡ suc own.below = length-set (entries_of w) (length (entries_of w) - 1) (with_kind x kind) ∙ own.all in
    let last : newest b.entries ≡ Some (with_kind x kind) =
    ap (entry_at b.entries) more ∙ ap (λ m. slice_get (slice_set (entries_of w) m (with_kind x kind)) own.below) (omega (arith, own.all)) ∙ get-set (entries_of w) own.below x (with_kind x kind) own.at in
    let first : newest (entries_of w) ≡ Some x = ap (entry_at (entries_of w)) own.all ∙ own.at in
    let kind_is : KindIs w.loaded w.arenas.collected (back_here w x) (w.store.at_mark x.mark).state x.back.base x.back.frame x.back.blocks.slots top top kind y =
    subst (λ r. KindIs w.loaded w.arenas.collected (back_here w x) r x.back.base x.back.frame x.back.blocks.slots top top kind y) (sym own.state)
    (subst (λ r. KindIs w.loaded w.arenas.collected (back_here w x) s r x.back.frame x.back.blocks.slots top top kind y) (sym own.begins)
    (subst (λ r. KindIs w.loaded w.arenas.collected (back_here w x) s base r x.back.blocks.slots top top kind y) (sym own.goes_on)
    (makes (back_here w x) x.back.blocks.slots own.call own.over))) in
    subst (λ r. CallKept w r a base kind y es) (sym store)
    (subst (λ r. CallKept w w.store r base kind y es) (sym arenas)
    (record {
      below = own.below;
      entry = with_kind x kind;
      is_newest = last;
      is_kind = refl;
      begins = own.begins;
      agrees = subst (λ h. Extend h.terms w.store.now.terms × (take x.back.base h.slots ≡ take x.back.base w.arenas.blocks.slots) × (x.back.base ≤ length w.arenas.blocks.slots) × (take x.back.frames w.arenas.frames ≡ h.frames))
          (sym (back-renamed w own.below x kind own.all (omega (arith, own.is.level, open_level-within zero es, stack-length w own.below top es own.stack)))) own.agrees;
      under = own.stack;
      passes = renamed-passes w x kind own.below own.all;
      stack = subst (λ m. StackIs (moved w w.store b) m top (y ∷ es)) (sym more) (stack-renamed w own.below es x own.stood y kind own.all own.at own.is own.stack kind_is (no-search-found w.store x.mark y none));
      kept = kept ∙ ap slots_kept_by first ∙ sym (ap slots_kept_by last);
    }))

kept-either : {M : Type 0} (w : World M) (v : StoreView M) (a : ArenasView M) (p base frame from slots : ℕ) (called : Called) (cs : List ClauseTree) (s : State) (k : List Frame) (es : List EntryData) (again known : Bool) (kind : Kind) (y : EntryData) →
    (is : CallIs w p base frame from called cs s k es known) → slots ≡ base + is.call.call.pred.arity → Makes w p base frame from called cs s k kind y → IsNoSearch y →
    HasEntry w p base frame from called cs s k es again → KeepsCall w.order (between w.store v w.arenas a) (keeping slots base frame kind) again → CallKept w v a base kind y es
kept-either w v a p base frame from slots called cs s k es again known kind y is at makes none (no_entry same stands stack) (keeps_new push) =
    kept-new w v a p base frame from slots called cs s k es known kind y is at makes none same stands stack push
kept-either w v a p base frame from slots called cs s k es again known kind y is at makes none (own_entry own) (keeps_own store arenas) =
    kept-own w v a p base frame from called cs s k es kind y own makes none is.kept store (arenas own.entry (ap (entry_at (entries_of w)) own.all ∙ own.at))

-- a call is kept
pub call-kept : {M : Type 0} (w : World M) (v : StoreView M) (a : ArenasView M) (p base frame from slots : ℕ) (called : Called) (cs : List ClauseTree) (s : State) (k : List Frame) (es : List EntryData) (again : Bool) (kind : Kind) (y : EntryData) →
    (is : CallIs w p base frame from called cs s k es again) → slots ≡ base + is.call.call.pred.arity → Makes w p base frame from called cs s k kind y → IsNoSearch y →
    KeepsCall w.order (between w.store v w.arenas a) (keeping slots base frame kind) again → CallKept w v a base kind y es
call-kept w v a p base frame from slots called cs s k es again kind y is at makes none keeps =
    kept-either w v a p base frame from slots called cs s k es again again kind y is at makes none is.entry keeps
