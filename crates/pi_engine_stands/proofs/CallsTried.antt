-- A call whose rules are tried one after the other.
use Rattle.std.proofs.Common.{◌≡◌, ℕ, zero, suc, ◌+◌, ◌≤◌, Bool, true, List, ◌∷◌, Option, Some, length, take, refl, sym, ◌∙◌, ap, subst, arith}
use Rattle.std.specs.Prelude.{slice_get}
use Rattle.pi_constraints.specs.State.{State}
use Rattle.pi_core.specs.CoreTree.{ClauseTree, PredTree}
use Rattle.pi_engine_arenas.specs.declared.run.Now.{Now}
use Rattle.pi_engine_arenas.specs.Frames.{frame_at}
use Rattle.pi_engine_arenas.specs.Arenas.{ArenasView, entry_at, newest, slots_kept_by}
use Rattle.pi_engine_arenas.specs.declared.arenas.Entry.{Entry}
use Rattle.pi_meaning.specs.Machine.Configuration.{Frame, Called, config, failed, Entry as EntryData}
use Rattle.pi_engine_stands.specs.Here.{Here}
use Rattle.pi_engine_stands.specs.Stands.{World, tables_in, steps_of, entries_of, entry_ends, level_ends, now_here, back_here, agrees_from, CallStands, EntryIs, StackIs, entry_above, Stands, failing_now}
use Rattle.pi_constraints.specs.Store.{Extend}
use Rattle.pi_engine_stands.specs.Tries.{RulesLeft, OwnEntry, HasEntry, no_entry, own_entry, CallIs, KeepsBelow}
use Rattle.pi_engine_stands.proofs.HereLemmas.{Moves, goes_on-moves}
use Rattle.pi_engine_stands.proofs.StandsLemmas.{moved, Leaves, EntryFacts, entry-facts, back-stays, entry-moves, stack-moves, stack-length, open_level-within, agrees-moves}
use Rattle.pi_engine_stands.proofs.CallsStand.{call-moves, BelowCall, below-call}
use Rattle.pi_engine_stands.proofs.RulesTaken.{StackAfter, rules-next, call-next}
use Rattle.pi_engine_stands.proofs.GuardsAnswered.{agrees-through}

-- ---- where slots behind the call's arguments change

pub below-leaves : {M : Type 0} (w : World M) (b : ArenasView M) (limit n : ℕ) → KeepsBelow w.arenas b limit → Leaves w w.store b n (length w.arenas.collected)
below-leaves w b limit n keeps =
    record {
      entries = ap (take n) (sym keeps.entries);
      marks = λ i x h at good. (good, refl);
      blocks = λ i x h at kept. keeps.keeps x.back.blocks kept;
      frames = λ i x h at fit. (subst (λ fs. x.back.frames ≤ length fs) (sym keeps.frames) fit, ap (take x.back.frames) keeps.frames);
      collected = ap (take (length w.arenas.collected)) (sym keeps.collected);
      enough = subst (λ r. length w.arenas.collected ≤ length r) (sym keeps.collected) (omega arith);
      beside = λ m. refl;
      names = λ k name has. has;
    }

pub below-ends : {M : Type 0} (w : World M) (b : ArenasView M) (limit : ℕ) → KeepsBelow w.arenas b limit → level_ends w w.arenas.level ≡ level_ends (moved w w.store b) b.level
below-ends w b limit keeps = ap (λ es. entry_ends w.loaded (entry_at es w.arenas.level)) (sym keeps.entries) ∙ ap (λ n. entry_ends w.loaded (entry_at b.entries n)) (sym keeps.level)

pub below-moves : {M : Type 0} (w : World M) (b : ArenasView M) (limit m : ℕ) → KeepsBelow w.arenas b limit → Moves (now_here w) (now_here (moved w w.store b)) limit m
below-moves w b limit m keeps =
    record { long = keeps.long; slots = sym keeps.front; terms = λ n t is. is; frames = λ n p h at. subst (λ fs. frame_at fs n ≡ Some p) (sym keeps.frames) at }

pub below-agrees : {M : Type 0} (w : World M) (b : ArenasView M) (limit : ℕ) (r : Option (Entry M)) → KeepsBelow w.arenas b limit → ((z : Entry M) → r ≡ Some z → z.back.base ≤ limit) →
    agrees_from (moved w w.store b) r (now_here w) → agrees_from (moved w w.store b) r (now_here (moved w w.store b))
below-agrees w b limit r keeps inside agrees =
    agrees-through (moved w w.store b) r (now_here w) (now_here (moved w w.store b)) limit inside (λ n t is. is) (sym keeps.front) keeps.long keeps.frames agrees

one-entry : {M : Type 0} (x z : Entry M) → Some x ≡ Some z → z ≡ x
one-entry x z at = cc

one-pred : (r : Option PredTree) (p q : PredTree) → r ≡ Some p → r ≡ Some q → p ≡ q
one-pred r p q h k = cc

arity-same : {M : Type 0} (w : World M) (g h : Here) (p base frame number : ℕ) (called : Called) (cs : List ClauseTree) (k : List Frame) (is : CallStands w.loaded h base frame p number called cs k) (also : CallStands w.loaded g base frame p number called cs k) →
    is.call.pred.arity ≡ also.call.pred.arity
arity-same w g h p base frame number called cs k is also = ap (λ q. q.arity) (one-pred (slice_get w.loaded.preds p) is.call.pred also.call.pred is.call.is_pred also.call.is_pred)

pub own-over : {M : Type 0} (w : World M) (g h : Here) (p base frame number slots : ℕ) (called : Called) (cs : List ClauseTree) (k : List Frame) (same : h ≡ g) → (is : CallStands w.loaded h base frame p number called cs k) →
    slots ≤ base + is.call.pred.arity → slots ≤ base + (subst (λ q. CallStands w.loaded q base frame p number called cs k) same is).call.pred.arity
own-over w g h p base frame number slots called cs k same is over = omega (arith, over, arity-same w g h p base frame number called cs k is (subst (λ q. CallStands w.loaded q base frame p number called cs k) same is))

own-tried : {M : Type 0} (w : World M) (b : ArenasView M) (p base frame number limit : ℕ) (called : Called) (cs : List ClauseTree) (s : State) (k : List Frame) (es : List EntryData) → KeepsBelow w.arenas b limit → base ≤ limit →
    OwnEntry w p base frame number called cs s k es → OwnEntry (moved w w.store b) p base frame number called cs s k es
own-tried w b p base frame number limit called cs s k es keeps in_front own =
    let top : ℕ = length w.arenas.collected in
    let m : ℕ = own.below in
    let x : Entry _ = own.entry in
    let after : World _ = moved w w.store b in
    let leaves : Leaves w w.store b (suc m) top = below-leaves w b limit (suc m) keeps in
    let many : length b.collected ≡ top = ap length keeps.collected in
    let facts : EntryFacts w m x = entry-facts w (suc m) top (own.stood ∷ es) m x (entry_above m top es x own.stood own.at own.is own.stack) (omega arith) own.at in
    let back : back_here after x ≡ back_here w x = back-stays w w.store b (suc m) top m x leaves (omega arith) own.at facts in
    let is : EntryIs after es (entry_at b.entries m) top top x own.stood = entry-moves w w.store b (suc m) top m top top es x own.stood leaves (omega arith) (omega arith) own.at own.is own.stack in
    record {
      below = m;
      entry = x;
      stood = own.stood;
      all = ap length keeps.entries ∙ own.all;
      at = ap (λ xs. slice_get xs m) keeps.entries ∙ own.at;
      is = subst (λ n. EntryIs after es (entry_at b.entries m) n n x own.stood) (sym many) is;
      begins = own.begins;
      goes_on = own.goes_on;
      state = own.state;
      call = subst (λ h. CallStands w.loaded h base frame p number called cs k) (sym back) own.call;
      over = own-over w (back_here after x) (back_here w x) p base frame number x.back.blocks.slots called cs k (sym back) own.call own.over;
      agrees = below-agrees w b limit (Some x) keeps (λ z at. omega (arith, in_front, own.begins, ap (λ q. q.back.base) (one-entry x z at)))
          (subst (λ h. Extend h.terms w.store.now.terms × (take x.back.base h.slots ≡ take x.back.base w.arenas.blocks.slots) × (x.back.base ≤ length w.arenas.blocks.slots) × (take x.back.frames w.arenas.frames ≡ h.frames)) (sym back) own.agrees);
      stack = subst (λ n. StackIs after m n es) (sym many) (stack-moves w w.store b (suc m) top m top es leaves (omega arith) (omega arith) own.stack);
    }

pub entry-tried : {M : Type 0} (w : World M) (b : ArenasView M) (p base frame number limit : ℕ) (called : Called) (cs : List ClauseTree) (s : State) (k : List Frame) (es : List EntryData) (again : Bool) → (left : RulesLeft w.loaded p number called cs) →
    limit ≡ base + left.pred.arity → KeepsBelow w.arenas b limit → HasEntry w p base frame number called cs s k es again → HasEntry (moved w w.store b) p base frame number called cs s k es again
entry-tried w b p base frame number limit called cs s k es again left at keeps (no_entry same stands stack) =
    let top : ℕ = length w.arenas.collected in
    let after : World _ = moved w w.store b in
    let one : stands.call.pred.arity ≡ left.pred.arity = ap (λ q. q.arity) (one-pred (slice_get w.loaded.preds p) stands.call.pred left.pred stands.call.is_pred left.is_pred) in
    let n : ℕ = length (entries_of w) in
    no_entry same
    (call-moves w.loaded (now_here w) (now_here after) base frame p number limit frame called cs k stands (omega (arith, at, one)) (omega arith) (below-moves w b limit frame keeps) (below-ends w b limit keeps))
    (subst (λ m. StackIs after m (length b.collected) es) (ap length (sym keeps.entries)) (subst (λ m. StackIs after n m es) (ap length (sym keeps.collected))
    (stack-moves w w.store b n top n top es (below-leaves w b limit n keeps) (omega arith) (omega arith) stack)))
entry-tried w b p base frame number limit called cs s k es again left at keeps (own_entry own) =
    own_entry (own-tried w b p base frame number limit called cs s k es keeps (omega (arith, at)) own)

-- the call is still what it is
abbrev pub call-tried : {M : Type 0} (w : World M) (b : ArenasView M) (p base frame number limit : ℕ) (called : Called) (cs : List ClauseTree) (s : State) (k : List Frame) (es : List EntryData) (again : Bool) →
    (is : CallIs w p base frame number called cs s k es again) → limit ≡ base + is.call.call.pred.arity → KeepsBelow w.arenas b limit → CallIs (moved w w.store b) p base frame number called cs s k es again
call-tried w b p base frame number limit called cs s k es again is at keeps =
    let top : ℕ = length w.arenas.collected in
    let after : World _ = moved w w.store b in
    let below : BelowCall w es = below-call w p base frame number called cs s k es again is.entry in
    let m : ℕ = below.count in
    let level : w.arenas.level ≤ m = omega (arith, is.level, open_level-within zero es, stack-length w m top es below.stack) in
    let inside : (z : Entry _) → entry_at b.entries b.level ≡ Some z → z.back.base ≤ base + is.call.call.pred.arity =
    λ z found. is.inside z (ap (λ xs. entry_at xs w.arenas.level) (sym keeps.entries) ∙ ap (entry_at b.entries) (sym keeps.level) ∙ found) in
    record {
      code = is.code;
      state = is.state;
      tables = is.tables;
      level = keeps.level ∙ is.level;
      kept = keeps.kept ∙ is.kept ∙ ap (λ xs. slots_kept_by (newest xs)) (sym keeps.entries);
      call = record {
        call = is.call.call;
        fits = omega (arith, at, keeps.long);
        frames = goes_on-moves (tables_in w.loaded) (steps_of w.loaded) (now_here w) (now_here after) (record { base = base; first = is.call.call.pred.arity; count = 0 }) true frame k limit frame
            (omega (arith, at)) (omega arith) (below-moves w b limit frame keeps) (below-ends w b limit keeps) is.call.frames;
        returns = is.call.returns;
        alone = is.call.alone;
      };
      agrees = below-agrees w b limit (entry_at b.entries b.level) keeps (λ z found. omega (arith, inside z found, at))
          (subst (λ n. agrees_from after (entry_at b.entries n) (now_here w)) (sym keeps.level)
          (agrees-moves w w.store b m top m top w.arenas.level es (now_here w) (now_here w) (below-leaves w b limit m keeps) (omega arith) below.stack level refl is.agrees));
      over = omega (arith, keeps.kept, is.over);
      inside = inside;
      entry = entry-tried w b p base frame number limit called cs s k es again is.call.call at keeps is.entry;
    }

-- ---- the next rule, and none

pub entry-passed : {M : Type 0} (w : World M) (p base frame number : ℕ) (called : Called) (c : ClauseTree) (cs : List ClauseTree) (s : State) (k : List Frame) (es : List EntryData) (again : Bool) →
    HasEntry w p base frame number called (c ∷ cs) s k es again → HasEntry w p base frame (number + 1) called cs s k es again
entry-passed w p base frame number called c cs s k es again (no_entry same stands stack) = no_entry same (call-next w.loaded (now_here w) base frame p number called c cs k stands) stack
entry-passed w p base frame number called c cs s k es again (own_entry own) =
    own_entry (record {
      below = own.below;
      entry = own.entry;
      stood = own.stood;
      all = own.all;
      at = own.at;
      is = own.is;
      begins = own.begins;
      goes_on = own.goes_on;
      state = own.state;
      call = call-next w.loaded (back_here w own.entry) base frame p number called c cs k own.call;
      over = own.over;
      agrees = own.agrees;
      stack = own.stack;
    })

-- the head of the first rule that is left doesn't match
abbrev pub call-passed : {M : Type 0} (w : World M) (p base frame number : ℕ) (called : Called) (c : ClauseTree) (cs : List ClauseTree) (s : State) (k : List Frame) (es : List EntryData) (again : Bool) →
    CallIs w p base frame number called (c ∷ cs) s k es again → CallIs w p base frame (number + 1) called cs s k es again
call-passed w p base frame number called c cs s k es again is =
    record {
      code = is.code;
      state = is.state;
      tables = is.tables;
      level = is.level;
      kept = is.kept;
      call = record {
        call = record { pred = is.call.call.pred; predicate = is.call.call.predicate; is_pred = is.call.call.is_pred; is_predicate = is.call.call.is_predicate; function = is.call.call.function; from = omega (arith, is.call.call.from); rules = rules-next w.loaded p number called c cs is.call.call };
        fits = is.call.fits;
        frames = is.call.frames;
        returns = is.call.returns;
        alone = is.call.alone;
      };
      agrees = is.agrees;
      over = is.over;
      inside = is.inside;
      entry = entry-passed w p base frame number called c cs s k es again is.entry;
    }

-- no rule is left
pub call-ended : {M : Type 0} (w : World M) (a : ArenasView M) (p base frame number : ℕ) (called : Called) (cs : List ClauseTree) (s : State) (k : List Frame) (es : List EntryData) (again : Bool) →
    CallIs w p base frame number called cs s k es again → StackAfter w w.store a es es → Stands (moved w w.store a) Now.Failing (config failed es)
call-ended w a p base frame number called cs s k es again is after =
    record {
      entries = record { code = is.code; tables = is.tables; level = after.passes.level ∙ is.level; kept = after.kept; stack = after.stack };
      runs = failing_now;
    }
