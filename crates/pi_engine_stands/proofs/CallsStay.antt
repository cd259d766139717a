-- A call, where the store has more terms, in the state that it had.
use Rattle.std.proofs.Common.{◌≡◌, ℕ, zero, suc, ◌+◌, ◌≤◌, Bool, true, List, ◌∷◌, Some, length, take, refl, sym, ◌∙◌, ap, subst, arith}
use Rattle.pi_constraints.specs.State.{State}
use Rattle.pi_engine_stands.specs.Rests.{Rests}
use Rattle.pi_constraints.specs.Store.{StoreView, Keeps, Stays, Extend}
use Rattle.pi_core.specs.CoreTree.{ClauseTree}
use Rattle.pi_engine_arenas.specs.declared.arenas.Entry.{Entry}
use Rattle.pi_meaning.specs.Machine.Configuration.{Frame, Called, Entry as EntryData}
use Rattle.pi_engine_stands.specs.Stands.{World, tables_in, steps_of, entries_of, now_here, back_here, CallStands, entry_above}
use Rattle.pi_engine_stands.specs.Tries.{OwnEntry, HasEntry, no_entry, own_entry, CallIs}
use Rattle.pi_engine_stands.proofs.HereLemmas.{Moves, goes_on-moves}
use Rattle.pi_engine_stands.proofs.ProgramStands.{code-keeps}
use Rattle.pi_engine_stands.proofs.StandsLemmas.{moved, Leaves, EntryFacts, entry-facts, back-stays, entry-moves, stack-moves, stack-length, open_level-within}
use Rattle.pi_engine_stands.proofs.CallsStand.{Passes, keeps-terms, call-moves, agrees-extends, agrees-pass, BelowCall, below-call}
use Rattle.pi_engine_stands.proofs.CallsTried.{own-over}

pub stay-leaves : {M : Type 0} (w : World M) (v : StoreView M) (n : ℕ) → Keeps w.store v → Leaves w v w.arenas n (length w.arenas.collected)
stay-leaves w v n keeps =
    record {
      entries = refl;
      marks = λ i x h at good. (keeps.good x.mark good, keeps.same x.mark good);
      blocks = λ i x h at kept. (kept, refl);
      frames = λ i x h at fit. (fit, refl);
      collected = refl;
      enough = omega arith;
      beside = keeps.beside;
      names = keeps.names;
    }

pub stay-moves : {M : Type 0} (w : World M) (v : StoreView M) (limit m : ℕ) → Keeps w.store v → limit ≤ length w.arenas.blocks.slots → Moves (now_here w) (now_here (moved w v w.arenas)) limit m
stay-moves w v limit m keeps fit = record { long = fit; slots = refl; terms = keeps-terms w.store v keeps; frames = λ n p h at. at }

own-stays : {M : Type 0} (w : World M) (v : StoreView M) (p base frame number : ℕ) (called : Called) (cs : List ClauseTree) (s : State) (k : List Frame) (es : List EntryData) → Stays w.store v →
    OwnEntry w p base frame number called cs s k es → OwnEntry (moved w v w.arenas) p base frame number called cs s k es
own-stays w v p base frame number called cs s k es stays own =
    let top : ℕ = length w.arenas.collected in
    let m : ℕ = own.below in
    let x : Entry _ = own.entry in
    let after : World _ = moved w v w.arenas in
    let leaves : Leaves w v w.arenas (suc m) top = stay-leaves w v (suc m) stays.keeps in
    let facts : EntryFacts w m x = entry-facts w (suc m) top (own.stood ∷ es) m x (entry_above m top es x own.stood own.at own.is own.stack) (omega arith) own.at in
    let back : back_here after x ≡ back_here w x = back-stays w v w.arenas (suc m) top m x leaves (omega arith) own.at facts in
    record {
      below = m;
      entry = x;
      stood = own.stood;
      all = own.all;
      at = own.at;
      is = entry-moves w v w.arenas (suc m) top m top top es x own.stood leaves (omega arith) (omega arith) own.at own.is own.stack;
      begins = own.begins;
      goes_on = own.goes_on;
      state = ap (λ o. o.state) (leaves.marks m x (omega arith) own.at own.is.good).1 ∙ own.state;
      call = subst (λ h. CallStands w.loaded h base frame p number called cs k) (sym back) own.call;
      over = own-over w (back_here after x) (back_here w x) p base frame number x.back.blocks.slots called cs k (sym back) own.call own.over;
      agrees = agrees-extends after (Some x) (now_here w) (now_here after) (keeps-terms w.store v stays.keeps) refl refl
          (subst (λ h. Extend h.terms w.store.now.terms × (take x.back.base h.slots ≡ take x.back.base w.arenas.blocks.slots) × (x.back.base ≤ length w.arenas.blocks.slots) × (take x.back.frames w.arenas.frames ≡ h.frames)) (sym back) own.agrees);
      stack = stack-moves w v w.arenas (suc m) top m top es leaves (omega arith) (omega arith) own.stack;
    }

pub entry-stays : {M : Type 0} (w : World M) (v : StoreView M) (p base frame number : ℕ) (called : Called) (cs : List ClauseTree) (s : State) (k : List Frame) (es : List EntryData) (again : Bool) → Stays w.store v →
    HasEntry w p base frame number called cs s k es again → HasEntry (moved w v w.arenas) p base frame number called cs s k es again
entry-stays w v p base frame number called cs s k es again stays (no_entry same stands stack) =
    let top : ℕ = length w.arenas.collected in
    let n : ℕ = length (entries_of w) in
    no_entry (stays.state ∙ same)
    (call-moves w.loaded (now_here w) (now_here (moved w v w.arenas)) base frame p number (base + stands.call.pred.arity) frame called cs k stands (omega arith) (omega arith) (stay-moves w v (base + stands.call.pred.arity) frame stays.keeps stands.call.args.within) refl)
    (stack-moves w v w.arenas n top n top es (stay-leaves w v n stays.keeps) (omega arith) (omega arith) stack)
entry-stays w v p base frame number called cs s k es again stays (own_entry own) = own_entry (own-stays w v p base frame number called cs s k es stays own)

-- the call is still what it is
abbrev pub call-stays : {M : Type 0} (w : World M) (v : StoreView M) (p base frame number : ℕ) (called : Called) (cs : List ClauseTree) (s : State) (k : List Frame) (es : List EntryData) (again : Bool) → Stays w.store v →
    CallIs w p base frame number called cs s k es again → CallIs (moved w v w.arenas) p base frame number called cs s k es again
call-stays w v p base frame number called cs s k es again stays is =
    let top : ℕ = length w.arenas.collected in
    let below : BelowCall w es = below-call w p base frame number called cs s k es again is.entry in
    let m : ℕ = below.count in
    let level : w.arenas.level ≤ m = omega (arith, is.level, open_level-within zero es, stack-length w m top es below.stack) in
    let passes : Passes w v w.arenas m = record { leaves = stay-leaves w v m stays.keeps; slots = refl; frames = refl; level = refl; stays = stays } in
    record {
      code = code-keeps w.loaded.code (tables_in w.loaded) w.store.names v.names w.loaded.preds (λ i name has. stays.keeps.names i name has) is.code;
      state = subst Rests (sym stays.state) is.state;
      tables = λ i t has. keeps-terms w.store v stays.keeps i t (is.tables i t has);
      level = is.level;
      kept = is.kept;
      call = record {
        call = is.call.call;
        fits = is.call.fits;
        frames = goes_on-moves (tables_in w.loaded) (steps_of w.loaded) (now_here w) (now_here (moved w v w.arenas)) (record { base = base; first = is.call.call.pred.arity; count = 0 }) true frame k (base + is.call.call.pred.arity) frame
            (omega arith) (omega arith) (stay-moves w v (base + is.call.call.pred.arity) frame stays.keeps is.call.fits) refl is.call.frames;
        returns = is.call.returns;
        alone = is.call.alone;
      };
      agrees = agrees-pass w v w.arenas m es passes below.stack level is.agrees;
      over = is.over;
      inside = is.inside;
      entry = entry-stays w v p base frame number called cs s k es again stays is.entry;
    }
