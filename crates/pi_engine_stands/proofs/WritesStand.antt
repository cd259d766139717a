-- What a run stands for where slots of the present block are written and the store has more.
use Rattle.std.proofs.Common.{◌≡◌, ℕ, zero, ◌+◌, ◌≤◌, Bool, List, Option, Some, None, length, take, refl, sym, ◌∙◌, subst, arith}
use Rattle.pi_terms.specs.Places.{Places}
use Rattle.pi_constraints.specs.State.{State}
use Rattle.pi_engine_stands.specs.Rests.{Rests}
use Rattle.pi_constraints.specs.Store.{StoreView, Extend}
use Rattle.pi_core.specs.GoalTree.{GoalTrees}
use Rattle.pi_engine_arenas.specs.declared.frames.Point.{Point}
use Rattle.pi_engine_arenas.specs.Blocks.{BlocksView}
use Rattle.pi_engine_arenas.specs.Arenas.{entry_at, between}
use Rattle.pi_engine_arenas.specs.declared.arenas.Entry.{Entry}
use Rattle.pi_meaning.specs.Machine.Configuration.{Frame, Entry as EntryData}
use Rattle.pi_engine_stands.specs.Here.{Block, ends_base, GoesOn}
use Rattle.pi_engine_stands.specs.Stands.{tables_in, World, steps_of, entries_of, level_ends, now_here, back_here, Agrees, agrees_from, StackLies, StackStands, GoingIs}
use Rattle.pi_engine_stands.specs.Evaluates.{with_blocks, Writes}
use Rattle.pi_engine_stands.proofs.HereLemmas.{take-agrees, goes_on-moves}
use Rattle.pi_engine_stands.proofs.PointLemmas.{goes_on-within}
use Rattle.pi_engine_stands.proofs.ProgramStands.{code-keeps}
use Rattle.pi_engine_stands.proofs.StandsLemmas.{moved, Leaves, stack-moves, stack-length, open_level-within, entry-below}
use Rattle.pi_constraints.proofs.StateLemmas.{extends}
use Rattle.pi_engine_stands.proofs.BasesStand.{block-above, level-begins}
use Rattle.pi_engine_stands.proofs.StacksLie.{stack-lies, lies-stand}

-- ---- a block that is written

abbrev pub written : {M : Type 0} → World M → StoreView M → BlocksView → World M
written w v bs = moved w v (with_blocks w.arenas bs)

abbrev pub WritesTo : {M : Type 0} → World M → StoreView M → BlocksView → Block → Places → State → Type 0
WritesTo w v bs b f s = Writes b (between w.store v w.arenas (with_blocks w.arenas bs)) f s

writes-leave : {M : Type 0} (w : World M) (v : StoreView M) (bs : BlocksView) (b : Block) (f : Places) (s : State) (n : ℕ) → WritesTo w v bs b f s →
    Leaves w v (with_blocks w.arenas bs) n (length w.arenas.collected)
writes-leave w v bs b f s n writes =
    record {
      entries = refl;
      marks = λ i x h at good. (writes.keeps.good x.mark good, writes.keeps.same x.mark good);
      blocks = λ i x h at kept. writes.blocks x.back.blocks kept;
      frames = λ i x h at fit. (fit, refl);
      collected = refl;
      enough = omega arith;
      beside = writes.keeps.beside;
      names = writes.keeps.names;
    }

-- the entries stay
pub lies-written : {M : Type 0} (w : World M) (v : StoreView M) (bs : BlocksView) (b : Block) (f : Places) (s : State) (es : List EntryData) → WritesTo w v bs b f s →
    StackLies w es → StackLies (written w v bs) es
lies-written w v bs b f s es writes is =
    record {
      code = code-keeps w.loaded.code (tables_in w.loaded) w.store.names v.names w.loaded.preds (λ i name has. writes.keeps.names i name has) is.code;
      tables = λ i t has. writes.keeps.terms (record { number = i }) t (is.tables i t has);
      level = is.level;
      kept = writes.kept ∙ is.kept;
      stack = stack-moves w v (with_blocks w.arenas bs) (length (entries_of w)) (length w.arenas.collected) (length (entries_of w)) (length w.arenas.collected) es
          (writes-leave w v bs b f s (length (entries_of w)) writes) (omega arith) (omega arith) is.stack;
    }

pub stack-written : {M : Type 0} (w : World M) (v : StoreView M) (bs : BlocksView) (b : Block) (f : Places) (s : State) (es : List EntryData) → WritesTo w v bs b f s → Rests v.now.state →
    StackStands w es → StackStands (written w v bs) es
stack-written w v bs b f s es writes state is = lies-stand (written w v bs) es (lies-written w v bs b f s es writes (stack-lies w es is)) state

agrees-found : {M : Type 0} (w : World M) (v : StoreView M) (bs : BlocksView) (b : Block) (f : Places) (s : State) (r : Option (Entry M)) → WritesTo w v bs b f s →
    ((x : Entry M) → r ≡ Some x → back_here (written w v bs) x ≡ back_here w x) → ((x : Entry M) → r ≡ Some x → x.back.base ≤ b.base) →
    agrees_from w r (now_here w) → agrees_from (written w v bs) r (now_here (written w v bs))
agrees-found w v bs b f s None writes stays lies agrees = tt
agrees-found w v bs b f s (Some x) writes stays lies agrees =
    subst (λ h. Extend h.terms v.now.terms × (take x.back.base h.slots ≡ take x.back.base bs.slots) × (x.back.base ≤ length bs.slots) × (take x.back.frames w.arenas.frames ≡ h.frames))
    (sym (stays x refl)) (
      λ n t is. extends w.store v writes.keeps n t (agrees.0 n t is),
      agrees.1 ∙ sym (take-agrees x.back.base (b.base + b.first) bs.slots w.arenas.blocks.slots (omega (arith, lies x refl)) writes.front),
      omega (arith, agrees.2, writes.as_many),
      agrees.3,
    )

-- what is there now agrees with its level
pub agrees-written : {M : Type 0} (w : World M) (v : StoreView M) (bs : BlocksView) (b : Block) (f : Places) (s : State) (es : List EntryData) → WritesTo w v bs b f s → StackLies w es →
    ends_base (level_ends w w.arenas.level) ≤ b.base → Agrees w w.arenas.level (now_here w) → Agrees (written w v bs) w.arenas.level (now_here (written w v bs))
agrees-written w v bs b f s es writes stands lies agrees =
    let n : ℕ = length (entries_of w) in
    let within : w.arenas.level ≤ n = omega (arith, stands.level, open_level-within zero es, stack-length w n (length w.arenas.collected) es stands.stack) in
    agrees-found w v bs b f s (entry_at (entries_of w) w.arenas.level) writes
    (entry-below w v (with_blocks w.arenas bs) n (length w.arenas.collected) n (length w.arenas.collected) w.arenas.level es (writes-leave w v bs b f s n writes) (omega arith) stands.stack within)
    (λ x is. level-begins w.loaded x (entry_at (entries_of w) w.arenas.level) b.base is lies) agrees

-- what is left to do behind the block
pub goes_on-written : {M : Type 0} (w : World M) (v : StoreView M) (bs : BlocksView) (b : Block) (f : Places) (s : State) (leaves : Bool) (n : ℕ) (k : List Frame) → WritesTo w v bs b f s →
    GoesOn (tables_in w.loaded) (steps_of w.loaded) (now_here w) b leaves n k → GoesOn (tables_in w.loaded) (steps_of w.loaded) (now_here (written w v bs)) b leaves n k
goes_on-written w v bs b f s leaves n k writes goes =
    goes_on-moves (tables_in w.loaded) (steps_of w.loaded) (now_here w) (now_here (written w v bs)) b leaves n k b.base (length w.arenas.frames) (omega arith)
    (goes_on-within (tables_in w.loaded) (steps_of w.loaded) (now_here w) b leaves n k goes)
    (record {
      long = omega (arith, writes.holds.within);
      slots = sym (take-agrees b.base (b.base + b.first) bs.slots w.arenas.blocks.slots (omega arith) writes.front);
      terms = extends w.store v writes.keeps;
      frames = λ i p within at. at;
    })
    refl goes

-- goals that run go on to, in their block as it is then
pub going-written : {M : Type 0} (w : World M) (v : StoreView M) (bs : BlocksView) (p : Point) (gs : GoalTrees) (e f : Places) (s : State) (k : List Frame) (es : List EntryData) → StackLies w es →
    (is : GoingIs w p gs e k) → WritesTo w v bs is.block f s → GoingIs (written w v bs) p gs f k
going-written w v bs p gs e f s k es stands is writes =
    record {
      block = is.block;
      base = is.base;
      value = is.value;
      last = is.last;
      rest = is.rest;
      goals = is.goals;
      behind = record {
        slots = writes.holds;
        leaves = is.behind.leaves;
        frames = goes_on-written w v bs is.block f s is.behind.leaves p.frame is.rest writes is.behind.frames;
      };
      leaves = is.leaves;
      frames = is.frames;
      agrees = agrees-written w v bs is.block f s es writes stands
          (block-above (tables_in w.loaded) (steps_of w.loaded) (now_here w) is.block is.behind.leaves p.frame is.rest is.behind.frames) is.agrees;
    }
