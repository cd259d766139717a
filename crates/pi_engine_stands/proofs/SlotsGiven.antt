-- A slot of a level's block that is given a term behind the level.
use Rattle.std.proofs.Common.{◌≡◌, ℕ, ◌+◌, ◌≤◌, ◌<◌, List, Some, length, take, drop, set, refl, sym, ◌∙◌, ap, subst, arith}
use Rattle.std.specs.Prelude.{slice_get, slice_set}
use Rattle.std.proofs.lemmas.List.{take-set-le, drop-set-lt, length-set}
use Rattle.pi_terms.specs.Tree.{Tree}
use Rattle.pi_terms.specs.Places.{Places}
use Rattle.pi_constraints.specs.State.{State}
use Rattle.pi_engine_stands.specs.Rests.{Rests}
use Rattle.pi_constraints.specs.Store.{StoreView, Keeps, IsTerm}
use Rattle.pi_core.specs.GoalTree.{GoalTree, no_goals}
use Rattle.pi_constraints.specs.declared.store.Ref.{Ref}
use Rattle.pi_engine_code.specs.declared.code.Step.{Step}
use Rattle.pi_engine_arenas.specs.declared.run.Now.{Now}
use Rattle.pi_engine_arenas.specs.Blocks.{BlocksView, KeepsBlocks}
use Rattle.pi_engine_arenas.specs.Arenas.{ArenasView, between}
use Rattle.pi_meaning.specs.Machine.Configuration.{Frame, Entry as EntryData, config, going}
use Rattle.pi_engine_stands.specs.Here.{Block, block_end, Holds}
use Rattle.pi_engine_stands.specs.Stands.{World, now_here, steps_of, block_at, Agrees, GoalStands, StackStands, Stands, NowIs, going_now}
use Rattle.pi_engine_arenas.specs.Frames.{slot_number}
use Rattle.pi_engine_stands.specs.Evaluates.{with_blocks, Writes}
use Rattle.pi_engine_stands.proofs.HereLemmas.{holds-extends}
use Rattle.pi_constraints.proofs.StateLemmas.{extends}
use Rattle.pi_engine_stands.proofs.SlotsStand.{holds-set, slot-is}
use Rattle.pi_engine_stands.proofs.StandsLemmas.{moved}
use Rattle.pi_engine_stands.proofs.EqualStands.{stack-moved}
use Rattle.pi_engine_stands.proofs.EndsStand.{behind-level}
use Rattle.pi_engine_stands.proofs.WrittenGoals.{own-slots, GoalWritten, goal-written}

-- what a write to a slot does
pub slot-written : {M : Type 0} (b : Block) (v w : StoreView M) (a : ArenasView M) (new : BlocksView) (e : Places) (k slot : ℕ) (r : Ref) (x : Tree) (s : State) →
    slot ≡ b.base + b.first + k → k < b.count → Holds v.now.terms a.blocks.slots b e → Keeps v w → w.now.state ≡ s → IsTerm w r x → new.slots ≡ set a.blocks.slots slot (Some r) → new.kept ≡ a.blocks.kept → KeepsBlocks a.blocks new →
    Writes b (between v w a (with_blocks a new)) (set e k (Some x)) s
slot-written b v w a new e k slot r x s at within holds keeps state term slots kept stays =
    let now : new.slots ≡ set a.blocks.slots (b.base + b.first + k) (Some r) = slots ∙ ap (λ i. set a.blocks.slots i (Some r)) at in
    record {
      keeps = keeps;
      state = state;
      holds = subst (λ xs. Holds w.now.terms xs b (set e k (Some x))) (sym now)
          (holds-set w.now.terms a.blocks.slots b e k r x term (holds-extends v.now.terms w.now.terms a.blocks.slots b e (extends v w keeps) holds));
      as_many = ap length now ∙ length-set a.blocks.slots (b.base + b.first + k) (Some r);
      front = ap (take (b.base + b.first)) now ∙ take-set-le (b.base + b.first) a.blocks.slots (b.base + b.first + k) (Some r) (omega arith);
      back = ap (drop (block_end b)) now ∙ drop-set-lt (block_end b) a.blocks.slots (b.base + b.first + k) (Some r) (omega (arith, within));
      blocks = stays;
      kept = kept;
      rest = refl;
    }

-- the goals behind the level run, in the block with that slot
pub given : {M : Type 0} (w : World M) (u : StoreView M) (new : BlocksView) (base place frame into first slot : ℕ) (step : Step) (r : Ref) (x : Tree) (s : State) (g : GoalTree) (e : Places) (k : List Frame) (es : List EntryData) → StackStands w es →
    (own : GoalStands w.loaded (now_here w) base place frame g e k) → Agrees w w.arenas.level (now_here w) → slice_get (steps_of w.loaded) place ≡ Some step → into < (block_at w.loaded place base).count →
    first ≡ slot_number base step.first_slot → slot ≡ slot_number first into → Keeps w.store u → u.now.state ≡ s → Rests s → IsTerm u r x → new.slots ≡ slice_set w.arenas.blocks.slots slot (Some r) → new.kept ≡ w.arenas.blocks.kept →
    KeepsBlocks w.arenas.blocks new → length w.arenas.blocks.slots ≤ 18446744073709551615 →
    Stands (moved w u (with_blocks w.arenas new)) (Now.Going (record { place = 0; count = 0; base = base; frame = frame })) (config (going no_goals (slice_set e into (Some x)) s k) es)
given w u new base place frame into first slot step r x s g e k es stands own agrees at within begins is keeps state sound term slots kept stays most =
    let b : Block = block_at w.loaded place base in
    let f : Places = slice_set e into (Some x) in
    let there : slot ≡ b.base + b.first + into =
    slot-is b into slot (length w.arenas.blocks.slots) (is ∙ ap (λ n. slot_number n into) (own-slots w base place frame first g e k step own at begins)) within own.behind.slots.within most in
    let writes : Writes b (between w.store u w.arenas (with_blocks w.arenas new)) f s = slot-written b w.store u w.arenas new e into slot r x s there within own.behind.slots keeps state term slots kept stays in
    let it : GoalWritten (moved w u (with_blocks w.arenas new)) base place frame g f k = goal-written w u (with_blocks w.arenas new) base place frame g e f s k es stands own agrees writes in
    record {
      entries = stack-moved w u (with_blocks w.arenas new) b f s es writes (subst Rests (sym state) sound) stands;
      runs = subst (λ q. NowIs (moved w u (with_blocks w.arenas new)) (Now.Going (record { place = 0; count = 0; base = base; frame = frame })) (going no_goals f q k)) state
          (going_now (behind-level (moved w u (with_blocks w.arenas new)) base place frame g f k it.goal it.agrees));
    }
