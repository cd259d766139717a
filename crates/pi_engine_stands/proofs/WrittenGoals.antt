-- The goal of a level's block, where slots of the block are written.
use Rattle.std.proofs.Common.{◌≡◌, ℕ, List, Some, sym, ◌∙◌, ap, subst, arith}
use Rattle.std.specs.Prelude.{slice_get}
use Rattle.pi_terms.specs.Places.{Places}
use Rattle.pi_constraints.specs.State.{State}
use Rattle.pi_constraints.specs.Store.{StoreView}
use Rattle.pi_core.specs.GoalTree.{GoalTree}
use Rattle.pi_terms.proofs.GetLemmas.{get_some}
use Rattle.pi_engine_code.specs.declared.code.Step.{Step}
use Rattle.pi_engine_arenas.specs.Blocks.{BlocksView}
use Rattle.pi_engine_arenas.specs.Arenas.{ArenasView, between}
use Rattle.pi_meaning.specs.Machine.Configuration.{Frame, Entry as EntryData}
use Rattle.pi_engine_stands.specs.Here.{Here, Block, IsStepOf}
use Rattle.pi_engine_stands.specs.Stands.{World, tables_in, steps_of, now_here, block_at, Agrees, GoalStands, StackStands}
use Rattle.pi_engine_arenas.specs.Frames.{slot_number}
use Rattle.pi_engine_stands.specs.Evaluates.{Writes}
use Rattle.pi_core.proofs.GoalPlaces.{nodes-children}
use Rattle.pi_engine_code.proofs.CodeLemmas.{stands-within}
use Rattle.pi_engine_stands.proofs.BasesStand.{shape-base, block-above}
use Rattle.pi_engine_stands.proofs.StandsLemmas.{moved}
use Rattle.pi_engine_stands.proofs.StacksLie.{stack-lies}
use Rattle.pi_engine_stands.proofs.WritesStand.{written, WritesTo, agrees-written, goes_on-written}
use Rattle.pi_engine_stands.proofs.EqualStands.{writes-to}

-- the step at its place
pub own-step : {M : Type 0} {h : Here} (w : World M) (base place frame : ℕ) (g : GoalTree) (e : Places) (k : List Frame) → GoalStands w.loaded h base place frame g e k → (s : Step) × (slice_get (steps_of w.loaded) place ≡ Some s)
own-step w base place frame g e k own = get_some (steps_of w.loaded) place (stands-within (tables_in w.loaded) (steps_of w.loaded) place g own.goal.stands)

-- which belongs to the block
pub own-block : {M : Type 0} {h : Here} (w : World M) (base place frame : ℕ) (g : GoalTree) (e : Places) (k : List Frame) (s : Step) → (own : GoalStands w.loaded h base place frame g e k) →
    slice_get (steps_of w.loaded) place ≡ Some s → IsStepOf (tables_in w.loaded) (block_at w.loaded place base) s
own-block w base place frame g e k s own at = own.goal.of_block 0 s (omega (arith, nodes-children g)) (ap (slice_get (steps_of w.loaded)) (omega arith) ∙ at)

-- where its slots begin
pub own-slots : {M : Type 0} {h : Here} (w : World M) (base place frame first : ℕ) (g : GoalTree) (e : Places) (k : List Frame) (s : Step) → GoalStands w.loaded h base place frame g e k →
    slice_get (steps_of w.loaded) place ≡ Some s → first ≡ slot_number base s.first_slot → first ≡ slot_number (block_at w.loaded place base).base (block_at w.loaded place base).first
own-slots w base place frame first g e k s own at is =
    is ∙ ap (λ n. slot_number n s.first_slot) (sym (shape-base (slice_get (steps_of w.loaded) place) base)) ∙ ap (slot_number (block_at w.loaded place base).base) (own-block w base place frame g e k s own at).first

pub record GoalWritten {M : Type 0} (w : World M) (base place frame : ℕ) (g : GoalTree) (f : Places) (k : List Frame) : Type 0 where
  pub goal : GoalStands w.loaded (now_here w) base place frame g f k
  pub agrees : Agrees w w.arenas.level (now_here w)

written-in : {M : Type 0} (w : World M) (v : StoreView M) (bs : BlocksView) (base place frame : ℕ) (g : GoalTree) (e f : Places) (s : State) (k : List Frame) (es : List EntryData) → StackStands w es →
    GoalStands w.loaded (now_here w) base place frame g e k → Agrees w w.arenas.level (now_here w) → WritesTo w v bs (block_at w.loaded place base) f s → GoalWritten (written w v bs) base place frame g f k
written-in w v bs base place frame g e f s k es stands own agrees writes =
    let b : Block = block_at w.loaded place base in
    record {
      goal = record {
        last = own.last;
        goal = own.goal;
        behind = record { slots = writes.holds; leaves = own.behind.leaves; frames = goes_on-written w v bs b f s own.behind.leaves frame k writes own.behind.frames };
        leaves = own.leaves;
      };
      agrees = agrees-written w v bs b f s es writes (stack-lies w es stands) (block-above (tables_in w.loaded) (steps_of w.loaded) (now_here w) b own.behind.leaves frame k own.behind.frames) agrees;
    }

pub goal-written : {M : Type 0} (w : World M) (v : StoreView M) (c : ArenasView M) (base place frame : ℕ) (g : GoalTree) (e f : Places) (s : State) (k : List Frame) (es : List EntryData) → StackStands w es →
    GoalStands w.loaded (now_here w) base place frame g e k → Agrees w w.arenas.level (now_here w) → Writes (block_at w.loaded place base) (between w.store v w.arenas c) f s → GoalWritten (moved w v c) base place frame g f k
goal-written w v c base place frame g e f s k es stands own agrees writes =
    subst (λ r. GoalWritten (moved w v r) base place frame g f k) (sym writes.rest)
    (written-in w v c.blocks base place frame g e f s k es stands own agrees (writes-to w v c (block_at w.loaded place base) f s writes))
