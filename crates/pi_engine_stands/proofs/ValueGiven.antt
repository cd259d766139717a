-- The level of a function's call has its value: it is left, and the value goes into the caller's slot.
use Rattle.std.proofs.Common.{◌≡◌, ℕ, zero, suc, ◌-◌, ◌≤◌, List, [], ◌∷◌, Some, length, refl, sym, ◌∙◌, ap, subst, arith}
use Rattle.std.specs.Prelude.{slice_get, slice_set}
use Rattle.std.proofs.lemmas.Option.{slice_get_within}
use Rattle.pi_terms.specs.Tree.{Tree, comp}
use Rattle.pi_terms.specs.Places.{Places}
use Rattle.pi_constraints.specs.State.{State}
use Rattle.pi_constraints.specs.Store.{IsTerm}
use Rattle.pi_meaning.specs.Shared.View.{View}
use Rattle.pi_core.specs.GoalTree.{GoalTree, no_goals, apply}
use Rattle.pi_core.specs.declared.core_program.NameSlot.{NameSlot}
use Rattle.pi_constraints.specs.declared.store.Ref.{Ref}
use Rattle.pi_unify.proofs.KeepsLemmas.{keeps_none}
use Rattle.pi_engine_code.specs.declared.code.Code.{Code}
use Rattle.pi_engine_code.specs.declared.code.Node.{Node}
use Rattle.pi_engine_code.specs.declared.code.Step.{Step}
use Rattle.pi_engine_arenas.specs.declared.arenas.Kind.{Kind}
use Rattle.pi_engine_arenas.specs.declared.arenas.Strict.{Strict as StrictKind}
use Rattle.pi_engine_arenas.specs.declared.run.Now.{Now}
use Rattle.pi_engine_arenas.specs.Blocks.{BlocksView, KeepsBlocks}
use Rattle.pi_engine_arenas.specs.Arenas.{ArenasView, entry_at, LeavesLevel}
use Rattle.pi_engine_arenas.specs.declared.arenas.Entry.{Entry}
use Rattle.pi_meaning.specs.Machine.Configuration.{Frame, Entry as EntryData, Config, config, going, Strict, strict, value_level, Back as BackData}
use Rattle.pi_meaning.specs.Machine.Step.{strict_step}
use Rattle.pi_meaning.specs.Machine.Shape.{IsBalanced}
use Rattle.pi_engine_stands.specs.Here.{Block, block_end, Holds}
use Rattle.pi_engine_stands.specs.Stands.{World, entries_of, back_here, now_here, block_at, agrees_from, Agrees, GoalStands, EntryIs, StackIs, StackStands, Stands}
use Rattle.pi_engine_arenas.specs.Frames.{slot_number}
use Rattle.pi_engine_stands.specs.Evaluates.{with_blocks}
use Rattle.pi_engine_stands.specs.Gives.{without_call}
use Rattle.pi_engine_stands.specs.Makes.{SilentlyTo, already, one_more}
use Rattle.pi_terms.proofs.OptionLemmas.{one-some}
use Rattle.pi_engine_stands.proofs.HereLemmas.{holds-moves}
use Rattle.pi_engine_stands.proofs.StandsLemmas.{moved}
use Rattle.pi_engine_stands.proofs.LeaveStand.{LeftBy, level-behind}
use Rattle.pi_engine_stands.proofs.MissingStand.{AppliesAt, applies-at, Applied, applied}
use Rattle.pi_engine_stands.proofs.OnceStand.{GoalLeft, Found, found, answer-of}
use Rattle.pi_engine_stands.proofs.SlotsGiven.{given}
use Rattle.pi_engine_stands.proofs.ValueRuns.{CallLevel, ValueRuns}
use Rattle.pi_engine_stands.proofs.SettlesFirst.{silently-then}

-- ---- what the code finds

-- the call's entry, by the number of the newest open level
pub call-there : {M : Type 0} (w : World M) (number : ℕ) → (it : CallLevel w) → number ≡ w.arenas.level → entry_at (entries_of w) number ≡ Some it.x
call-there w number it is = ap (entry_at (entries_of w)) (is ∙ it.level) ∙ it.at

-- its kind
pub kind-there : {M : Type 0} (w : World M) (number : ℕ) (z : Entry M) → (it : CallLevel w) → number ≡ w.arenas.level → entry_at (entries_of w) number ≡ Some z → z.back.kind ≡ Kind.Strict (StrictKind.Apply it.place it.caller)
kind-there w number z it is found = ap (λ r. r.back.kind) (one-some (entry_at (entries_of w) number) z it.x found (call-there w number it is)) ∙ it.named

same-place : (kind : Kind) (a b c d : ℕ) → kind ≡ Kind.Strict (StrictKind.Apply a b) → kind ≡ Kind.Strict (StrictKind.Apply c d) → (a ≡ c) × (b ≡ d)
same-place kind a b c d h k = (cc, cc)

-- the level as data, with the call that it stands for
record CallFound {M : Type 0} (w : World M) (es : List EntryData) (i place caller : ℕ) (x : Entry M) (step : Step) : Type 0 where
  pub it : Found w i x es
  pub call : AppliesAt w.loaded (back_here w x) (w.store.at_mark x.mark).state x.back.base caller place x.back.frame it.level it.back
  pub none : it.from ≡ length w.arenas.collected
  pub is : Applied w place caller step call.name call.args call.into

call-found : {M : Type 0} (w : World M) (es : List EntryData) (i place caller : ℕ) (x : Entry M) (code : Code) (step : Step) → StackStands w es → IsBalanced zero es → w.arenas.level ≡ suc i → slice_get (entries_of w) i ≡ Some x → x.back.kind ≡ Kind.Strict (StrictKind.Apply place caller) →
    w.loaded.code ≡ code → ((r : Step) → slice_get code.steps.items place ≡ Some r → step ≡ r) → CallFound w es i place caller x step
call-found w es i place caller x code step stands balanced level at named is_code finds =
    let it : Found w i x es = found w i x (StrictKind.Apply place caller) es stands balanced level at named in
    let two : _ = applies-at w.loaded w.arenas.collected (back_here w x) (w.store.at_mark x.mark).state x.back.base x.back.frame x.back.blocks.slots it.from (length w.arenas.collected) place caller x.back.kind it.level it.back named it.is.kind in
    record { it = it; call = two.0; none = two.1; is = applied w x.back.base caller place x.back.frame code step it.level it.back stands.code two.0 is_code finds }

-- the step is always a function's call
pub no-other-node : {M : Type 0} (w before : World M) (r : Ref) (c : Config) (number place caller : ℕ) (z : Entry M) (code : Code) (step : Step) → (runs : ValueRuns before w r c) → number ≡ w.arenas.level → entry_at (entries_of w) number ≡ Some z →
    z.back.kind ≡ Kind.Strict (StrictKind.Apply place caller) → w.loaded.code ≡ code → ((q : Step) → slice_get code.steps.items place ≡ Some q → step ≡ q) → (n : ℕ) × (first : ℕ) × (into : ℕ) × (step.node ≡ Node.Apply n first into)
no-other-node w before r c number place caller z code step runs is found named is_code finds =
    let same : z ≡ runs.call.x = one-some (entry_at (entries_of w) number) z runs.call.x found (call-there w number runs.call is) in
    let there : _ = call-found w runs.es runs.call.i place caller runs.call.x code step runs.stands runs.balanced runs.call.level runs.call.at (ap (λ q. q.back.kind) (sym same) ∙ named) is_code finds in
    (there.is.number, there.is.first, there.call.into, there.is.node)

-- ---- the level is left

-- the caller's block is in front of the call's, so it is as it was when the call was made
pub call-left : {M : Type 0} (w : World M) (b : ArenasView M) (es : List EntryData) (i from place caller : ℕ) (x : Entry M) (y : EntryData) (g : GoalTree) (below : List EntryData) (e : Places) (k : List Frame) →
    StackStands w es → agrees_from w (Some x) (now_here w) → slice_get (entries_of w) i ≡ Some x → EntryIs w below (entry_at (entries_of w) i) from (length w.arenas.collected) x y → StackIs w i from below → from ≡ length w.arenas.collected →
    LeavesLevel w.arenas b i (without_call x.back caller) → GoalStands w.loaded (back_here w x) caller place x.back.frame g e k → block_end (block_at w.loaded place caller) ≤ x.back.base → GoalLeft w b caller place x.back.frame g e k below
call-left w b es i from place caller x y g below e k stands agrees at is stack none left own fits =
    let d : Block = block_at w.loaded place caller in
    let holds : Holds w.store.now.terms w.arenas.blocks.slots d e =
    holds-moves (back_here w x).terms w.store.now.terms (back_here w x).slots w.arenas.blocks.slots d e x.back.base fits agrees.2 agrees.1 agrees.0 own.behind.slots in
    let out : LeftBy w b d own.behind.leaves x.back.frame e k below =
    level-behind w b i from (length w.arenas.collected) (length w.arenas.collected) (length (entries_of w)) x.back.base x y es below d own.behind.leaves e k
    stands stands.stack (slice_get_within (entries_of w) i x at) (omega arith) (omega arith) at is stack none agrees left.drops left.slots left.level (omega (arith, fits)) fits holds own.behind.frames in
    record {
      entries = out.entries;
      goal = record { last = own.last; goal = own.goal; behind = record { slots = out.slots; leaves = own.behind.leaves; frames = out.frames }; leaves = own.leaves };
      agrees = out.agrees;
    }

same-slot : (node : Node) (a b c d e f : ℕ) → node ≡ Node.Apply a b c → node ≡ Node.Apply d e f → c ≡ f
same-slot node a b c d e f h k = cc

given-step : (s : Strict) (called value : Tree) (into : ℕ) (b : BackData) (e : Places) (q t : State) (k : List Frame) (above below : List EntryData) → s ≡ value_level called into → b ≡ record { slots = e; state = q; frames = k } →
    strict_step s (Some value ∷ []) t above b below ≡ config (going no_goals (slice_set e into (Some value)) t k) below
unfolding strict_step
given-step s called value into b e q t k above below level back =
    ap (λ r. strict_step r (Some value ∷ []) t above b below) level ∙ ap (λ r. strict_step (value_level called into) (Some value ∷ []) t above r below) back

given-at : {M : Type 0} (w : World M) (b : ArenasView M) (new : BlocksView) (es : List EntryData) (i place caller into first slot : ℕ) (x : Entry M) (step : Step) (r : Ref) (value : Tree) → StackStands w es → Agrees w w.arenas.level (now_here w) → IsTerm w.store r value →
    (found : CallFound w es i place caller x step) → w.arenas.level ≡ suc i → slice_get (entries_of w) i ≡ Some x → LeavesLevel w.arenas b i (without_call x.back caller) → found.call.into ≡ into →
    first ≡ slot_number caller step.first_slot → slot ≡ slot_number first into → new.slots ≡ slice_set b.blocks.slots slot (Some r) → new.kept ≡ b.blocks.kept → KeepsBlocks b.blocks new → length b.blocks.slots ≤ 18446744073709551615 →
    Stands (moved w w.store (with_blocks b new)) (Now.Going (record { place = 0; count = 0; base = caller; frame = x.back.frame })) (strict_step found.it.level (Some value ∷ []) w.store.now.state found.it.above found.it.back found.it.below)
given-at w b new es i place caller into first slot x step r value stands agrees term found level at left same begins is slots kept stays most =
    let it : Found w i x es = found.it in
    let g : GoalTree = apply found.call.name found.call.args found.call.into in
    let own : GoalLeft w b caller place x.back.frame g found.call.places found.call.frames it.below =
    call-left w b es i it.from place caller x (strict it.level it.back) g it.below found.call.places found.call.frames stands
    (subst (λ q. agrees_from w q (now_here w)) at (subst (λ n. agrees_from w (entry_at (entries_of w) n) (now_here w)) level agrees)) at it.is it.stack found.none left found.call.own found.call.below in
    subst (Stands (moved w w.store (with_blocks b new)) (Now.Going (record { place = 0; count = 0; base = caller; frame = x.back.frame })))
    (sym (given-step it.level (comp found.call.name found.call.called) value found.call.into it.back found.call.places (w.store.at_mark x.mark).state w.store.now.state found.call.frames it.above it.below found.call.level found.call.back_is))
    (given (moved w w.store b) w.store new caller place x.back.frame found.call.into first slot step r value w.store.now.state g found.call.places found.call.frames it.below own.entries own.goal own.agrees found.is.at found.is.slot
    begins (is ∙ ap (slot_number first) (sym same)) (keeps_none w.store) refl stands.state term slots kept stays most)

-- the caller goes on with the value in its slot
pub value-given : {M : Type 0} (w before : World M) (b : ArenasView M) (new : BlocksView) (number place caller n operands into first slot : ℕ) (z : Entry M) (code : Code) (step : Step) (r : Ref) (c : Config) (view : View) (names : List NameSlot) → before.loaded ≡ w.loaded →
    (runs : ValueRuns before w r c) → number ≡ w.arenas.level → entry_at (entries_of w) number ≡ Some z → z.back.kind ≡ Kind.Strict (StrictKind.Apply place caller) → w.loaded.code ≡ code → ((q : Step) → slice_get code.steps.items place ≡ Some q → step ≡ q) → step.node ≡ Node.Apply n operands into →
    LeavesLevel w.arenas b (number - 1) (without_call z.back caller) → first ≡ slot_number caller step.first_slot → slot ≡ slot_number first into → new.slots ≡ slice_set b.blocks.slots slot (Some r) → new.kept ≡ b.blocks.kept → KeepsBlocks b.blocks new →
    length b.blocks.slots ≤ 18446744073709551615 →
    (d : Config) × SilentlyTo view before.loaded.preds names c d × Stands (moved w w.store (with_blocks b new)) (Now.Going (record { place = 0; count = 0; base = caller; frame = z.back.frame })) d
value-given w before b new number place caller n operands into first slot z code step r c view names same_loaded runs is there named is_code finds node left begins slot_is slots kept stays most =
    let i : ℕ = runs.call.i in
    let x : Entry _ = runs.call.x in
    let same : z ≡ x = one-some (entry_at (entries_of w) number) z x there (call-there w number runs.call is) in
    let found : CallFound w runs.es i place caller x step = call-found w runs.es i place caller x code step runs.stands runs.balanced runs.call.level runs.call.at (ap (λ q. q.back.kind) (sym same) ∙ named) is_code finds in
    let out : LeavesLevel w.arenas b i (without_call x.back caller) =
    subst (λ q. LeavesLevel w.arenas b i (without_call q.back caller)) same (subst (λ m. LeavesLevel w.arenas b m (without_call z.back caller)) (omega (arith, is, runs.call.level)) left) in
    let into_is : found.call.into ≡ into = same-slot step.node found.is.number found.is.first found.call.into n operands into found.is.node node in (
      strict_step found.it.level (Some runs.value ∷ []) w.store.now.state found.it.above found.it.back found.it.below,
      silently-then view before.loaded.preds names _ _ _ (runs.silently view names)
          (subst (λ q. SilentlyTo view q.preds names (config (going no_goals (Some runs.value ∷ []) w.store.now.state []) runs.es) (strict_step found.it.level (Some runs.value ∷ []) w.store.now.state found.it.above found.it.back found.it.below)) (sym same_loaded)
          (one_more (answer-of w i x runs.es view names (Some runs.value ∷ []) found.it) already)),
      subst (λ q. Stands (moved w w.store (with_blocks b new)) (Now.Going (record { place = 0; count = 0; base = caller; frame = q.back.frame })) (strict_step found.it.level (Some runs.value ∷ []) w.store.now.state found.it.above found.it.back found.it.below)) (sym same)
          (given-at w b new runs.es i place caller into first slot x step r runs.value runs.stands runs.agrees runs.term found runs.call.level runs.call.at out into_is begins slot_is slots kept stays most),
    )
