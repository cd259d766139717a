-- The end of counting: the number goes into its slot.
use Rattle.std.proofs.Common.{◌≡◌, ℕ, ◌≤◌, ◌<◌, List, Some, length, refl, sym, ◌∙◌, ap, subst}
use Rattle.std.specs.Prelude.{slice_get, slice_set, pos}
use Rattle.pi_terms.specs.Tree.{Tree, int}
use Rattle.pi_terms.specs.Places.{Places}
use Rattle.pi_constraints.specs.State.{State}
use Rattle.pi_constraints.specs.Store.{StoreView, Gives}
use Rattle.pi_core.specs.GoalTree.{GoalTree, no_goals, count}
use Rattle.pi_core.specs.GoalCells.{kind_of}
use Rattle.pi_constraints.specs.declared.store.Ref.{Ref}
use Rattle.pi_engine_arenas.specs.declared.arenas.Back.{Back}
use Rattle.pi_engine_arenas.specs.declared.arenas.Kind.{Kind}
use Rattle.pi_engine_arenas.specs.declared.arenas.Strict.{Strict as StrictKind}
use Rattle.pi_engine_code.specs.declared.code.Code.{Code}
use Rattle.pi_engine_code.specs.declared.code.Node.{Node}
use Rattle.pi_engine_code.specs.declared.code.Step.{Step}
use Rattle.pi_engine_arenas.specs.declared.run.Now.{Now}
use Rattle.pi_engine_arenas.specs.Blocks.{BlocksView, KeepsBlocks}
use Rattle.pi_engine_code.specs.Code.{Tables, node_kind}
use Rattle.pi_engine_arenas.specs.Arenas.{ArenasView, DropsNewest}
use Rattle.pi_meaning.specs.Machine.Configuration.{Frame, Entry as EntryData, Strict, strict, number_level, Back as BackData, config, going}
use Rattle.pi_meaning.specs.Machine.Step.{end_step}
use Rattle.pi_engine_stands.specs.Here.{NodeIsReadable}
use Rattle.pi_engine_stands.specs.Stands.{World, tables_in, steps_of, now_here, block_at, GoalStands, KindIs, once_kind, not_kind, if_kind, guard_kind, apply_kind, collect_kind, count_kind, search_kind, Stands}
use Rattle.pi_engine_arenas.specs.Frames.{slot_number}
use Rattle.pi_engine_stands.specs.Evaluates.{with_blocks}
use Rattle.pi_engine_stands.specs.Fails.{IsBack}
use Rattle.pi_engine_stands.proofs.NodeLemmas.{kind-here}
use Rattle.pi_engine_stands.proofs.StandsLemmas.{moved}
use Rattle.pi_engine_stands.proofs.BackStand.{back-kind, Popped, popped, popped-stands}
use Rattle.pi_engine_stands.proofs.WrittenGoals.{own-step, own-block}
use Rattle.pi_engine_stands.proofs.SlotsGiven.{given}

count-node : (t : Tables) (node : Node) (g : GoalTree) (into : ℕ) → node_kind t node ≡ kind_of (count g into) → node ≡ Node.Count into
unfolding node_kind kind_of
count-node t Node.True g into h = absurd cc
count-node t Node.Fail g into h = absurd cc
count-node t Node.Tick g into h = absurd cc
count-node t (Node.Seq n) g into h = absurd cc
count-node t (Node.Alt n) g into h = absurd cc
count-node t Node.If g into h = absurd cc
count-node t Node.Not g into h = absurd cc
count-node t Node.Once g into h = absurd cc
count-node t (Node.Collect value q) g into h = absurd cc
count-node t (Node.Count q) g into h = ap Node.Count cc
count-node t (Node.Catch operand) g into h = absurd cc
count-node t (Node.Unify left right) g into h = absurd cc
count-node t (Node.Throw ball) g into h = absurd cc
count-node t (Node.BuiltIn built name first many) g into h = absurd cc
count-node t (Node.BuiltInValue built name first many q) g into h = absurd cc
count-node t (Node.Constrain c name first many) g into h = absurd cc
count-node t (Node.DomainValue f name first many q) g into h = absurd cc
count-node t (Node.Solve name first many) g into h = absurd cc
count-node t (Node.Call p first) g into h = absurd cc
count-node t (Node.Apply p first q) g into h = absurd cc
count-node t (Node.Value value) g into h = absurd cc
count-node t (Node.CallTerm first arity) g into h = absurd cc

-- the level that counts, in what is there: its goal and its slot
pub record CountsAt {M : Type 0} (w : World M) (back : Back) (place n : ℕ) (s : Strict) (b : BackData) : Type 0 where
  pub goal : GoalTree
  pub into : ℕ
  pub slots : Places
  pub frames : List Frame
  pub own : GoalStands w.loaded (now_here w) back.base place back.frame (count goal into) slots frames
  pub level : s ≡ number_level into n
  pub back_is : b ≡ record { slots = slots; state = w.store.now.state; frames = frames }

counts-at : {M : Type 0} (w : World M) (back : Back) (collected : List Tree) (from to place n slots : ℕ) (kind : Kind) (s : Strict) (b : BackData) → kind ≡ Kind.Strict (StrictKind.Count place n) →
    KindIs w.loaded collected (now_here w) w.store.now.state back.base back.frame slots from to kind (strict s b) → CountsAt w back place n s b × (from ≡ to)
counts-at w back collected from to place n slots kind s b named (once_kind own one) = absurd cc
counts-at w back collected from to place n slots kind s b named (not_kind own one) = absurd cc
counts-at w back collected from to place n slots kind s b named (if_kind own one) = absurd cc
counts-at w back collected from to place n slots kind s b named (guard_kind call over one) = absurd cc
counts-at w back collected from to place n slots kind s b named (apply_kind own free args fit one) = absurd cc
counts-at w back collected from to place n slots kind s b named (collect_kind own order some) = absurd cc
counts-at w back collected from to place n slots kind s b named (count_kind {place = at} {into = into} {n = m} {g = g} {e = e} {k = k} own one) =
    let same : at ≡ place = cc in
    let many : m ≡ n = cc in (
      record { goal = g; into = into; slots = e; frames = k; own = subst (λ q. GoalStands w.loaded (now_here w) back.base q back.frame (count g into) e k) same own; level = ap (number_level into) many; back_is = refl },
      one,
    )
counts-at w back collected from to place n slots kind s b named (search_kind own labels held fit order one) = absurd cc

-- its step
step-of-count : {M : Type 0} (w : World M) (back : Back) (place n : ℕ) (code : Code) (step : Step) (s : Strict) (b : BackData) → (it : CountsAt w back place n s b) → w.loaded.code ≡ code → ((r : Step) → slice_get code.steps.items place ≡ Some r → step ≡ r) →
    (slice_get (steps_of w.loaded) place ≡ Some step) × (step.node ≡ Node.Count it.into) × (it.into < (block_at w.loaded place back.base).count)
step-of-count w back place n code step s b it is_code finds =
    let there : (r : Step) × (slice_get (steps_of w.loaded) place ≡ Some r) = own-step w back.base place back.frame (count it.goal it.into) it.slots it.frames it.own in
    let at : slice_get (steps_of w.loaded) place ≡ Some step = there.1 ∙ ap Some (sym (finds there.0 (ap (λ q. slice_get q.steps.items place) (sym is_code) ∙ there.1))) in
    let node : step.node ≡ Node.Count it.into =
    count-node (tables_in w.loaded) step.node it.goal it.into (kind-here (tables_in w.loaded) (steps_of w.loaded) (block_at w.loaded place back.base) place (count it.goal it.into) it.own.last step step.node it.own.goal at refl) in
    (at, node, subst (λ q. NodeIsReadable (tables_in w.loaded) (block_at w.loaded place back.base) q) node (own-block w back.base place back.frame (count it.goal it.into) it.slots it.frames step it.own at).readable)

one-slot : (node : Node) (a b : ℕ) → node ≡ Node.Count a → node ≡ Node.Count b → a ≡ b
one-slot node a b h k = cc

number-step : (s : Strict) (into n : ℕ) (b : BackData) (e : Places) (t : State) (k : List Frame) (es : List EntryData) → s ≡ number_level into n → b ≡ record { slots = e; state = t; frames = k } →
    end_step s b es ≡ config (going no_goals (slice_set e into (Some (int (pos n)))) t k) es
unfolding end_step
number-step s into n b e t k es level back = ap (λ q. end_step q b es) level ∙ ap (λ q. end_step (number_level into n) q es) back

-- the step is always one of counting
pub no-other-node : {M : Type 0} (w : World M) (back : Back) (place n : ℕ) (code : Code) (step : Step) (s : Strict) (b : BackData) (es : List EntryData) → back.kind ≡ Kind.Strict (StrictKind.Count place n) → w.loaded.code ≡ code →
    ((r : Step) → slice_get code.steps.items place ≡ Some r → step ≡ r) → IsBack w back (strict s b) es → (into : ℕ) × (step.node ≡ Node.Count into)
no-other-node w back place n code step s b es named is_code finds it =
    let at : CountsAt w back place n s b × (it.from ≡ length w.arenas.collected) =
    counts-at w back w.arenas.collected it.from (length w.arenas.collected) place n back.blocks.slots back.kind s b named (back-kind w back (strict s b) es it) in
    (at.0.into, (step-of-count w back place n code step s b at.0 is_code finds).1)

pub number-given : {M : Type 0} (w : World M) (c : ArenasView M) (u : StoreView M) (new : BlocksView) (back : Back) (place n into first slot : ℕ) (code : Code) (step : Step) (r : Ref) (s : Strict) (b : BackData) (es : List EntryData) →
    back.kind ≡ Kind.Strict (StrictKind.Count place n) → w.loaded.code ≡ code → ((q : Step) → slice_get code.steps.items place ≡ Some q → step ≡ q) → step.node ≡ Node.Count into → IsBack w back (strict s b) es → DropsNewest w.arenas c →
    first ≡ slot_number back.base step.first_slot → slot ≡ slot_number first into → Gives w.store u w.store.now.state r (int (pos n)) → new.slots ≡ slice_set c.blocks.slots slot (Some r) → new.kept ≡ c.blocks.kept → KeepsBlocks c.blocks new →
    length c.blocks.slots ≤ 18446744073709551615 →
    Stands (moved w u (with_blocks c new)) (Now.Going (record { place = 0; count = 0; base = back.base; frame = back.frame })) (end_step s b es)
number-given w c u new back place n into first slot code step r s b es named is_code finds node it drops begins is gives slots kept stays most =
    let after : World _ = moved w w.store c in
    let out : Popped after back w.arenas.collected it.from (strict s b) es = popped w c back (strict s b) es it drops in
    let at : CountsAt after back place n s b × (it.from ≡ length w.arenas.collected) = counts-at after back w.arenas.collected it.from (length w.arenas.collected) place n back.blocks.slots back.kind s b named out.kind in
    let own : _ = step-of-count after back place n code step s b at.0 is_code finds in
    let same : at.0.into ≡ into = one-slot step.node at.0.into into own.1 node in
    subst (Stands (moved w u (with_blocks c new)) (Now.Going (record { place = 0; count = 0; base = back.base; frame = back.frame }))) (sym (number-step s at.0.into n b at.0.slots w.store.now.state at.0.frames es at.0.level at.0.back_is))
    (given after u new back.base place back.frame at.0.into first slot step r (int (pos n)) w.store.now.state (count at.0.goal at.0.into) at.0.slots at.0.frames es
    (popped-stands after back w.arenas.collected it.from (strict s b) es out at.1) at.0.own out.agrees own.0 own.2 begins (is ∙ ap (slot_number first) (sym same)) gives.changes.keeps gives.changes.state out.state gives.term slots kept stays most)
