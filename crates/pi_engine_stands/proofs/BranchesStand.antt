-- Alternatives that are entered, and the branches that are left of them.
use Rattle.std.proofs.Common.{◌≡◌, ℕ, zero, suc, ◌+◌, ◌-◌, ◌^◌, ◌≤◌, ◌<◌, Bool, List, [], ◌∷◌, ◌++◌, Option, Some, None, length, take, drop, map, refl, sym, ◌∙◌, ap, subst, arith}
use Rattle.std.specs.Prelude.{slice_get, slice_set}
use Rattle.std.proofs.lemmas.List.{length-append, length-set}
use Rattle.pi_terms.specs.Tree.{Tree}
use Rattle.pi_terms.specs.Places.{Places}
use Rattle.pi_engine_stands.specs.Rests.{Rests}
use Rattle.pi_constraints.specs.Store.{StoreView, Marks}
use Rattle.pi_meaning.specs.Shared.View.{View}
use Rattle.pi_core.specs.GoalTree.{GoalTree, GoalTrees, no_goals, goal, alternatives, count_goals, children, child_count, nodes, nodes_all}
use Rattle.pi_core.specs.GoalCells.{flat_all}
use Rattle.pi_core.proofs.GoalPlaces.{nodes-children, nodes_all-goal}
use Rattle.pi_engine_arenas.specs.declared.arenas.Back.{Back}
use Rattle.pi_engine_arenas.specs.declared.arenas.Kind.{Kind}
use Rattle.pi_engine_code.specs.declared.code.Code.{Code}
use Rattle.pi_engine_code.specs.declared.code.Node.{Node}
use Rattle.pi_engine_code.specs.declared.code.Step.{Step}
use Rattle.pi_engine_arenas.specs.declared.frames.Point.{Point}
use Rattle.pi_engine_arenas.specs.declared.run.Now.{Now}
use Rattle.pi_engine_code.specs.Code.{Tables, tables_of, step_cell, node_kind, StandsAt, child_place}
use Rattle.pi_engine_arenas.specs.Arenas.{ArenasView, entry_at, newest, slots_kept_by, with_kind, new_entry, pushed, DropsNewest}
use Rattle.pi_engine_arenas.specs.declared.arenas.Entry.{Entry}
use Rattle.pi_meaning.specs.Machine.Configuration.{Frame, behind, Choice, Entry as EntryData, choice, branches_left, config, Back as BackData}
use Rattle.pi_meaning.specs.Machine.Step.{branch, goal_step, run_goal, back_to, with_rest}
use Rattle.pi_meaning.specs.Machine.Shape.{open_level}
use Rattle.pi_engine_stands.specs.Here.{Block, IsStepOf, EachLast, SayLast, IsHere, last_here, AreBranches, Holds, LeftBehind}
use Rattle.pi_engine_stands.specs.Stands.{World, tables_in, steps_of, entries_of, now_here, back_here, Agrees, StandsBehind, KindIs, branches_kind, EntryIs, StackIs, StackStands, Stands, StandsGoing, going_now, failing_now, GoingIs}
use Rattle.pi_engine_stands.specs.Makes.{StandsAfter}
use Rattle.pi_engine_stands.specs.Fails.{IsBack}
use Rattle.pi_engine_stands.specs.Tries.{renamed}
use Rattle.pi_engine_code.proofs.CodeLemmas.{cells-front, cells-behind, cells-below, child_place-first}
use Rattle.pi_engine_stands.proofs.GoalsStand.{cells-further}
use Rattle.pi_engine_stands.proofs.HereLemmas.{goes_on-moves, holds-extends}
use Rattle.pi_engine_stands.proofs.NodeLemmas.{alternatives-of}
use Rattle.pi_engine_stands.proofs.PointLemmas.{FirstOf, first-of}
use Rattle.pi_engine_stands.proofs.EndsStand.{child-found}
use Rattle.pi_engine_stands.proofs.EqualStands.{kind-of-node}
use Rattle.pi_engine_stands.proofs.StandsLemmas.{moved, stack-length, open_level-within}
use Rattle.pi_engine_stands.proofs.FramesStand.{with_new_frames, Entered, entered-behind, going-of, going-size, pushes-more, stack-framed, MoreFrames}
use Rattle.pi_engine_stands.proofs.ProgramStands.{code-keeps}
use Rattle.pi_engine_stands.proofs.LevelStands.{marked-all, base-fits-in}
use Rattle.pi_engine_stands.proofs.LevelSteps.{Pushed, kept-within}
use Rattle.pi_engine_stands.proofs.EntriesStand.{with_entry, pushed-leaves, stack-pushed}
use Rattle.pi_engine_stands.proofs.CallsStand.{Passes, keeps-terms, ends-pass, moves-pass, agrees-pass}
use Rattle.pi_engine_stands.proofs.CallEntries.{renamed-passes, stack-renamed, get-set}
use Rattle.pi_engine_stands.proofs.CallKept.{newest-last}
use Rattle.pi_engine_stands.proofs.BackStand.{back-kind, back-agrees, Popped, popped, popped-stands, back-rests}
use Rattle.pi_engine_stands.proofs.StacksLie.{stack-lies}

-- ---- branches in the tables

branches-from : (t : Tables) (steps : List Step) (b : Block) (at : ℕ) (gs : GoalTrees) (own : Bool) →
    take (nodes_all gs) (map (step_cell t) (drop at steps)) ≡ flat_all gs → at + nodes_all gs < 2 ^ 32 →
    ((i : ℕ) (s : Step) → i < nodes_all gs → slice_get steps (at + i) ≡ Some s → IsStepOf t b s) → EachLast steps at gs own → AreBranches t steps b at gs own
unfolding EachLast AreBranches
branches-from t steps b at no_goals own cells fits each says = tt
branches-from t steps b at (goal g gs) own cells fits each says = (
  record {
    stands = record { cells = cells-front g gs (map (step_cell t) (drop at steps)) cells; fits = omega (arith, fits, nodes_all-goal g gs) };
    of_block = λ i s within is. each i s (omega (arith, within, nodes_all-goal g gs)) is;
    says = says.0;
  },
  branches-from t steps b (at + nodes g) gs own
      (ap (take (nodes_all gs)) (sym (cells-further t steps at (nodes g))) ∙ cells-behind g gs (map (step_cell t) (drop at steps)) cells)
      (omega (arith, fits, nodes_all-goal g gs))
      (λ i s within is. each (nodes g + i) s (omega (arith, within, nodes_all-goal g gs)) (ap (slice_get steps) (omega arith) ∙ is))
      says.1,
)

-- the child goals of alternatives stand behind their step
branches-here : (t : Tables) (steps : List Step) (b : Block) (place : ℕ) (hs : GoalTrees) (own : Bool) → IsHere t steps b place (alternatives hs) own → AreBranches t steps b (place + 1) hs own
unfolding SayLast children
branches-here t steps b place hs own here =
    branches-from t steps b (place + 1) hs own
    (ap (take (nodes_all hs)) (sym (cells-further t steps place 1)) ∙ cells-below (alternatives hs) (map (step_cell t) (drop place steps)) here.stands.cells)
    (omega (arith, here.stands.fits, nodes-children (alternatives hs)))
    (λ i s within is. here.of_block (1 + i) s (omega (arith, within, nodes-children (alternatives hs))) (ap (slice_get steps) (omega arith) ∙ is))
    here.says.1

first-branch : (t : Tables) (steps : List Step) (b : Block) (place : ℕ) (g : GoalTree) (gs : GoalTrees) (last : Bool) → AreBranches t steps b place (goal g gs) last →
    IsHere t steps b place g last × AreBranches t steps b (place + nodes g) gs last
unfolding AreBranches
first-branch t steps b place g gs last here = here

-- ---- goals that run, where entries alone change behind them

pub going-passes : {M : Type 0} (w : World M) (v : StoreView M) (a : ArenasView M) (m : ℕ) (p : Point) (gs : GoalTrees) (e : Places) (k : List Frame) (es : List EntryData) →
    Passes w v a m → StackIs w m (length w.arenas.collected) es → w.arenas.level ≤ m → GoingIs w p gs e k → GoingIs (moved w v a) p gs e k
going-passes w v a m p gs e k es passes stack within is =
    record {
      block = is.block;
      base = is.base;
      value = is.value;
      last = is.last;
      rest = is.rest;
      goals = is.goals;
      behind = record {
        slots = holds-extends w.store.now.terms v.now.terms a.blocks.slots is.block e (keeps-terms w.store v passes.stays.keeps)
            (subst (λ xs. Holds w.store.now.terms xs is.block e) (sym passes.slots) is.behind.slots);
        leaves = is.behind.leaves;
        frames = goes_on-moves (tables_in w.loaded) (steps_of w.loaded) (now_here w) (now_here (moved w v a)) is.block is.behind.leaves p.frame is.rest is.block.base p.frame (omega arith) (omega arith)
            (moves-pass w v a m is.block.base p.frame passes (omega (arith, is.behind.slots.within))) (ends-pass w v a m passes within) is.behind.frames;
      };
      leaves = is.leaves;
      frames = is.frames;
      agrees = agrees-pass w v a m es passes stack within is.agrees;
    }

-- one goal of a block
pub one-runs : {M : Type 0} (w : World M) (place base frame : ℕ) (b : Block) (g : GoalTree) (last : Bool) (e : Places) (k : List Frame) → (own : StandsBehind w.loaded (now_here w) b frame e k) → b.base ≡ base →
    IsHere (tables_in w.loaded) (steps_of w.loaded) b place g last → LeftBehind None last own.leaves k → Agrees w w.arenas.level (now_here w) →
    GoingIs w (record { place = place; count = 1; base = base; frame = frame }) (goal g no_goals) e k
one-runs w place base frame b g last e k own at here and_leaves agrees =
    record { block = b; base = at; value = None; last = last; rest = k; goals = last_here here; behind = own; leaves = and_leaves; frames = refl; agrees = agrees }

-- ---- the next branch

no-more : (g h : GoalTree) (hs : GoalTrees) (n : ℕ) → count_goals (goal g (goal h hs)) ≡ n → n ≤ 1 → ⊥
unfolding count_goals
no-more g h hs n count few = omega (arith, count, few)

last-goal : {M : Type 0} (w : World M) (point : Point) (g : GoalTree) (gs : GoalTrees) (e : Places) (k : List Frame) (es : List EntryData) (n : ℕ) → count_goals (goal g gs) ≡ n → n ≤ 1 → StackStands w es →
    GoingIs w point (goal g no_goals) e k → Stands w (Now.Going point) (branch (goal g gs) (record { slots = e; state = w.store.now.state; frames = k }) es)
last-goal w point g no_goals e k es n count few entries is = record { entries = entries; runs = going_now is }
last-goal w point g (goal h hs) e k es n count few entries is = absurd (no-more g h hs n count few)

last-in : {M : Type 0} (w : World M) (back : Back) (collected : List Tree) (from place n slots : ℕ) (kind : Kind) (gs : GoalTrees) (b : BackData) (es : List EntryData) →
    Popped w back collected from (choice (branches_left gs) b) es → kind ≡ Kind.Branches place n → n ≤ 1 →
    KindIs w.loaded collected (now_here w) w.store.now.state back.base back.frame slots from (length collected) kind (choice (branches_left gs) b) →
    Stands w (Now.Going (record { place = place; count = 1; base = back.base; frame = back.frame })) (branch gs b es)
last-in w back collected from place n slots kind gs b es it named few (branches_kind {place = at} {n = many} {b = block} {g = g} {gs = hs} {last = last} {e = e} {k = k} own begins here and_leaves count one) =
    let same : at ≡ place = cc in
    let as_many : many ≡ n = cc in
    last-goal w (record { place = place; count = 1; base = back.base; frame = back.frame }) g hs e k es n (count ∙ as_many) few (popped-stands w back collected from (choice (branches_left (goal g hs)) b) es it one)
    (subst (λ m. GoingIs w (record { place = m; count = 1; base = back.base; frame = back.frame }) (goal g no_goals) e k) same
    (one-runs w at back.base back.frame block g last e k own begins (first-branch (tables_in w.loaded) (steps_of w.loaded) block at g hs last here).0 and_leaves it.agrees))

-- the last one leaves no entry
pub last-branch : {M : Type 0} (w : World M) (a : ArenasView M) (back : Back) (place n : ℕ) (gs : GoalTrees) (b : BackData) (es : List EntryData) → back.kind ≡ Kind.Branches place n → n ≤ 1 →
    IsBack w back (choice (branches_left gs) b) es → DropsNewest w.arenas a →
    Stands (moved w w.store a) (Now.Going (record { place = place; count = 1; base = back.base; frame = back.frame })) (branch gs b es)
last-branch w a back place n gs b es named few it drops =
    let out : Popped (moved w w.store a) back w.arenas.collected it.from (choice (branches_left gs) b) es = popped w a back (choice (branches_left gs) b) es it drops in
    last-in (moved w w.store a) back w.arenas.collected it.from place n back.blocks.slots back.kind gs b es out named few out.kind

-- the stack with an entry that waits for what is left of a choice
pub renamed-stands : {M : Type 0} (w : World M) (back : Back) (y : EntryData) (left : Choice) (b : BackData) (es : List EntryData) (kind : Kind) → (it : IsBack w back y es) → it.from ≡ length w.arenas.collected →
    KindIs w.loaded w.arenas.collected (now_here w) w.store.now.state back.base back.frame back.blocks.slots (length w.arenas.collected) (length w.arenas.collected) kind (choice left b) →
    StackStands (moved w w.store (renamed w.arenas it.entry kind)) (choice left b ∷ es)
unfolding open_level
renamed-stands w back y left b es kind it none kind_is =
    let x : Entry _ = it.entry in
    let top : ℕ = length w.arenas.collected in
    let a : ArenasView _ = renamed w.arenas x kind in
    let more : length a.entries ≡ suc it.below = length-set (entries_of w) (length (entries_of w) - 1) (with_kind x kind) ∙ it.count in
    let last : newest a.entries ≡ Some (with_kind x kind) =
    ap (entry_at a.entries) more ∙ ap (λ m. slice_get (slice_set (entries_of w) m (with_kind x kind)) it.below) (omega (arith, it.count)) ∙ get-set (entries_of w) it.below x (with_kind x kind) it.at in
    let first : newest (entries_of w) ≡ Some x = ap (entry_at (entries_of w)) it.count ∙ it.at in
    let entry_is : EntryIs w es (entry_at (entries_of w) it.below) top top x y = subst (λ n. EntryIs w es (entry_at (entries_of w) it.below) n top x y) none it.is in
    let waits : KindIs w.loaded w.arenas.collected (back_here w x) (w.store.at_mark x.mark).state x.back.base x.back.frame x.back.blocks.slots top top kind (choice left b) =
    subst (λ r. KindIs w.loaded w.arenas.collected (back_here w x) (w.store.at_mark x.mark).state r.base r.frame r.blocks.slots top top kind (choice left b)) (sym it.back_is)
    (subst (λ h. KindIs w.loaded w.arenas.collected h (w.store.at_mark x.mark).state back.base back.frame back.blocks.slots top top kind (choice left b)) it.here
    (subst (λ s. KindIs w.loaded w.arenas.collected (now_here w) s back.base back.frame back.blocks.slots top top kind (choice left b)) it.now kind_is)) in
    record {
      code = it.code;
      state = back-rests w back y es it;
      tables = it.tables;
      level = it.level ∙ ap (λ r. r.level) (sym it.back_is) ∙ it.is.level;
      kept = it.kept ∙ ap slots_kept_by first ∙ sym (ap slots_kept_by last);
      stack = subst (λ m. StackIs (moved w w.store a) m top (choice left b ∷ es)) (sym more)
          (stack-renamed w it.below es x y (choice left b) kind it.count it.at entry_is (subst (λ n. StackIs w it.below n es) none it.stack) waits tt);
    }

some-goals : {M : Type 0} (w : World M) (back : Back) (y : EntryData) (place : ℕ) (block : Block) (g : GoalTree) (gs : GoalTrees) (last : Bool) (e : Places) (k : List Frame) (es : List EntryData) (n next : ℕ) → (it : IsBack w back y es) → it.from ≡ length w.arenas.collected →
    1 < n → count_goals (goal g gs) ≡ n → next ≡ place + nodes g → (own : StandsBehind w.loaded (now_here w) block back.frame e k) → block.base ≡ back.base →
    AreBranches (tables_in w.loaded) (steps_of w.loaded) block place (goal g gs) last → LeftBehind None last own.leaves k →
    Stands (moved w w.store (renamed w.arenas it.entry (Kind.Branches next (n - 1)))) (Now.Going (record { place = place; count = 1; base = back.base; frame = back.frame }))
    (branch (goal g gs) (record { slots = e; state = w.store.now.state; frames = k }) es)
unfolding count_goals
some-goals w back y place block g no_goals last e k es n next it none many count following own begins here and_leaves = absurd (omega (arith, many, count))
some-goals w back y place block g (goal h hs) last e k es n next it none many count following own begins here and_leaves =
    let kind : Kind = Kind.Branches next (n - 1) in
    let x : Entry _ = it.entry in
    let a : ArenasView _ = renamed w.arenas x kind in
    let top : ℕ = length w.arenas.collected in
    let two : _ = first-branch (tables_in w.loaded) (steps_of w.loaded) block place g (goal h hs) last here in
    let stack : StackIs w it.below top es = subst (λ m. StackIs w it.below m es) none it.stack in
    let level : w.arenas.level ≤ it.below = omega (arith, it.level, ap (λ r. r.level) it.back_is, it.is.level, open_level-within zero es, stack-length w it.below top es stack) in
    record {
      entries = renamed-stands w back y (branches_left (goal h hs)) (record { slots = e; state = w.store.now.state; frames = k }) es kind it none
          (branches_kind own begins (subst (λ m. AreBranches (tables_in w.loaded) (steps_of w.loaded) block m (goal h hs) last) (sym following) two.1) and_leaves (omega (arith, count)) refl);
      runs = going_now (going-passes w w.store a it.below (record { place = place; count = 1; base = back.base; frame = back.frame }) (goal g no_goals) e k es (renamed-passes w x kind it.below it.count) stack level
          (one-runs w place back.base back.frame block g last e k own begins two.0 and_leaves (back-agrees w back y es it)));
    }

more-in : {M : Type 0} (w : World M) (back : Back) (place n next slots : ℕ) (code : Code) (kind : Kind) (gs : GoalTrees) (b : BackData) (es : List EntryData) → (it : IsBack w back (choice (branches_left gs) b) es) →
    kind ≡ Kind.Branches place n → 1 < n → w.loaded.code ≡ code → ((terms : ℕ → Option Tree) (g : GoalTree) → StandsAt (tables_of terms code) code.steps.items place g → next ≡ place + nodes g) →
    KindIs w.loaded w.arenas.collected (now_here w) w.store.now.state back.base back.frame slots it.from (length w.arenas.collected) kind (choice (branches_left gs) b) →
    Stands (moved w w.store (renamed w.arenas it.entry (Kind.Branches next (n - 1)))) (Now.Going (record { place = place; count = 1; base = back.base; frame = back.frame })) (branch gs b es)
more-in w back place n next slots code kind gs b es it named many is_code finds (branches_kind {place = at} {n = count_is} {b = block} {g = g} {gs = hs} {last = last} {e = e} {k = k} own begins here and_leaves count one) =
    let same : at ≡ place = cc in
    let as_many : count_is ≡ n = cc in
    let there : AreBranches (tables_in w.loaded) (steps_of w.loaded) block place (goal g hs) last = subst (λ m. AreBranches (tables_in w.loaded) (steps_of w.loaded) block m (goal g hs) last) same here in
    let stands : StandsAt (tables_of w.loaded.terms code) code.steps.items place g =
    subst (λ c. StandsAt (tables_of w.loaded.terms c) c.steps.items place g) is_code (first-branch (tables_in w.loaded) (steps_of w.loaded) block place g hs last there).0.stands in
    some-goals w back (choice (branches_left (goal g hs)) b) place block g hs last e k es n next it one many (count ∙ as_many) (finds w.loaded.terms g stands) own begins there and_leaves

-- the others stay with the entry
pub more-branches : {M : Type 0} (w : World M) (a : ArenasView M) (back : Back) (place n next : ℕ) (code : Code) (kind : Kind) (gs : GoalTrees) (b : BackData) (es : List EntryData) → back.kind ≡ Kind.Branches place n → 1 < n →
    w.loaded.code ≡ code → ((terms : ℕ → Option Tree) (g : GoalTree) → StandsAt (tables_of terms code) code.steps.items place g → next ≡ place + nodes g) → kind ≡ Kind.Branches next (n - 1) →
    ((x : Entry M) → newest (entries_of w) ≡ Some x → a ≡ renamed w.arenas x kind) → IsBack w back (choice (branches_left gs) b) es →
    Stands (moved w w.store a) (Now.Going (record { place = place; count = 1; base = back.base; frame = back.frame })) (branch gs b es)
more-branches w a back place n next code kind gs b es named many is_code finds waits arenas it =
    subst (λ r. Stands (moved w w.store r) (Now.Going (record { place = place; count = 1; base = back.base; frame = back.frame })) (branch gs b es))
    (ap (renamed w.arenas it.entry) (sym waits) ∙ sym (arenas it.entry (ap (entry_at (entries_of w)) it.count ∙ it.at)))
    (more-in w back place n next back.blocks.slots code back.kind gs b es it named many is_code finds (back-kind w back (choice (branches_left gs) b) es it))

-- ---- alternatives are entered

-- the first branch, where what is left behind the goal has its frame
first-runs : {M : Type 0} (w : World M) (p : Point) (n : ℕ) (g : GoalTree) (hs : GoalTrees) (e : Places) (k : List Frame) → (in_it : Entered w p n (alternatives (goal g hs)) e k) →
    GoingIs w (record { place = p.place + 1; count = 1; base = p.base; frame = n }) (goal g no_goals) e k
first-runs w p n g hs e k in_it =
    one-runs w (p.place + 1) p.base n in_it.block g in_it.at.own e k (record { slots = in_it.slots; leaves = in_it.at.leaves; frames = in_it.at.frames }) in_it.base
    (first-branch (tables_in w.loaded) (steps_of w.loaded) in_it.block (p.place + 1) g hs in_it.at.own (branches-here (tables_in w.loaded) (steps_of w.loaded) in_it.block p.place (goal g hs) in_it.at.own in_it.at.here)).0
    in_it.at.own_leaves in_it.agrees

-- the entry for the others
others-pushed : {M : Type 0} (w : World M) (v : StoreView M) (mark : M) (p : Point) (n next count : ℕ) (g h : GoalTree) (hs : GoalTrees) (e : Places) (k : List Frame) (es : List EntryData) → StackStands w es → Marks w.order w.store v mark →
    Entered w p n (alternatives (goal g (goal h hs))) e k → next ≡ p.place + 1 + nodes g → count_goals (goal h hs) ≡ count →
    Stands (with_entry w v mark (length w.arenas.blocks.slots) p.base n (Kind.Branches next count)) (Now.Going (record { place = p.place + 1; count = 1; base = p.base; frame = n }))
    (branch (goal g (goal h hs)) (back_to e w.store.now.state k) es)
unfolding open_level
others-pushed w v mark p n next count g h hs e k es stands marks in_it following many =
    let slots : ℕ = length w.arenas.blocks.slots in
    let top : ℕ = length w.arenas.collected in
    let m : ℕ = length (entries_of w) in
    let kind : Kind = Kind.Branches next count in
    let x : Entry _ = new_entry w.arenas mark slots p.base n kind in
    let a : ArenasView _ = pushed w.arenas mark slots p.base n kind in
    let y : EntryData = choice (branches_left (goal h hs)) (back_to e w.store.now.state k) in
    let more : length (entries_of w ++ x ∷ []) ≡ suc m = length-append (entries_of w) (x ∷ []) ∙ omega arith in
    let level : w.arenas.level ≤ m = omega (arith, stands.level, open_level-within zero es, stack-length w m top es stands.stack) in
    let two : _ = first-branch (tables_in w.loaded) (steps_of w.loaded) in_it.block (p.place + 1) g (goal h hs) in_it.at.own (branches-here (tables_in w.loaded) (steps_of w.loaded) in_it.block p.place (goal g (goal h hs)) in_it.at.own in_it.at.here) in
    let behind_it : StandsBehind w.loaded (now_here w) in_it.block n e k = record { slots = in_it.slots; leaves = in_it.at.leaves; frames = in_it.at.frames } in
    let kind_is : KindIs w.loaded w.arenas.collected (now_here w) w.store.now.state p.base n slots top top kind y =
    branches_kind behind_it in_it.base (subst (λ q. AreBranches (tables_in w.loaded) (steps_of w.loaded) in_it.block q (goal h hs) in_it.at.own) (sym following) two.1) in_it.at.own_leaves many refl in
    let passes : Passes w v a m =
    record { leaves = pushed-leaves w v mark slots p.base n m kind (omega arith) (kept-within w es stands) marks.stays.keeps; slots = refl; frames = refl; level = refl; stays = marks.stays } in
    subst (λ t. Stands (with_entry w v mark slots p.base n kind) (Now.Going (record { place = p.place + 1; count = 1; base = p.base; frame = n })) (config (run_goal g e t k) (y ∷ es))) marks.stays.state
    (record {
      entries = record {
        code = code-keeps w.loaded.code (tables_in w.loaded) w.store.names v.names w.loaded.preds (λ i name has. marks.stays.keeps.names i name has) stands.code;
        state = subst Rests (sym marks.stays.state) stands.state;
        tables = λ i t has. marks.stays.keeps.terms (record { number = i }) t (stands.tables i t has);
        level = stands.level;
        kept = ap slots_kept_by (sym (newest-last (entries_of w) x));
        stack = subst (λ q. StackIs (with_entry w v mark slots p.base n kind) q top (y ∷ es)) (sym more)
            (stack-pushed w v mark slots p.base n top kind y es stands marks (kept-within w es stands) (omega arith) (omega arith) (base-fits-in w (entry_at (entries_of w) w.arenas.level) in_it.agrees) in_it.agrees
            (subst (λ q. KindIs w.loaded w.arenas.collected q w.store.now.state p.base n slots top top kind y) (sym (marked-all w)) kind_is) tt stands.stack);
      };
      runs = going_now (going-passes w v a m (record { place = p.place + 1; count = 1; base = p.base; frame = n }) (goal g no_goals) e k es passes stands.stack level (first-runs w p n g (goal h hs) e k in_it));
    })

-- what is pushed behind the goal, and what stands there
enters : {M : Type 0} (w : World M) (p : Point) (s : Step) (fs : List Point) (n : ℕ) (hs gs : GoalTrees) (e : Places) (k : List Frame) (es : List EntryData) → Pushed w p s fs n →
    StandsGoing w p (goal (alternatives hs) gs) e k es → Entered (with_new_frames w fs) p n (alternatives hs) e (behind gs k) × StackStands (with_new_frames w fs) es
enters w p s fs n hs gs e k es pushed stands =
    let is : GoingIs w p (goal (alternatives hs) gs) e k = going-of w p (goal (alternatives hs) gs) e w.store.now.state k stands.runs in
    let size : (s.size ≡ nodes (alternatives hs)) × (p.place + nodes (alternatives hs) < 2 ^ 32) = going-size w p s (alternatives hs) gs e k pushed.0 is in
    let more : MoreFrames w.arenas.frames fs = pushes-more p s w.arenas.frames fs n (omega (arith, size.0, size.1)) pushed.1 in
    (entered-behind w p s (alternatives hs) gs e k fs n pushed.0 more pushed.1 is, stack-framed w fs es more stands.entries)

-- the goal at a node
node-is : {M : Type 0} (w : World M) (p : Point) (s : Step) (count : ℕ) (g : GoalTree) (gs : GoalTrees) (e : Places) (k : List Frame) (es : List EntryData) → s.node ≡ Node.Alt count →
    slice_get (steps_of w.loaded) p.place ≡ Some s → StandsGoing w p (goal g gs) e k es → (hs : GoalTrees) × (g ≡ alternatives hs) × (count_goals hs ≡ count)
unfolding node_kind
node-is w p s count g gs e k es node at stands =
    alternatives-of g count (kind-of-node w p s g gs e k (Node.Alt count) at (going-of w p (goal g gs) e w.store.now.state k stands.runs) node)

-- none
none-of : (hs : GoalTrees) → count_goals hs ≡ 0 → hs ≡ no_goals
unfolding count_goals
none-of no_goals h = refl
none-of (goal g hs) h = absurd (omega (arith, h))

pub no-branches : {M : Type 0} (w : World M) (p : Point) (s : Step) (count : ℕ) (view : View) (g : GoalTree) (gs : GoalTrees) (e : Places) (k : List Frame) (es : List EntryData) → s.node ≡ Node.Alt count → count ≡ 0 →
    slice_get (steps_of w.loaded) p.place ≡ Some s → StandsGoing w p (goal g gs) e k es → StandsAfter w Now.Failing (goal_step view w.loaded.preds g e w.store.now.state (with_rest gs k es))
unfolding goal_step
no-branches w p s count view g gs e k es node none at stands =
    let it : _ = node-is w p s count g gs e k es node at stands in
    subst (λ h. StandsAfter w Now.Failing (goal_step view w.loaded.preds h e w.store.now.state (with_rest gs k es))) (sym (it.1 ∙ ap alternatives (none-of it.0 (it.2 ∙ none))))
    (record { entries = stack-lies w es stands.entries; runs = failing_now })

-- one
one-in : {M : Type 0} (w : World M) (p : Point) (s : Step) (fs : List Point) (n count : ℕ) (view : View) (hs gs : GoalTrees) (e : Places) (k : List Frame) (es : List EntryData) → count_goals hs ≡ count → count ≡ 1 → Pushed w p s fs n →
    StandsGoing w p (goal (alternatives hs) gs) e k es →
    StandsAfter (with_new_frames w fs) (Now.Going (record { place = p.place + 1; count = 1; base = p.base; frame = n })) (goal_step view w.loaded.preds (alternatives hs) e w.store.now.state (with_rest gs k es))
unfolding goal_step count_goals
one-in w p s fs n count view no_goals gs e k es many one pushed stands = absurd (omega (arith, many, one))
one-in w p s fs n count view (goal g no_goals) gs e k es many one pushed stands =
    let two : _ = enters w p s fs n (goal g no_goals) gs e k es pushed stands in
    record { entries = two.1; runs = going_now (first-runs (with_new_frames w fs) p n g no_goals e (behind gs k) two.0) }
one-in w p s fs n count view (goal g (goal h hs)) gs e k es many one pushed stands = absurd (omega (arith, many, one))

pub one-branch : {M : Type 0} (w : World M) (p : Point) (s : Step) (fs : List Point) (n count : ℕ) (view : View) (g : GoalTree) (gs : GoalTrees) (e : Places) (k : List Frame) (es : List EntryData) → s.node ≡ Node.Alt count → count ≡ 1 →
    Pushed w p s fs n → StandsGoing w p (goal g gs) e k es →
    StandsAfter (with_new_frames w fs) (Now.Going (record { place = p.place + 1; count = 1; base = p.base; frame = n })) (goal_step view w.loaded.preds g e w.store.now.state (with_rest gs k es))
one-branch w p s fs n count view g gs e k es node one pushed stands =
    let it : _ = node-is w p s count g gs e k es node pushed.0 stands in
    subst (λ h. StandsAfter (with_new_frames w fs) (Now.Going (record { place = p.place + 1; count = 1; base = p.base; frame = n })) (goal_step view w.loaded.preds h e w.store.now.state (with_rest gs k es))) (sym it.1)
    (one-in w p s fs n count view it.0 gs e k es it.2 one pushed (subst (λ r. StandsGoing w p (goal r gs) e k es) it.1 stands))

-- more than one
more-of : {M : Type 0} (w : World M) (v : StoreView M) (mark : M) (p : Point) (s : Step) (fs : List Point) (n count next : ℕ) (view : View) (hs gs : GoalTrees) (e : Places) (k : List Frame) (es : List EntryData) → count_goals hs ≡ count → 1 < count →
    Pushed w p s fs n → Marks w.order w.store v mark → ((g : GoalTree) (b : Block) (last : Bool) → IsHere (tables_in w.loaded) (steps_of w.loaded) b (p.place + 1) g last → next ≡ p.place + 1 + nodes g) →
    StandsGoing w p (goal (alternatives hs) gs) e k es →
    StandsAfter (with_entry (with_new_frames w fs) v mark (length w.arenas.blocks.slots) p.base n (Kind.Branches next (count - 1))) (Now.Going (record { place = p.place + 1; count = 1; base = p.base; frame = n }))
    (goal_step view w.loaded.preds (alternatives hs) e w.store.now.state (with_rest gs k es))
unfolding goal_step count_goals
more-of w v mark p s fs n count next view no_goals gs e k es many some pushed marks finds stands = absurd (omega (arith, many, some))
more-of w v mark p s fs n count next view (goal g no_goals) gs e k es many some pushed marks finds stands = absurd (omega (arith, many, some))
more-of w v mark p s fs n count next view (goal g (goal h hs)) gs e k es many some pushed marks finds stands =
    let two : _ = enters w p s fs n (goal g (goal h hs)) gs e k es pushed stands in
    let here : _ = first-branch (tables_in w.loaded) (steps_of w.loaded) two.0.block (p.place + 1) g (goal h hs) two.0.at.own (branches-here (tables_in w.loaded) (steps_of w.loaded) two.0.block p.place (goal g (goal h hs)) two.0.at.own two.0.at.here) in
    others-pushed (with_new_frames w fs) v mark p n next (count - 1) g h hs e (behind gs k) es two.1 marks two.0 (finds g two.0.block two.0.at.own here.0) (omega (arith, many))

pub some-branches : {M : Type 0} (w : World M) (v : StoreView M) (mark : M) (p : Point) (s : Step) (fs : List Point) (n count next : ℕ) (code : Code) (view : View) (g : GoalTree) (gs : GoalTrees) (e : Places) (k : List Frame) (es : List EntryData) → s.node ≡ Node.Alt count → 1 < count →
    w.loaded.code ≡ code → Pushed w p s fs n → Marks w.order w.store v mark →
    ((terms : ℕ → Option Tree) (h : GoalTree) → StandsAt (tables_of terms code) code.steps.items (p.place + 1) h → next ≡ p.place + 1 + nodes h) → StandsGoing w p (goal g gs) e k es →
    StandsAfter (with_entry (with_new_frames w fs) v mark (length w.arenas.blocks.slots) p.base n (Kind.Branches next (count - 1))) (Now.Going (record { place = p.place + 1; count = 1; base = p.base; frame = n }))
    (goal_step view w.loaded.preds g e w.store.now.state (with_rest gs k es))
some-branches w v mark p s fs n count next code view g gs e k es node some is_code pushed marks finds stands =
    let it : _ = node-is w p s count g gs e k es node pushed.0 stands in
    let there : (h : GoalTree) (b : Block) (last : Bool) → IsHere (tables_in w.loaded) (steps_of w.loaded) b (p.place + 1) h last → next ≡ p.place + 1 + nodes h =
    λ h b last here. finds w.loaded.terms h (subst (λ c. StandsAt (tables_of w.loaded.terms c) c.steps.items (p.place + 1) h) is_code here.stands) in
    subst (λ h. StandsAfter (with_entry (with_new_frames w fs) v mark (length w.arenas.blocks.slots) p.base n (Kind.Branches next (count - 1))) (Now.Going (record { place = p.place + 1; count = 1; base = p.base; frame = n }))
    (goal_step view w.loaded.preds h e w.store.now.state (with_rest gs k es))) (sym it.1)
    (more-of w v mark p s fs n count next view it.0 gs e k es it.2 some pushed marks there (subst (λ r. StandsGoing w p (goal r gs) e k es) it.1 stands))

-- ---- what the code finds

some-children : (g : GoalTree) (hs : GoalTrees) (count : ℕ) → g ≡ alternatives hs → count_goals hs ≡ count → 0 < count → 0 < child_count g
unfolding children
some-children g hs count is many some = subst (λ r. 0 < child_count r) (sym is) (omega (arith, many, some))

pub branch-found : {M : Type 0} (w : World M) (p : Point) (s : Step) (count at_child : ℕ) (code : Code) (g : GoalTree) (gs : GoalTrees) (e : Places) (k : List Frame) (es : List EntryData) → s.node ≡ Node.Alt count → 0 < count → w.loaded.code ≡ code →
    slice_get (steps_of w.loaded) p.place ≡ Some s → StandsGoing w p (goal g gs) e k es →
    ((terms : ℕ → Option Tree) (h : GoalTree) → StandsAt (tables_of terms code) code.steps.items p.place h → 0 < child_count h → at_child ≡ child_place h p.place 0) → at_child ≡ p.place + 1
branch-found w p s count at_child code g gs e k es node some is_code at stands finds =
    let is : GoingIs w p (goal g gs) e k = going-of w p (goal g gs) e w.store.now.state k stands.runs in
    let it : _ = node-is w p s count g gs e k es node at stands in
    let first : FirstOf (tables_in w.loaded) (steps_of w.loaded) is.block p.place p.count g gs is.value is.last = first-of (tables_in w.loaded) (steps_of w.loaded) is.block p.place p.count g gs is.value is.last is.goals in
    child-found w.loaded is.block p.place 0 at_child g first.own code is_code first.here (some-children g it.0 count it.1 it.2 some) finds ∙ child_place-first g p.place

pub behind-found : (code : Code) (first place next : ℕ) → first ≡ place + 1 → ((terms : ℕ → Option Tree) (h : GoalTree) → StandsAt (tables_of terms code) code.steps.items first h → next ≡ first + nodes h) →
    (terms : ℕ → Option Tree) (h : GoalTree) → StandsAt (tables_of terms code) code.steps.items (place + 1) h → next ≡ place + 1 + nodes h
behind-found code first place next is finds =
    subst (λ n. (terms : ℕ → Option Tree) (h : GoalTree) → StandsAt (tables_of terms code) code.steps.items n h → next ≡ n + nodes h) is finds
