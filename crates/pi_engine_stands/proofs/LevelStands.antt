-- Levels that are entered.
use Rattle.std.proofs.Common.{◌≡◌, ℕ, zero, suc, ◌+◌, ◌^◌, ◌≤◌, ◌<◌, Bool, false, List, [], ◌∷◌, ◌++◌, Option, Some, None, length, take, drop, map, refl, sym, ◌∙◌, ap, subst, arith}
use Rattle.std.specs.Prelude.{slice_get}
use Rattle.std.proofs.lemmas.List.{take_all, length-append}
use Rattle.pi_terms.specs.Places.{Places}
use Rattle.pi_constraints.specs.Store.{StoreView, Marks, Extend}
use Rattle.pi_engine_stands.specs.Rests.{Rests}
use Rattle.pi_core.specs.GoalTree.{GoalTree, GoalTrees, goal, children, nodes, nodes_all}
use Rattle.pi_core.specs.GoalCells.{flat_all}
use Rattle.pi_terms.proofs.GetLemmas.{get_append_last}
use Rattle.pi_core.proofs.GoalPlaces.{nodes-children, nodes_all-goal}
use Rattle.pi_engine_arenas.specs.declared.frames.Point.{Point}
use Rattle.pi_engine_arenas.specs.declared.arenas.Kind.{Kind}
use Rattle.pi_engine_code.specs.declared.code.Step.{Step}
use Rattle.pi_engine_arenas.specs.declared.run.Now.{Now}
use Rattle.pi_engine_code.specs.Code.{Tables, step_cell}
use Rattle.pi_engine_arenas.specs.Arenas.{ArenasView, entry_at, slots_kept_by, new_entry, pushed, opened}
use Rattle.pi_engine_arenas.specs.declared.arenas.Entry.{Entry}
use Rattle.pi_meaning.specs.Machine.Configuration.{Frame, Entry as EntryData, config}
use Rattle.pi_meaning.specs.Machine.Step.{run_goal}
use Rattle.pi_meaning.specs.Machine.Shape.{open_level}
use Rattle.pi_engine_stands.specs.Here.{Block, IsStepOf, SayLast, IsHere, last_here, in_block, answers}
use Rattle.pi_engine_stands.specs.Stands.{tables_in, World, Loaded, steps_of, entries_of, ends_of, level_ends, entry_ends, now_here, Agrees, agrees_from, back_here, KindIs, StackIs, StackStands, Stands, going_now, block_at, shape_of}
use Rattle.pi_engine_code.proofs.CodeLemmas.{cells-front, cells-below}
use Rattle.pi_engine_stands.proofs.GoalsStand.{cells-further}
use Rattle.pi_engine_stands.proofs.FramesStand.{Entered}
use Rattle.pi_engine_stands.proofs.HereLemmas.{holds-extends}
use Rattle.pi_engine_stands.proofs.ProgramStands.{code-keeps}
use Rattle.pi_engine_stands.proofs.StandsLemmas.{moved, stack-moves, stack-length, open_level-within, HasNoFound}
use Rattle.pi_engine_stands.proofs.EntriesStand.{marked_here, with_entry, back-of-new, stack-pushed}

-- the first child goal stands right behind its parent's step
pub first-child-here : (t : Tables) (steps : List Step) (b : Block) (place : ℕ) (g c : GoalTree) (cs : GoalTrees) (own last : Bool) → IsHere t steps b place g own →
    children g ≡ goal c cs → SayLast steps (place + 1) c last → IsHere t steps b (place + 1) c last
first-child-here t steps b place g c cs own last here is says =
    let fits : place + nodes g < 2 ^ 32 = here.stands.fits in
    let size : nodes g ≡ suc (nodes c + nodes_all cs) = nodes-children g ∙ ap (λ r. suc (nodes_all r)) is ∙ ap suc (nodes_all-goal c cs) in
    record {
      stands = record {
        cells = cells-front c cs (map (step_cell t) (drop (place + 1) steps))
            (subst (λ r. take (nodes_all r) (map (step_cell t) (drop (place + 1) steps)) ≡ flat_all r) is
            (ap (take (nodes_all (children g))) (sym (cells-further t steps place 1)) ∙ cells-below g (map (step_cell t) (drop place steps)) here.stands.cells));
        fits = omega (arith, fits, size);
      };
      of_block = λ i s within at. here.of_block (1 + i) s (omega (arith, within, size)) (ap (slice_get steps) (omega arith) ∙ at);
      says = says;
    }

-- the block of a goal that stands at a step
pub block-of-step : (l : Loaded) (b : Block) (place base : ℕ) (g : GoalTree) (own : Bool) (s : Step) → IsHere (tables_in l) (steps_of l) b place g own → b.base ≡ base →
    slice_get (steps_of l) place ≡ Some s → block_at l place base ≡ b
block-of-step l b place base g own s here is at =
    let step : IsStepOf (tables_in l) b s = here.of_block 0 s (omega (arith, nodes-children g)) (ap (slice_get (steps_of l)) (omega arith) ∙ at) in
    ap (λ r. shape_of r base) at
    ∙ ap (λ n. record { base = n; first = s.first_slot; count = s.slots }) (sym is)
    ∙ ap (λ n. record { base = b.base; first = n; count = s.slots }) step.first
    ∙ ap (λ n. record { base = b.base; first = b.first; count = n }) step.count

-- what is there is all there, where no slot is left out
pub marked-all : {M : Type 0} (w : World M) → marked_here w (length w.arenas.blocks.slots) ≡ now_here w
marked-all w = ap (λ xs. record { terms = w.store.now.terms; slots = xs; frames = w.arenas.frames; ends = level_ends w w.arenas.level }) (take_all (length w.arenas.blocks.slots) w.arenas.blocks.slots (omega arith))

pub arenas-opened : {M : Type 0} (a b : ArenasView M) → b.frames ≡ a.frames → b.blocks ≡ a.blocks → b.entries ≡ a.entries → b.level ≡ length a.entries → b.collected ≡ a.collected → opened a ≡ b
arenas-opened a b frames blocks entries level collected =
    ap (λ x. record { frames = x; blocks = a.blocks; entries = a.entries; level = length a.entries; collected = a.collected }) (sym frames)
    ∙ ap (λ x. record { frames = b.frames; blocks = x; entries = a.entries; level = length a.entries; collected = a.collected }) (sym blocks)
    ∙ ap (λ x. record { frames = b.frames; blocks = b.blocks; entries = x; level = length a.entries; collected = a.collected }) (sym entries)
    ∙ ap (λ x. record { frames = b.frames; blocks = b.blocks; entries = b.entries; level = x; collected = a.collected }) (sym level)
    ∙ ap (λ x. record { frames = b.frames; blocks = b.blocks; entries = b.entries; level = b.level; collected = x }) (sym collected)

abbrev pub entered_level : {M : Type 0} → World M → StoreView M → M → ℕ → ℕ → Kind → World M
entered_level w v mark base frame kind = moved w v (opened (pushed w.arenas mark (length w.arenas.blocks.slots) base frame kind))

-- the stack doesn't go by what is open
stack-opened : {M : Type 0} (w : World M) (v : StoreView M) (mark : M) (slots base frame : ℕ) (kind : Kind) (m to : ℕ) (es : List EntryData) →
    to ≤ length w.arenas.collected → StackIs (with_entry w v mark slots base frame kind) m to es →
    StackIs (moved w v (opened (pushed w.arenas mark slots base frame kind))) m to es
stack-opened w v mark slots base frame kind m to es some is =
    stack-moves (with_entry w v mark slots base frame kind) v (opened (pushed w.arenas mark slots base frame kind)) m to m to es
    (record {
      entries = refl;
      marks = λ i x h at good. (good, refl);
      blocks = λ i x h at kept. (kept, refl);
      frames = λ i x h at fit. (fit, refl);
      collected = refl;
      enough = some;
      beside = λ m. refl;
      names = λ k name has. has;
    })
    (omega arith) (omega arith) is

pub base-fits-in : {M : Type 0} (w : World M) (r : Option (Entry M)) → agrees_from w r (now_here w) → (x : Entry M) → r ≡ Some x → x.back.base ≤ length w.arenas.blocks.slots
base-fits-in w r agrees x is = (subst (λ o. agrees_from w o (now_here w)) is agrees).2

-- the newest entry says how its level ends
pub level-of-new : {M : Type 0} (w : World M) (v : StoreView M) (mark : M) (base frame : ℕ) (kind : Kind) →
    level_ends (entered_level w v mark base frame kind) (length (entries_of w ++ new_entry w.arenas mark (length w.arenas.blocks.slots) base frame kind ∷ [])) ≡ ends_of w.loaded kind base
level-of-new w v mark base frame kind =
    let x : Entry _ = new_entry w.arenas mark (length w.arenas.blocks.slots) base frame kind in
    let more : length (entries_of w ++ x ∷ []) ≡ suc (length (entries_of w)) = length-append (entries_of w) (x ∷ []) ∙ omega arith in
    ap (λ n. entry_ends w.loaded (entry_at (entries_of w ++ x ∷ []) n)) more
    ∙ ap (entry_ends w.loaded) (get_append_last (entries_of w) x)

-- what is there agrees with a level that is entered just now
pub agrees-with-new : {M : Type 0} (w : World M) (v : StoreView M) (mark : M) (base frame : ℕ) (kind : Kind) → w.arenas.level ≤ length (entries_of w) → base ≤ length w.arenas.blocks.slots →
    Marks w.order w.store v mark →
    Agrees (entered_level w v mark base frame kind) (length (entries_of w ++ new_entry w.arenas mark (length w.arenas.blocks.slots) base frame kind ∷ []))
    (now_here (entered_level w v mark base frame kind))
agrees-with-new w v mark base frame kind within fit marks =
    let x : Entry _ = new_entry w.arenas mark (length w.arenas.blocks.slots) base frame kind in
    let after : World _ = entered_level w v mark base frame kind in
    let back : back_here after x ≡ now_here w = back-of-new w v mark (length w.arenas.blocks.slots) base frame kind within marks.brings_back ∙ marked-all w in
    let more : length (entries_of w ++ x ∷ []) ≡ suc (length (entries_of w)) = length-append (entries_of w) (x ∷ []) ∙ omega arith in
    subst (λ n. Agrees after n (now_here after)) (sym more)
    (subst (λ r. agrees_from after r (now_here after)) (sym (get_append_last (entries_of w) x))
    (subst (λ h. Extend h.terms v.now.terms × (take base h.slots ≡ take base w.arenas.blocks.slots) × (base ≤ length w.arenas.blocks.slots) × (take (length w.arenas.frames) w.arenas.frames ≡ h.frames)) (sym back)
    (λ n t is. marks.stays.keeps.terms (record { number = n }) t is, refl, fit, take_all (length w.arenas.frames) w.arenas.frames (omega arith))))

-- the entries where a level is entered, which stands for what it is told to
pub stack-entered : {M : Type 0} (w : World M) (v : StoreView M) (mark : M) (base n from : ℕ) (kind : Kind) (y : EntryData) (es : List EntryData) → StackStands w es → Marks w.order w.store v mark → Agrees w w.arenas.level (now_here w) →
    open_level zero (y ∷ es) ≡ suc (length es) → w.arenas.blocks.kept ≤ length w.arenas.blocks.slots → from ≤ length w.arenas.collected → StackIs w (length (entries_of w)) from es →
    KindIs w.loaded w.arenas.collected (now_here w) w.store.now.state base n (length w.arenas.blocks.slots) from (length w.arenas.collected) kind y → HasNoFound y →
    StackStands (entered_level w v mark base n kind) (y ∷ es)
stack-entered w v mark base n from kind y es stands marks agrees opens kept some below kind_is new =
    let slots : ℕ = length w.arenas.blocks.slots in
    let x : Entry _ = new_entry w.arenas mark slots base n kind in
    let after : World _ = entered_level w v mark base n kind in
    let long : length es ≡ length (entries_of w) = stack-length w (length (entries_of w)) from es below in
    let more : length (entries_of w ++ x ∷ []) ≡ suc (length (entries_of w)) = length-append (entries_of w) (x ∷ []) ∙ omega arith in
    record {
      code = code-keeps w.loaded.code (tables_in w.loaded) w.store.names v.names w.loaded.preds (λ i name has. marks.stays.keeps.names i name has) stands.code;
      state = subst Rests (sym marks.stays.state) stands.state;
      tables = λ i t has. marks.stays.keeps.terms (record { number = i }) t (stands.tables i t has);
      level = more ∙ ap suc (sym long) ∙ sym opens;
      kept = sym (ap slots_kept_by (ap (entry_at (entries_of w ++ x ∷ [])) more ∙ get_append_last (entries_of w) x));
      stack = subst (λ m. StackIs after m (length w.arenas.collected) (y ∷ es)) (sym more) (stack-opened w v mark slots base n kind (suc (length (entries_of w))) (length w.arenas.collected) (y ∷ es) (omega arith)
          (stack-pushed w v mark slots base n from kind y es stands marks kept (omega arith) some (base-fits-in w (entry_at (entries_of w) w.arenas.level) agrees) agrees
          (subst (λ h. KindIs w.loaded w.arenas.collected h w.store.now.state base n slots from (length w.arenas.collected) kind y) (sym (marked-all w)) kind_is) new below));
    }

-- A level is entered: its goal is the first in it, and what is left behind it the frame says.
pub level-entered : {M : Type 0} (w : World M) (v : StoreView M) (mark : M) (p : Point) (n from : ℕ) (kind : Kind) (y : EntryData) (s : Step) (g c : GoalTree) (cs : GoalTrees) (e : Places) (k : List Frame) (es : List EntryData) →
    StackStands w es → Marks w.order w.store v mark → slice_get (steps_of w.loaded) p.place ≡ Some s → (in_it : Entered w p n g e k) →
    children g ≡ goal c cs → SayLast (steps_of w.loaded) (p.place + 1) c false → ends_of w.loaded kind p.base ≡ in_block (block_at w.loaded p.place p.base) →
    open_level zero (y ∷ es) ≡ suc (length es) → w.arenas.blocks.kept ≤ length w.arenas.blocks.slots → from ≤ length w.arenas.collected →
    StackIs w (length (entries_of w)) from es →
    KindIs w.loaded w.arenas.collected (now_here w) w.store.now.state p.base n (length w.arenas.blocks.slots) from (length w.arenas.collected) kind y → HasNoFound y →
    Stands (entered_level w v mark p.base n kind) (Now.Going (record { place = p.place + 1; count = 1; base = p.base; frame = 0 })) (config (run_goal c e v.now.state []) (y ∷ es))
level-entered w v mark p n from kind y s g c cs e k es stands marks at in_it is says ends opens kept some below kind_is new =
    let long : length es ≡ length (entries_of w) = stack-length w (length (entries_of w)) from es below in
    let level : w.arenas.level ≤ length (entries_of w) = omega (arith, stands.level, open_level-within zero es, long) in
    let block : block_at w.loaded p.place p.base ≡ in_it.block = block-of-step w.loaded in_it.block p.place p.base g in_it.at.own s in_it.at.here in_it.base at in
    record {
      entries = stack-entered w v mark p.base n from kind y es stands marks in_it.agrees opens kept some below kind_is new;
      runs = going_now (record {
        block = in_it.block;
        base = in_it.base;
        value = None;
        last = false;
        rest = [];
        goals = last_here (first-child-here (tables_in w.loaded) (steps_of w.loaded) in_it.block p.place g c cs in_it.at.own false in_it.at.here is says);
        behind = record {
          slots = holds-extends w.store.now.terms v.now.terms w.arenas.blocks.slots in_it.block e (λ i t has. marks.stays.keeps.terms (record { number = i }) t has) in_it.slots;
          leaves = false;
          frames = answers (level-of-new w v mark p.base n kind ∙ ends ∙ ap in_block block);
        };
        leaves = record { is_last = λ h. h; is_given = λ none out. absurd cc; is_value = λ t h. absurd cc };
        frames = refl;
        agrees = agrees-with-new w v mark p.base n kind level (omega (arith, in_it.slots.within, in_it.base)) marks;
      });
    }
