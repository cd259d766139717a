-- Labelling as a step of the machine: the goals after the call where no variable is left, or an entry for the alternatives of the one that is picked.
use Rattle.std.proofs.Common.{◌≡◌, ◌≢◌, ℕ, zero, suc, ◌+◌, ◌^◌, ◌≤◌, ◌<◌, true, List, [], ◌∷◌, ◌++◌, Option, Some, None, length, reverse, refl, sym, ◌∙◌, ap, subst, arith}
use Rattle.std.specs.Prelude.{slice_get}
use Rattle.std.proofs.lemmas.List.{length-append, length-map, length-reverse}
use Rattle.pi_terms.specs.Tree.{Tree, Trees, trees_of}
use Rattle.pi_terms.specs.Places.{Places}
use Rattle.pi_constraints.specs.declared.constraint.Item.{Item}
use Rattle.pi_constraints.specs.declared.domain.Span.{Span}
use Rattle.pi_constraints.specs.declared.store.Ref.{Ref}
use Rattle.pi_constraints.specs.Domain.{values_of, size_of}
use Rattle.pi_constraints.specs.State.{State, IsState, domain_of}
use Rattle.pi_constraints.specs.Store.{StoreView, Keeps, Marks}
use Rattle.pi_constraints.proofs.StateLemmas.{domain_good}
use Rattle.pi_settling.specs.Options.{Options, ValueWord, up, down, split, reverse_split}
use Rattle.pi_settling.specs.Confined.{confined}
use Rattle.pi_settling.specs.Choices.{Pending, pending, picked, is_value, alternatives as alternatives_of}
use Rattle.pi_core.specs.GoalTree.{GoalTree, GoalTrees, goal, call, nodes}
use Rattle.pi_label.specs.declared.options.ValueWord.{ValueWord as Tried}
use Rattle.pi_label.specs.Words.{value_word}
use Rattle.pi_lib_constraints.specs.Kept.{AreRefsOf}
use Rattle.pi_meaning.specs.Machine.Filled.{are_filled}
use Rattle.pi_meaning.specs.Machine.Configuration.{Frame, behind, config, failed, going, choice, alternatives_left, Entry as EntryData}
use Rattle.pi_meaning.specs.Machine.Shape.{open_level}
use Rattle.pi_meaning.specs.Machine.Step.{Rest, NameCall, again_by, label_step, labels_step, back_to, name_call, with_rest}
use Rattle.pi_engine_code.specs.declared.code.Step.{Step}
use Rattle.pi_engine_arenas.specs.declared.arenas.Entry.{Entry}
use Rattle.pi_engine_arenas.specs.declared.arenas.Kind.{Kind}
use Rattle.pi_engine_arenas.specs.declared.frames.Point.{Point}
use Rattle.pi_engine_arenas.specs.declared.run.Now.{Now}
use Rattle.pi_engine_arenas.specs.Arenas.{between, entry_at, slots_kept_by, new_entry}
use Rattle.pi_engine_arenas.specs.Frames.{point_behind}
use Rattle.pi_engine_stands.specs.Rests.{Rests}
use Rattle.pi_engine_stands.specs.Stands.{World, tables_in, steps_of, entries_of, now_here, GoalStands, AreAlternatives, KindIs, alternatives_kind, StackIs, StackStands, Stands, StandsGoing, GoingIs, going_now, failing_now}
use Rattle.pi_engine_stands.specs.Evaluates.{Writes}
use Rattle.pi_engine_stands.proofs.CallKept.{newest-last}
use Rattle.pi_engine_stands.proofs.EntriesStand.{with_entry, stack-pushed}
use Rattle.pi_engine_stands.proofs.EqualStands.{going-behind, writes-kept, going-moved, stack-moved}
use Rattle.pi_engine_stands.proofs.FramesStand.{with_new_frames, Entered, MoreFrames, entered-behind, going-of, going-size, pushes-more, stack-framed}
use Rattle.pi_engine_stands.proofs.LevelStands.{marked-all, base-fits-in}
use Rattle.pi_engine_stands.proofs.LevelSteps.{Pushed, goal-stands, kept-within}
use Rattle.pi_engine_stands.proofs.ProgramStands.{code-keeps}
use Rattle.pi_engine_stands.proofs.StandsLemmas.{moved, HasNoFound}

-- ---- the variables are confined

pub refs-stay : {M : Type 0} (v u : StoreView M) (refs : List Ref) (items : List Item) → Keeps v u → AreRefsOf v refs items → AreRefsOf u refs items
refs-stay v u [] [] keeps are = tt
refs-stay v u [] (x ∷ items) keeps are = absurd are
refs-stay v u (r ∷ refs) [] keeps are = absurd are
refs-stay v u (r ∷ refs) (x ∷ items) keeps are = (keeps.terms r _ are.0, refs-stay v u refs items keeps are.1)

pub kept-stands : {M : Type 0} (w : World M) (u : StoreView M) (p : Point) (gs : GoalTrees) (e : Places) (k : List Frame) (es : List EntryData) → Keeps w.store u → Rests u.now.state → StandsGoing w p gs e k es →
    StandsGoing (moved w u w.arenas) p gs e k es
kept-stands w u p gs e k es keeps rests stands =
    let is : GoingIs w p gs e k = going-of w p gs e w.store.now.state k stands.runs in
    let writes : Writes is.block (between w.store u w.arenas w.arenas) e u.now.state = writes-kept is.block w.store u w.arenas e keeps is.behind.slots in
    record {
      entries = stack-moved w u w.arenas is.block e u.now.state es writes rests stands.entries;
      runs = going_now (going-moved w u w.arenas p gs e e u.now.state k es stands.entries is writes);
    }

-- the call at a point, with arguments and slots
abbrev pub call_with : List ℕ → List Tree → Trees → Places → State → NameCall
call_with name args ts e s = name_call name args (record { trees = ts; slots = e; state = s })

-- it goes by the variable that is picked in the state where they are confined
labels-so : {M : Type 0} (x : World M) (now : Now) (o : Options) (items : List Item) (c : NameCall) (t : State) (found : Option Pending) (gs : GoalTrees) (k : List Frame) (es : List EntryData) →
    t ≡ confined c.all.state items → picked (pending t items) o.variable ≡ found →
    Stands x now (label_step c o.value t (with_rest gs k es) found) → Stands x now (labels_step None o items c (with_rest gs k es))
labels-so x now o items c t found gs k es here out comes =
    subst (λ q. Stands x now (label_step c o.value q (with_rest gs k es) (picked (pending q items) o.variable))) here
    (subst (λ p. Stands x now (label_step c o.value t (with_rest gs k es) p)) (sym out) comes)

-- ---- no variable is left

-- the goals after it run next
pub none-left : {M : Type 0} (w : World M) (u : StoreView M) (p : Point) (s : Step) (o : Options) (items : List Item) (name : List ℕ) (args : List Tree) (ts : Trees) (gs : GoalTrees) (e : Places) (k : List Frame) (es : List EntryData) →
    slice_get (steps_of w.loaded) p.place ≡ Some s → Keeps w.store u → Rests u.now.state → u.now.state ≡ confined w.store.now.state items → picked (pending u.now.state items) o.variable ≡ None → StandsGoing w p (goal (call name args) gs) e k es →
    Stands (moved w u w.arenas) (Now.Going (point_behind p s)) (labels_step None o items (call_with name args ts e w.store.now.state) (with_rest gs k es))
none-left w u p s o items name args ts gs e k es at keeps rests here out stands =
    let x : World _ = moved w u w.arenas in
    let there : StandsGoing x p (goal (call name args) gs) e k es = kept-stands w u p (goal (call name args) gs) e k es keeps rests stands in
    let behind_it : Stands x (Now.Going (point_behind p s)) (config (going gs e u.now.state k) es) =
    record { entries = there.entries; runs = going_now (going-behind x p s (call name args) gs e k at (going-of x p (goal (call name args) gs) e u.now.state k there.runs)) } in
    labels-so x (Now.Going (point_behind p s)) o items (call_with name args ts e w.store.now.state) u.now.state None gs k es here out behind_it

-- ---- a variable is picked

-- a domain of two or more values has alternatives
some-alternatives : (w : ValueWord) (d : List Span) → 2 ≤ size_of d → alternatives_of w d ≢ []
some-alternatives up d two = λ h. omega (arith, two, length-map (values_of d) is_value, ap length h)
some-alternatives down d two = λ h. omega (arith, two, length-map (reverse (values_of d)) is_value, length-reverse (values_of d), ap length h)
some-alternatives split d two = λ h. cc
some-alternatives reverse_split d two = λ h. cc

-- all of them are left
all-left : (s : State) (p : Pending) (word : Tried) → IsState s → domain_of s p.variable ≡ Some p.domain →
    AreAlternatives s (record { variable = p.variable; word = word; after = None }) p (alternatives_of (value_word word) p.domain)
all-left s p word is has =
    record { variable = refl; domain = has; tried = zero; last = refl; left = refl; some = some-alternatives (value_word word) p.domain (domain_good s p.variable p.domain is has).1 }

-- an entry is put on the stack, and come back to at once
choice-stands : {M : Type 0} (w : World M) (v : StoreView M) (mark : M) (p : Point) (s : Step) (fs : List Point) (n : ℕ) (kind : Kind) (y : EntryData) (g : GoalTree) (gs : GoalTrees) (e : Places) (k : List Frame) (es : List EntryData) →
    Pushed w p s fs n → Marks w.order w.store v mark → open_level zero (y ∷ es) ≡ open_level zero es →
    (GoalStands w.loaded (now_here (with_new_frames w fs)) p.base p.place n g e (behind gs k) →
    KindIs w.loaded w.arenas.collected (now_here (with_new_frames w fs)) w.store.now.state p.base n (length w.arenas.blocks.slots) (length w.arenas.collected) (length w.arenas.collected) kind y) → HasNoFound y →
    StandsGoing w p (goal g gs) e k es →
    Stands (with_entry (with_new_frames w fs) v mark (length w.arenas.blocks.slots) p.base n kind) Now.Failing (config failed (y ∷ es))
choice-stands w v mark p s fs n kind y g gs e k es pushed marks opens kind_is new stands =
    let is : GoingIs w p (goal g gs) e k = going-of w p (goal g gs) e w.store.now.state k stands.runs in
    let size : (s.size ≡ nodes g) × (p.place + nodes g < 2 ^ 32) = going-size w p s g gs e k pushed.0 is in
    let more : MoreFrames w.arenas.frames fs = pushes-more p s w.arenas.frames fs n (omega (arith, size.0, size.1)) pushed.1 in
    let q : World _ = with_new_frames w fs in
    let in_it : Entered q p n g e (behind gs k) = entered-behind w p s g gs e k fs n pushed.0 more pushed.1 is in
    let below : StackStands q es = stack-framed w fs es more stands.entries in
    let slots : ℕ = length w.arenas.blocks.slots in
    let top : ℕ = length w.arenas.collected in
    let x : Entry _ = new_entry q.arenas mark slots p.base n kind in
    let count : length (entries_of q ++ x ∷ []) ≡ suc (length (entries_of q)) = length-append (entries_of q) (x ∷ []) ∙ omega arith in
    let waits : KindIs w.loaded w.arenas.collected (now_here q) w.store.now.state p.base n slots top top kind y = kind_is (goal-stands q p n s g e (behind gs k) pushed.0 in_it) in
    record {
      entries = record {
        code = code-keeps w.loaded.code (tables_in w.loaded) w.store.names v.names w.loaded.preds (λ i name has. marks.stays.keeps.names i name has) below.code;
        tables = λ i t has. marks.stays.keeps.terms (record { number = i }) t (below.tables i t has);
        level = below.level ∙ sym opens;
        kept = ap slots_kept_by (sym (newest-last (entries_of q) x));
        stack = subst (λ m. StackIs (with_entry q v mark slots p.base n kind) m top (y ∷ es)) (sym count)
            (stack-pushed q v mark slots p.base n top kind y es below marks (kept-within q es below) (omega arith) (omega arith) (base-fits-in q (entry_at (entries_of q) q.arenas.level) in_it.agrees) in_it.agrees
            (subst (λ h. KindIs w.loaded w.arenas.collected h w.store.now.state p.base n slots top top kind y) (sym (marked-all q)) waits) new below.stack);
      };
      runs = failing_now;
    }

-- the entry that waits for all alternatives of a variable
abbrev pub all_of : ℕ → ℕ → Tried → Kind
all_of place variable word = Kind.Alternatives place (record { variable = variable; word = word; after = None })

alternatives-stand : {M : Type 0} (w : World M) (v : StoreView M) (mark : M) (p : Point) (s : Step) (fs : List Point) (n : ℕ) (it : Pending) (word : Tried) (name : List ℕ) (args : List Tree) (gs : GoalTrees) (e : Places) (k : List Frame) (es : List EntryData) →
    Pushed w p s fs n → Marks w.order w.store v mark → domain_of w.store.now.state it.variable ≡ Some it.domain → StandsGoing w p (goal (call name args) gs) e k es →
    Stands (with_entry (with_new_frames w fs) v mark (length w.arenas.blocks.slots) p.base n (all_of p.place it.variable word)) Now.Failing
    (config failed (choice (alternatives_left name args it (alternatives_of (value_word word) it.domain)) (back_to e w.store.now.state (behind gs k)) ∷ es))
unfolding open_level
alternatives-stand w v mark p s fs n it word name args gs e k es pushed marks has stands =
    choice-stands w v mark p s fs n (all_of p.place it.variable word) (choice (alternatives_left name args it (alternatives_of (value_word word) it.domain)) (back_to e w.store.now.state (behind gs k)))
    (call name args) gs e k es pushed marks refl (λ is. alternatives_kind is (all-left w.store.now.state it word stands.entries.state.calm.state has) refl) tt stands

-- the alternatives of the variable that is picked are left to be tried
pub some-left : {M : Type 0} (w : World M) (u v : StoreView M) (mark : M) (p : Point) (s : Step) (fs : List Point) (n : ℕ) (it : Pending) (word : Tried) (o : Options) (items : List Item) (name : List ℕ) (args : List Tree) (ts : Trees) (gs : GoalTrees) (e : Places)
    (k : List Frame) (es : List EntryData) → Pushed w p s fs n → Marks w.order u v mark → value_word word ≡ o.value →
    Keeps w.store u → Rests u.now.state → u.now.state ≡ confined w.store.now.state items → picked (pending u.now.state items) o.variable ≡ Some it → domain_of u.now.state it.variable ≡ Some it.domain →
    are_filled e (trees_of args) ≡ true → StandsGoing w p (goal (call name args) gs) e k es →
    Stands (with_entry (with_new_frames (moved w u w.arenas) fs) v mark (length w.arenas.blocks.slots) p.base n (all_of p.place it.variable word)) Now.Failing
    (labels_step None o items (call_with name args ts e w.store.now.state) (with_rest gs k es))
some-left w u v mark p s fs n it word o items name args ts gs e k es pushed marks tries keeps rests here one has filled stands =
    let q : World _ = moved w u w.arenas in
    let x : World _ = with_entry (with_new_frames q fs) v mark (length w.arenas.blocks.slots) p.base n (all_of p.place it.variable word) in
    let there : StandsGoing q p (goal (call name args) gs) e k es = kept-stands w u p (goal (call name args) gs) e k es keeps rests stands in
    let c : NameCall = call_with name args ts e w.store.now.state in
    let r : Rest = with_rest gs k es in
    labels-so x Now.Failing o items c u.now.state (Some it) gs k es here one
    (subst (λ b. Stands x Now.Failing (config failed (choice (alternatives_left name (again_by b c u.now.state r).args it (alternatives_of o.value it.domain)) (again_by b c u.now.state r).back ∷ es))) (sym filled)
    (subst (λ values. Stands x Now.Failing (config failed (choice (alternatives_left name args it (alternatives_of values it.domain)) (back_to e u.now.state (behind gs k)) ∷ es))) tries
    (alternatives-stand q v mark p s fs n it word name args gs e k es pushed marks has there)))
