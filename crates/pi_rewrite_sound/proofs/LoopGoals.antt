-- Where a loop stands, and where it ends: goals that are fine.
use Rattle.std.proofs.Common.{◌≡◌, ℕ, suc, ◌+◌, ◌-◌, ◌≤◌, ◌<◌, List, [], ◌∷◌, ◌++◌, length, sym, ◌∙◌, subst, arith, length-append}
use Rattle.std.specs.Prelude.{codes, IsTrue, pos, false, true}
use Rattle.pi_terms.specs.Tree.{Tree, no_trees, trees_of, comp}
use Rattle.pi_constraints.specs.State.{SpeaksBelow}
use Rattle.pi_constraints.proofs.KeepsLemmas.{TreesBelow, comp-below, int-below}
use Rattle.pi_syntax.specs.PrintTerm.{array_name}
use Rattle.pi_effects.specs.Inner.{itself_name, in_order_name, range_count_name}
use Rattle.pi_syntax.specs.ExpTree.{array}
use Rattle.pi_core.specs.GoalTree.{GoalTree, call, apply}
use Rattle.pi_core.specs.CoreTree.{PredTree}
use Rattle.pi_meaning.specs.OverNames.Texts.{Names}
use Rattle.pi_rewrite_spec.specs.Forms.{Knows}
use Rattle.pi_rewrite_spec.specs.Slots.{SlotNames, slot_for, with_value}
use Rattle.pi_rewrite_spec.specs.Values.{SlotValue, SlotValues}
use Rattle.pi_rewrite_spec.specs.Loops.{slots_for_names, slots_from, with_values, Ending, as_it_is, in_order, ended, closing, closing_slots, Loop, as_written, started, kept_goals, entered, loop_goals}
use Rattle.pi_rewrite_spec.specs.Iterators.{only, behind_collection, walked, iterator_goals}
use Rattle.pi_rewrite_spec.specs.Ranges.{SlotRange, low_of, step_of, high_of, range_of, number_goals, number_tree, counting, first_turn, behind_range, range_goals}
use Rattle.pi_rewrite_spec.proofs.AgreeLemmas.{grows-length}
use Rattle.pi_rewrite_spec.proofs.TermLemmas.{term-grows}
use Rattle.pi_rewrite_laws.proofs.BelowLemmas.{none-below, front-below, first-of, rest-of, var-below, atom-below}
use Rattle.pi_rewrite_spec.proofs.EnteredLemmas.{values-long}
use Rattle.pi_rewrite_laws.proofs.CollectionLemmas.{only-long}
use Rattle.pi_rewrite_laws.proofs.HelperLemmas.{AreAmong}
use Rattle.pi_rewrite_sound.proofs.FineGoals.{AllFine, fine-none, fine-one, fine-first, fine-append, fine-call, fine-apply}
use Rattle.pi_rewrite_sound.proofs.GivenNames.{equals-there, itself-there, in-order-there, range-count-there, to-array-there, length-there, plus-there, min-there}
use Rattle.pi_rewrite_sound.proofs.GoodHelpers.{Allows, Has, GoodHelpers}
use Rattle.pi_rewrite_sound.proofs.GoodGoals.{GoodGoals, GoodValue, GoodValues}
use Rattle.pi_rewrite_sound.proofs.GoodValues.{fine-filled, value-long}
use Rattle.pi_rewrite_sound.proofs.SlotRoom.{among-room, among-behind, started-among, behind-long, both-below, one-below, names-below, names-count, slots-below, slots-count}

pair-below : (n : ℕ) (t u : Tree) → SpeaksBelow n t → SpeaksBelow n u → TreesBelow n (trees_of (t ∷ u ∷ []))
pair-below n t u one two = front-below n t _ one (front-below n u no_trees two (none-below n))

-- ---- where a loop ends

pub closing-room : (names : Names) (next : ℕ) → next + (length names + length names) ≤ closing_slots names next
unfolding closing_slots
closing-room [] next = omega arith
closing-room (name ∷ names) next = omega (arith, closing-room names (next + 2))

equation-fine : (known may : Knows) → Allows known may → (n k j : ℕ) → k < n → j < n → AllFine n may (call (codes "=") (Tree.var k ∷ Tree.var j ∷ []) ∷ [])
equation-fine known may allows n k j one two =
    fine-one n may _ (fine-call n may (codes "=") (Tree.var k ∷ Tree.var j ∷ []) (pair-below n (Tree.var k) (Tree.var j) (var-below n k one) (var-below n j two)) (allows.machine (codes "=") 2 equals-there))

ended-fine : (known may : Knows) → Allows known may → (n : ℕ) (ending : Ending) (variable value next : ℕ) → variable < n → value < n → next + 2 ≤ n → AllFine n may (ended ending variable value next)
ended-fine known may allows n as_it_is variable value next one two room = equation-fine known may allows n variable value one two
ended-fine known may allows n (in_order false) variable value next one two room =
    fine-first n may _ (call (codes "=") (Tree.var variable ∷ Tree.var next ∷ []) ∷ []) (fine-apply n may in_order_name (Tree.var value ∷ []) next (one-below n value two) (omega (arith, room)) (allows.tables in_order_name 1 in-order-there)) (equation-fine known may allows n variable next one (omega (arith, room)))
ended-fine known may allows n (in_order true) variable value next one two room =
    fine-first n may _ (apply (codes "to_array") (Tree.var next ∷ []) (suc next) ∷ call (codes "=") (Tree.var variable ∷ Tree.var (suc next) ∷ []) ∷ []) (fine-apply n may in_order_name (Tree.var value ∷ []) next (one-below n value two) (omega (arith, room)) (allows.tables in_order_name 1 in-order-there))
    (fine-first n may _ (call (codes "=") (Tree.var variable ∷ Tree.var (suc next) ∷ []) ∷ []) (fine-apply n may (codes "to_array") (Tree.var next ∷ []) (suc next) (one-below n next (omega (arith, room))) (omega (arith, room)) (allows.tables (codes "to_array") 1 to-array-there))
    (equation-fine known may allows n variable (suc next) one (omega (arith, room))))

pub closing-fine : (known may : Knows) → Allows known may → (n : ℕ) (ending : Ending) (names : Names) (k next : ℕ) (ns : SlotNames) → AreAmong ns names → length ns ≤ n → k + length names ≤ n → closing_slots names next ≤ n →
    AllFine n may (closing ending names k next ns)
unfolding closing closing_slots AreAmong
closing-fine known may allows n ending [] k next ns are wide room enough = fine-none n may
closing-fine known may allows n ending (name ∷ names) k next ns are wide room enough =
    fine-append n may (ended ending k (slot_for name ns) next) (closing ending names (suc k) (next + 2) ns)
    (ended-fine known may allows n ending k (slot_for name ns) next (omega (arith, room)) (omega (arith, wide, among-room name ns are.0 are.1)) (omega (arith, enough, closing-room names (next + 2))))
    (closing-fine known may allows n ending names (suc k) (next + 2) ns are.2 wide (omega (arith, room)) enough)

-- ---- where it stands

kept-fine : (known may : Knows) → Allows known may → (n : ℕ) (names : Names) (k : ℕ) (ns : SlotNames) → AreAmong ns names → length ns ≤ n → k + length names ≤ n → AllFine n may (kept_goals names k ns)
unfolding kept_goals AreAmong
kept-fine known may allows n [] k ns are wide room = fine-none n may
kept-fine known may allows n (name ∷ names) k ns are wide room =
    fine-first n may _ _
    (fine-apply n may itself_name (Tree.var k ∷ []) (slot_for name ns) (one-below n k (omega (arith, room))) (omega (arith, wide, among-room name ns are.0 are.1)) (allows.tables itself_name 1 itself-there))
    (kept-fine known may allows n names (suc k) ns are.2 wide (omega (arith, room)))

-- its helper may be called
abbrev pub Enters : Knows → Loop → ℕ → Type 0
Enters may l first = IsTrue (may.predicate l.name (first + (length l.shared + length l.kept)))

entered-fine : (known may : Knows) → Allows known may → (n : ℕ) (l : Loop) (goals : List GoalTree) (first : List Tree) (ns : SlotNames) → AllFine n may goals → TreesBelow n (trees_of first) → Enters may l (length first) → AreAmong ns l.shared → AreAmong ns l.kept →
    length (with_values l.kept ns) ≤ n → AllFine n may (entered l goals first ns).goals
entered-fine known may allows n l goals first ns before below enters shared kept room =
    fine-append n may goals _ before
    (fine-first n may _ _
    (fine-call n may l.name ((first ++ slots_for_names l.shared ns) ++ slots_from (length ns) (length l.kept))
    (both-below n (first ++ slots_for_names l.shared ns) (slots_from (length ns) (length l.kept)) (both-below n first (slots_for_names l.shared ns) below (names-below l.shared ns n shared wide)) (slots-below (length ns) (length l.kept) n enough))
    (subst (λ (k : ℕ). IsTrue (may.predicate l.name k)) (sym long) enters))
    (kept-fine known may allows n l.kept (length ns) ns kept wide enough))
  where
    wide : length ns ≤ n
    wide = omega (arith, room, values-long l.kept ns)

    enough : length ns + length l.kept ≤ n
    enough = omega (arith, room, values-long l.kept ns)

    long : length ((first ++ slots_for_names l.shared ns) ++ slots_from (length ns) (length l.kept)) ≡ length first + (length l.shared + length l.kept)
    long = length-append (first ++ slots_for_names l.shared ns) (slots_from (length ns) (length l.kept))
        ∙ omega (arith, length-append first (slots_for_names l.shared ns), names-count l.shared ns, slots-count (length ns) (length l.kept))

started-longer : (h : ℕ) (before : Names) (ns : SlotNames) → length ns ≤ length (started h before ns).names
started-longer h before ns = grows-length ns _ (term-grows (array (as_written before)) ns)

pub started-fine : (known may : Knows) → Allows known may → (n h : ℕ) (before : Names) (ns : SlotNames) → length (started h before ns).names ≤ n → AllFine n may (started h before ns).goals
started-fine known may allows n h before ns room = fine-filled n known may allows h (array (as_written before)) ns room

-- a `while`, a `do`, or a loop that begins with a test
pub good-loop : {known : Knows} {ps : List PredTree} (h : ℕ) (before : Names) (l : Loop) → AreAmong before l.shared → AreAmong before l.kept → GoodHelpers known ps → ((may : Knows) → Has may ps → Enters may l 0) → GoodGoals known ps (λ ns. loop_goals h before l ns)
good-loop {known} {ps} h before l shared kept helpers enters = record {
  longer = λ ns. omega (arith, started-longer h before ns, values-long l.kept (started h before ns).names);
  fine = λ may allows has n ns room.
      entered-fine known may allows n l (started h before ns).goals [] (started h before ns).names (started-fine known may allows n h before ns (omega (arith, room, values-long l.kept (started h before ns).names))) (none-below n)
      (enters may has) (started-among h before l.shared ns shared) (started-among h before l.kept ns kept) room;
  helpers = helpers;
}

-- ---- iterators over lists and arrays

pub good-iterator : {known : Knows} {over ps : List PredTree} {collection : SlotNames → SlotValue} (h : ℕ) (before : Names) (l : Loop) → AreAmong before l.shared → AreAmong before l.kept → GoodValue known over collection → GoodHelpers known ps →
    ((may : Knows) → Has may ps → Has may over) → ((may : Knows) → Has may ps → Enters may l 3) → GoodGoals known ps (λ ns. iterator_goals h before l collection ns)
good-iterator {known} {over} {ps} {collection} h before l shared kept is helpers there enters = record {
  longer = λ ns. omega (arith, started-longer h before ns, long ns, enough ns, values-long l.kept (behind ns));
  fine = λ may allows has n ns room.
      let ms : SlotNames = (started h before ns).names in
      let v : SlotValue = collection (only before ms) in
      let wide : length v.names + 2 ≤ n = omega (arith, room, long ns, values-long l.kept (behind ns)) in
      entered-fine known may allows n l ((started h before ns).goals ++ (walked ms v).goals) (v.tree ∷ Tree.int (pos 1) ∷ Tree.var (length (behind ns) - 1) ∷ []) (behind ns)
      (fine-append n may (started h before ns).goals (walked ms v).goals (started-fine known may allows n h before ns (omega (arith, wide, enough ns)))
      (fine-append n may v.goals _ (is.fine may allows (there may has) n (only before ms) (omega (arith, wide)))
      (fine-first n may _ (apply (codes "+") (Tree.var (length v.names) ∷ Tree.int (pos 1) ∷ []) (suc (length v.names)) ∷ [])
      (fine-apply n may (codes "length") (v.tree ∷ []) (length v.names) (front-below n v.tree no_trees (is.below n (only before ms) (omega (arith, wide))) (none-below n)) (omega (arith, wide)) (allows.tables (codes "length") 1 length-there))
      (fine-one n may _
      (fine-apply n may (codes "+") (Tree.var (length v.names) ∷ Tree.int (pos 1) ∷ []) (suc (length v.names)) (pair-below n _ _ (var-below n (length v.names) (omega (arith, wide))) (int-below n (pos 1))) (omega (arith, wide))
      (allows.tables (codes "+") 2 plus-there))))))
      (front-below n v.tree _ (is.below n (only before ms) (omega (arith, wide))) (pair-below n (Tree.int (pos 1)) (Tree.var (length (behind ns) - 1)) (int-below n (pos 1)) (var-below n _ (omega (arith, wide, long ns))))) (enters may has)
      (among-behind l.shared ms (with_value (with_value v.names)) (started-among h before l.shared ns shared)) (among-behind l.kept ms (with_value (with_value v.names)) (started-among h before l.kept ns kept)) room;
  helpers = helpers;
}
  where
    value : SlotNames → SlotValue
    value ns = collection (only before (started h before ns).names)

    behind : SlotNames → SlotNames
    behind ns = behind_collection (started h before ns).names (with_value (with_value (collection (only before (started h before ns).names)).names))

    enough : (ns : SlotNames) → length (started h before ns).names ≤ length (collection (only before (started h before ns).names)).names
    enough ns = omega (arith, only-long before (started h before ns).names, is.longer (only before (started h before ns).names))

    two : (ms : SlotNames) → length (with_value (with_value ms)) ≡ length ms + 2
    two ms = value-long (with_value ms) ∙ omega (arith, value-long ms)

    long : (ns : SlotNames) → length (behind_collection (started h before ns).names (with_value (with_value (collection (only before (started h before ns).names)).names))) ≡ length (collection (only before (started h before ns).names)).names + 2
    long ns =
        let ks : SlotNames = (collection (only before (started h before ns).names)).names in
        behind-long (started h before ns).names (with_value (with_value ks)) (omega (arith, enough ns, two ks)) ∙ two ks

-- ---- iterators over ranges

low-below : (n : ℕ) (ts : List Tree) → TreesBelow n (trees_of ts) → SpeaksBelow n (low_of ts)
low-below n [] below = atom-below n []
low-below n (low ∷ ts) below = first-of n low (trees_of ts) below

step-below : (n : ℕ) (ts : List Tree) → TreesBelow n (trees_of ts) → SpeaksBelow n (step_of ts)
step-below n [] below = int-below n (pos 1)
step-below n (low ∷ []) below = int-below n (pos 1)
step-below n (low ∷ high ∷ []) below = int-below n (pos 1)
step-below n (low ∷ step ∷ high ∷ ts) below = first-of n step _ (rest-of n low _ below)

high-below : (n : ℕ) (ts : List Tree) → TreesBelow n (trees_of ts) → SpeaksBelow n (high_of ts)
high-below n [] below = atom-below n []
high-below n (low ∷ []) below = atom-below n []
high-below n (low ∷ high ∷ []) below = first-of n high _ (rest-of n low _ below)
high-below n (low ∷ step ∷ high ∷ ts) below = first-of n high _ (rest-of n step _ (rest-of n low _ below))

least-fine : (known may : Knows) → Allows known may → (n : ℕ) (t : Tree) (k : ℕ) → SpeaksBelow n t → k < n → AllFine n may (apply (codes "min") (t ∷ t ∷ []) k ∷ [])
least-fine known may allows n t k below less = fine-one n may _ (fine-apply n may (codes "min") (t ∷ t ∷ []) k (pair-below n t t below below) less (allows.tables (codes "min") 2 min-there))

number-fine : (known may : Knows) → Allows known may → (n : ℕ) (t : Tree) (k : ℕ) → SpeaksBelow n t → k < n → AllFine n may (number_goals t k)
number-fine known may allows n (Tree.int i) k below less = fine-none n may
number-fine known may allows n (Tree.var j) k below less = least-fine known may allows n (Tree.var j) k below less
number-fine known may allows n (Tree.atom name) k below less = least-fine known may allows n (Tree.atom name) k below less
number-fine known may allows n (comp name ts) k below less = least-fine known may allows n (comp name ts) k below less

number-below : (n : ℕ) (t : Tree) (k : ℕ) → k < n → SpeaksBelow n (number_tree t k)
number-below n (Tree.int i) k less = int-below n i
number-below n (Tree.var j) k less = var-below n k less
number-below n (Tree.atom name) k less = var-below n k less
number-below n (comp name ts) k less = var-below n k less

pub good-range : {known : Knows} {over ps : List PredTree} {bounds : SlotNames → SlotValues} (h : ℕ) (before : Names) (l : Loop) → AreAmong before l.shared → AreAmong before l.kept → GoodValues known over bounds → GoodHelpers known ps →
    ((may : Knows) → Has may ps → Has may over) → ((may : Knows) → Has may ps → Enters may l 3) → GoodGoals known ps (λ ns. range_goals h before l bounds ns)
good-range {known} {over} {ps} {bounds} h before l shared kept is helpers there enters = record {
  longer = λ ns. omega (arith, started-longer h before ns, long ns, enough ns, values-long l.kept (behind ns));
  fine = λ may allows has n ns room.
      let ms : SlotNames = (started h before ns).names in
      let vs : SlotValues = bounds (only before ms) in
      let k : ℕ = length vs.names in
      let wide : k + 3 ≤ n = omega (arith, room, long ns, values-long l.kept (behind ns)) in
      let terms : TreesBelow n (trees_of vs.trees) = is.below n (only before ms) (omega (arith, wide)) in
      let low : SpeaksBelow n (low_of vs.trees) = low-below n vs.trees terms in
      let step : SpeaksBelow n (step_of vs.trees) = step-below n vs.trees terms in
      let r : SlotRange = range_of vs in
      entered-fine known may allows n l ((started h before ns).goals ++ (vs.goals ++ counting r)) (first_turn r) (behind ns)
      (fine-append n may (started h before ns).goals (vs.goals ++ counting r) (started-fine known may allows n h before ns (omega (arith, wide, enough ns)))
      (fine-append n may vs.goals (counting r) (is.fine may allows (there may has) n (only before ms) (omega (arith, wide)))
      (fine-first n may _ (number_goals r.low (suc k) ++ number_goals r.step (suc (suc k)))
      (fine-apply n may range_count_name (r.low ∷ comp array_name (trees_of (r.step ∷ r.high ∷ [])) ∷ []) k
      (pair-below n r.low _ low (comp-below n array_name _ (pair-below n r.step r.high step (high-below n vs.trees terms)))) (omega (arith, wide)) (allows.tables range_count_name 2 range-count-there))
      (fine-append n may (number_goals r.low (suc k)) (number_goals r.step (suc (suc k))) (number-fine known may allows n r.low (suc k) low (omega (arith, wide))) (number-fine known may allows n r.step (suc (suc k)) step (omega (arith, wide)))))))
      (front-below n _ _ (number-below n r.low (suc k) (omega (arith, wide))) (pair-below n (Tree.var k) (number_tree r.step (suc (suc k))) (var-below n k (omega (arith, wide))) (number-below n r.step (suc (suc k)) (omega (arith, wide))))) (enters may has)
      (among-behind l.shared ms (with_value (with_value (with_value vs.names))) (started-among h before l.shared ns shared)) (among-behind l.kept ms (with_value (with_value (with_value vs.names))) (started-among h before l.kept ns kept)) room;
  helpers = helpers;
}
  where
    behind : SlotNames → SlotNames
    behind ns = behind_range (started h before ns).names (range_of (bounds (only before (started h before ns).names)))

    enough : (ns : SlotNames) → length (started h before ns).names ≤ length (bounds (only before (started h before ns).names)).names
    enough ns = omega (arith, only-long before (started h before ns).names, is.longer (only before (started h before ns).names))

    three : (ms : SlotNames) → length (with_value (with_value (with_value ms))) ≡ length ms + 3
    three ms = value-long (with_value (with_value ms)) ∙ omega (arith, value-long (with_value ms), value-long ms)

    long : (ns : SlotNames) → length (behind_range (started h before ns).names (range_of (bounds (only before (started h before ns).names)))) ≡ length (bounds (only before (started h before ns).names)).names + 3
    long ns =
        let ks : SlotNames = (bounds (only before (started h before ns).names)).names in
        behind-long (started h before ns).names (with_value (with_value (with_value ks))) (omega (arith, enough ns, three ks)) ∙ three ks
