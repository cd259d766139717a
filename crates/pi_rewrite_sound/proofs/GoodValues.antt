-- What expressions of a text are lowered to: values that are fine wherever they stand, with good helpers.
use Rattle.std.proofs.Common.{◌≡◌, ℕ, ◌+◌, ◌≤◌, ◌<◌, Bool, true, false, cond, List, [], ◌∷◌, ◌++◌, length, refl, sym, subst, arith, length-append, append_assoc, nat_lt}
use Rattle.std.specs.Prelude.{Option, Some, None, codes, IsTrue}
use Rattle.std.proofs.lemmas.List.{append-nil}
use Rattle.pi_terms.specs.Tree.{Tree, Trees, no_trees, trees_of, comp}
use Rattle.pi_constraints.specs.State.{SpeaksBelow}
use Rattle.pi_constraints.proofs.KeepsLemmas.{TreesBelow}
use Rattle.pi_meaning.specs.Shared.Effects.{is_value_name}
use Rattle.pi_effects.specs.Indexing.{index_name}
use Rattle.pi_effects.specs.Inner.{itself_name}
use Rattle.pi_syntax.specs.ExpTree.{ExpTree}
use Rattle.pi_core.specs.GoalTree.{GoalTree, truth, fail, call, apply, collect, count}
use Rattle.pi_core.specs.CoreTree.{PredTree}
use Rattle.pi_rewrite_spec.specs.Forms.{Knows}
use Rattle.pi_rewrite_spec.specs.Slots.{SlotNames, unnamed, slot_for, with_value}
use Rattle.pi_meaning.specs.OverNames.Forms.{Reading, plain}
use Rattle.pi_rewrite_spec.specs.Values.{SlotValue, SlotValues, slot_term, is_flat_as, as_it_stands, is_below, evaluating, filling, filled_before, last_value_as, value_before_as, value_before, value_by_as, no_values, before_values, value_of_parts, value_onto, applied, Slotted, slotted}
use Rattle.pi_rewrite_spec.specs.Goals.{SlotGoals, in_turn, no_value, called, assigned, found_by, all_counted, indexed, indexed_by, two_parts, three_parts}
use Rattle.pi_rewrite_spec.specs.Written.{pair_values, three_values, ahead}
use Rattle.pi_rewrite_spec.proofs.AgreeLemmas.{grows-length, grows-for}
use Rattle.pi_rewrite_spec.proofs.TermLemmas.{name-room, term-grows}
use Rattle.pi_rewrite_laws.proofs.BelowLemmas.{none-below, front-below, var-below, below-var, atom-below, items-below}
use Rattle.pi_rewrite_laws.proofs.SlotTerms.{term-below}
use Rattle.pi_rewrite_sound.proofs.FineGoals.{Fine, AllFine, fine-none, fine-one, fine-append, fine-turn, fine-truth, fine-fail, fine-call, fine-apply, fine-collect, fine-count, fine-catch}
use Rattle.pi_rewrite_sound.proofs.GivenNames.{equals-there, item-there, itself-there}
use Rattle.pi_rewrite_sound.proofs.GoodHelpers.{Allows, has-first, has-last, GoodHelpers, no-helpers, both-helpers}
use Rattle.pi_rewrite_sound.proofs.GoodGoals.{GoodGoals, GoodValue, GoodValues}

-- ---- expressions with and without a call

pub good-none : {known : Knows} → GoodValue known [] no_value
good-none {known} = record {
  longer = λ ns. omega arith;
  fine = λ may allows has n ns room. fine-one n may fail (fine-fail n may);
  below = λ n ns room. atom-below n [];
  helpers = no-helpers known;
}

fine-filling : (n m : ℕ) (known may : Knows) → Allows known may → (t : Tree) → SpeaksBelow n t → Fine n may (filling m t)
fine-filling n m known may allows (Tree.var k) below = go (nat_lt k m)
  where
    go : (test : Bool) → Fine n may (cond test (evaluating (Tree.var k)) (call (codes "=") (Tree.var k ∷ Tree.var k ∷ [])))
    go true = fine-catch n may truth (Tree.var k) fail (fine-truth n may) below (fine-fail n may)
    go false = fine-call n may (codes "=") (Tree.var k ∷ Tree.var k ∷ []) (front-below n _ _ below (front-below n _ no_trees below (none-below n))) (allows.machine (codes "=") 2 equals-there)
fine-filling n m known may allows (Tree.int i) below = fine-catch n may truth (Tree.int i) fail (fine-truth n may) below (fine-fail n may)
fine-filling n m known may allows (Tree.atom name) below = fine-catch n may truth (Tree.atom name) fail (fine-truth n may) below (fine-fail n may)
fine-filling n m known may allows (comp name ts) below = fine-catch n may truth (comp name ts) fail (fine-truth n may) below (fine-fail n may)

pub fine-filled : (n : ℕ) (known may : Knows) → Allows known may → (h : ℕ) (e : ExpTree) (ns : SlotNames) → length (slot_term e ns).names ≤ n → AllFine n may (filled_before h (length ns) (slot_term e ns)).goals
fine-filled n known may allows h e ns room = go (is_below h (slot_term e ns).tree)
  where
    go : (test : Bool) → AllFine n may (cond test [] (filling (length ns) (slot_term e ns).tree ∷ []))
    go true = fine-none n may
    go false = fine-one n may _ (fine-filling n (length ns) known may allows (slot_term e ns).tree (term-below e ns n room))

term-longer : (e : ExpTree) (ns : SlotNames) → length ns ≤ length (slot_term e ns).names
term-longer e ns = grows-length ns _ (term-grows e ns)

flat-fine : {known : Knows} {ps : List PredTree} → GoodHelpers known ps → (e : ExpTree) → GoodValue known ps (λ ns. as_it_stands (slot_term e ns))
flat-fine good e = record { longer = term-longer e; fine = λ may allows has n ns room. fine-none n may; below = λ n ns room. term-below e ns n room; helpers = good }

filled-fine : {known : Knows} {ps : List PredTree} → GoodHelpers known ps → (h : ℕ) (e : ExpTree) → GoodValue known ps (λ ns. filled_before h (length ns) (slot_term e ns))
filled-fine {known} good h e = record { longer = term-longer e; fine = λ may allows has n ns room. fine-filled n known may allows h e ns room; below = λ n ns room. term-below e ns n room; helpers = good }

pub good-last : {known : Knows} {ps : List PredTree} {f : SlotNames → SlotValue} (r : Reading) (e : ExpTree) → GoodValue known ps f → GoodValue known ps (λ ns. last_value_as r e ns (f ns))
good-last {known} {ps} {f} r e is = go (is_flat_as r e)
  where
    go : (test : Bool) → GoodValue known ps (λ ns. cond test (as_it_stands (slot_term e ns)) (f ns))
    go true = flat-fine is.helpers e
    go false = is

pub good-before : {known : Knows} {ps : List PredTree} {f : SlotNames → SlotValue} (r : Reading) (h : ℕ) (e : ExpTree) → GoodValue known ps f → GoodValue known ps (λ ns. value_before_as r h e ns (f ns))
good-before {known} {ps} {f} r h e is = go (is_flat_as r e)
  where
    go : (test : Bool) → GoodValue known ps (λ ns. cond test (filled_before h (length ns) (slot_term e ns)) (f ns))
    go true = filled-fine is.helpers h e
    go false = is

pub good-by : {known : Knows} {ps : List PredTree} {f : SlotNames → SlotValue} (r : Reading) (test : Bool) (h : ℕ) (e : ExpTree) → GoodValue known ps f → GoodValue known ps (λ ns. value_by_as r test h e ns (f ns))
good-by r true h e is = good-last r e is
good-by r false h e is = good-before r h e is

-- ---- parts and arguments

pub good-no-values : {known : Knows} → GoodValues known [] no_values
good-no-values {known} = record { longer = λ ns. omega arith; fine = λ may allows has n ns room. fine-none n may; below = λ n ns room. none-below n; helpers = no-helpers known }

pub good-front : {known : Knows} {ps qs : List PredTree} {v : SlotNames → SlotValue} {vs : SlotNames → SlotValues} → GoodValue known ps v → GoodValues known qs vs → GoodValues known (ps ++ qs) (λ ns. before_values (v ns) (vs (v ns).names))
good-front {known} {ps} {qs} {v} {vs} is are = record {
  longer = λ ns. omega (arith, is.longer ns, are.longer (v ns).names);
  fine = λ may allows has n ns room.
      fine-append n may (v ns).goals (vs (v ns).names).goals (is.fine may allows (has-first may ps qs has) n ns (omega (arith, room, are.longer (v ns).names))) (are.fine may allows (has-last may ps qs has) n (v ns).names room);
  below = λ n ns room. front-below n (v ns).tree (trees_of (vs (v ns).names).trees) (is.below n ns (omega (arith, room, are.longer (v ns).names))) (are.below n (v ns).names room);
  helpers = both-helpers known ps qs is.helpers are.helpers;
}

-- the last one
pub good-alone : {known : Knows} {ps : List PredTree} {v : SlotNames → SlotValue} → GoodValue known ps v → GoodValues known ps (λ ns. before_values (v ns) (no_values (v ns).names))
good-alone {known} {ps} {v} is = record {
  longer = is.longer;
  fine = λ may allows has n ns room. fine-append n may (v ns).goals [] (is.fine may allows has n ns room) (fine-none n may);
  below = λ n ns room. front-below n (v ns).tree no_trees (is.below n ns room) (none-below n);
  helpers = is.helpers;
}

-- two and three, of which the last is evaluated where they are used
pub pair-good : {known : Knows} {ps qs : List PredTree} {f g : SlotNames → SlotValue} (h : ℕ) (first last : ExpTree) (test : Bool) → GoodValue known ps f → GoodValue known qs g → GoodValues known (ps ++ qs) (λ ns. pair_values h (ahead first f test) last g ns)
pair-good h first last test one two = good-front (good-by plain test h first one) (good-alone (good-last plain last two))

pub three-good : {known : Knows} {ps qs rs : List PredTree} {f g k : SlotNames → SlotValue} (h : ℕ) (first step last : ExpTree) (a c : Bool) → GoodValue known ps f → GoodValue known qs g → GoodValue known rs k →
    GoodValues known (ps ++ (qs ++ rs)) (λ ns. three_values h (ahead first f a) (ahead step g c) last k ns)
three-good h first step last a c one two three = good-front (good-by plain a h first one) (pair-good h step last c two three)

pub good-parts : {known : Knows} {ps : List PredTree} {vs : SlotNames → SlotValues} (make : Trees → Tree) → ((n : ℕ) (ts : Trees) → TreesBelow n ts → SpeaksBelow n (make ts)) → GoodValues known ps vs → GoodValue known ps (λ ns. value_of_parts make (vs ns))
good-parts {known} {ps} {vs} make keeps are = record { longer = are.longer; fine = are.fine; below = λ n ns room. keeps n (trees_of (vs ns).trees) (are.below n ns room); helpers = are.helpers }

pub good-onto : {known : Knows} {ps qs : List PredTree} {vs : SlotNames → SlotValues} {v : SlotNames → SlotValue} → GoodValues known ps vs → GoodValue known qs v → GoodValue known (ps ++ qs) (λ ns. value_onto (vs ns) (v (vs ns).names))
good-onto {known} {ps} {qs} {vs} {v} are is = record {
  longer = λ ns. omega (arith, are.longer ns, is.longer (vs ns).names);
  fine = λ may allows has n ns room.
      fine-append n may (vs ns).goals (v (vs ns).names).goals (are.fine may allows (has-first may ps qs has) n ns (omega (arith, room, is.longer (vs ns).names))) (is.fine may allows (has-last may ps qs has) n (vs ns).names room);
  below = λ n ns room. items-below n (trees_of (vs ns).trees) (v (vs ns).names).tree (are.below n ns (omega (arith, room, is.longer (vs ns).names))) (is.below n (vs ns).names room);
  helpers = both-helpers known ps qs are.helpers is.helpers;
}

-- of a range that stays, each is evaluated before it is used
pub kept-good : {known : Knows} {ps qs : List PredTree} {f g : SlotNames → SlotValue} (h : ℕ) (first last : ExpTree) → GoodValue known ps f → GoodValue known qs g →
    GoodValues known (ps ++ qs) (λ ns. two_parts (value_before h first ns (f ns)) (λ ms. value_before h last ms (g ms)))
kept-good h first last one two = good-front (good-before plain h first one) (good-alone (good-before plain h last two))

pub kept-three : {known : Knows} {ps qs rs : List PredTree} {f g k : SlotNames → SlotValue} (h : ℕ) (first step last : ExpTree) → GoodValue known ps f → GoodValue known qs g → GoodValue known rs k →
    GoodValues known (ps ++ (qs ++ rs)) (λ ns. three_parts (value_before h first ns (f ns)) (λ ms. value_before h step ms (g ms)) (λ ms. value_before h last ms (k ms)))
kept-three h first step last one two three = good-front (good-before plain h first one) (kept-good h step last two three)

-- ---- calls

-- a value that a goal puts into the next slot
pub value-long : (ns : SlotNames) → length (with_value ns) ≡ length ns + 1
value-long ns = length-append ns (unnamed ∷ [])

pub good-called : {known : Knows} {ps : List PredTree} {vs : SlotNames → SlotValues} (name : List ℕ) (k : ℕ) → GoodValues known ps vs → ((ns : SlotNames) → length (vs ns).trees ≡ k) → ((may : Knows) → Allows known may → IsTrue (may.predicate name k)) →
    GoodGoals known ps (λ ns. called name (vs ns))
good-called {known} {ps} {vs} name k are long there = record {
  longer = are.longer;
  fine = λ may allows has n ns room.
      fine-append n may (vs ns).goals (call name (vs ns).trees ∷ []) (are.fine may allows has n ns room)
      (fine-one n may (call name (vs ns).trees) (fine-call n may name (vs ns).trees (are.below n ns room) (subst (λ (j : ℕ). IsTrue (may.predicate name j)) (sym (long ns)) (there may allows))));
  helpers = are.helpers;
}

pub good-applied : {known : Knows} {ps : List PredTree} {vs : SlotNames → SlotValues} (name : List ℕ) (k : ℕ) → GoodValues known ps vs → ((ns : SlotNames) → length (vs ns).trees ≡ k) → ((may : Knows) → Allows known may → IsTrue (may.function name k)) →
    GoodValue known ps (λ ns. applied name (vs ns))
good-applied {known} {ps} {vs} name k are long there = record {
  longer = λ ns. omega (arith, are.longer ns, value-long (vs ns).names);
  fine = λ may allows has n ns room.
      let less : length (vs ns).names < n = omega (arith, room, value-long (vs ns).names) in
      fine-append n may (vs ns).goals (apply name (vs ns).trees (length (vs ns).names) ∷ []) (are.fine may allows has n ns (omega (arith, less)))
      (fine-one n may (apply name (vs ns).trees (length (vs ns).names))
      (fine-apply n may name (vs ns).trees (length (vs ns).names) (are.below n ns (omega (arith, less))) less (subst (λ (j : ℕ). IsTrue (may.function name j)) (sym (long ns)) (there may allows))));
  below = λ n ns room. var-below n (length (vs ns).names) (omega (arith, room, value-long (vs ns).names));
  helpers = are.helpers;
}

-- one that the tables have
pub good-table : {known : Knows} {ps : List PredTree} {vs : SlotNames → SlotValues} (name : List ℕ) (k : ℕ) → GoodValues known ps vs → ((ns : SlotNames) → length (vs ns).trees ≡ k) → IsTrue (is_value_name name k) → GoodValue known ps (λ ns. applied name (vs ns))
good-table name k are long there = good-applied name k are long (λ may allows. allows.tables name k there)

-- ---- a value that goes into a slot

item-fine : (known may : Knows) → Allows known may → (n : ℕ) (goals : List GoalTree) (t : Tree) (k : ℕ) → AllFine n may goals → SpeaksBelow n t → k < n → AllFine n may (goals ++ apply itself_name (t ∷ []) k ∷ [])
item-fine known may allows n goals t k are below less =
    fine-append n may goals (apply itself_name (t ∷ []) k ∷ []) are (fine-one n may (apply itself_name (t ∷ []) k)
    (fine-apply n may itself_name (t ∷ []) k (front-below n t no_trees below (none-below n)) less (allows.tables itself_name 1 itself-there)))

pub good-assigned : {known : Knows} {ps : List PredTree} {v : SlotNames → SlotValue} (variable : Option (List ℕ)) → GoodValue known ps v → GoodGoals known ps (λ ns. assigned variable (v ns))
good-assigned {known} {ps} {v} None is = record {
  longer = is.longer;
  fine = λ may allows has n ns room. fine-append n may (v ns).goals (fail ∷ []) (is.fine may allows has n ns room) (fine-one n may fail (fine-fail n may));
  helpers = is.helpers;
}
good-assigned {known} {ps} {v} (Some name) is = record {
  longer = λ ns. omega (arith, is.longer ns, grows-length (v ns).names _ (grows-for name (v ns).names));
  fine = λ may allows has n ns room.
      let fits : length (v ns).names ≤ n = omega (arith, room, grows-length (v ns).names _ (grows-for name (v ns).names)) in
      item-fine known may allows n (v ns).goals (v ns).tree (slot_for name (v ns).names) (is.fine may allows has n ns fits) (is.below n ns fits) (name-room name (v ns).names n room);
  helpers = is.helpers;
}

-- ---- `find_all` and `count_all`

slotted-longer : (goals : List GoalTree) (t : Tree) (ns : SlotNames) → length ns ≤ length (slotted goals t ns).names
slotted-longer goals (Tree.var k) ns = omega arith
slotted-longer goals (Tree.int i) ns = omega (arith, value-long ns)
slotted-longer goals (Tree.atom name) ns = omega (arith, value-long ns)
slotted-longer goals (comp name ts) ns = omega (arith, value-long ns)

slotted-fine : (known may : Knows) → Allows known may → (n : ℕ) (goals : List GoalTree) (t : Tree) (ns : SlotNames) → AllFine n may goals → SpeaksBelow n t → length (slotted goals t ns).names ≤ n →
    AllFine n may (slotted goals t ns).goals × ((slotted goals t ns).place < n)
slotted-fine known may allows n goals (Tree.var k) ns are below room = (are, below-var n k below)
slotted-fine known may allows n goals (Tree.int i) ns are below room =
    let less : length ns < n = omega (arith, room, value-long ns) in (item-fine known may allows n goals (Tree.int i) (length ns) are below less, less)
slotted-fine known may allows n goals (Tree.atom name) ns are below room =
    let less : length ns < n = omega (arith, room, value-long ns) in (item-fine known may allows n goals (Tree.atom name) (length ns) are below less, less)
slotted-fine known may allows n goals (comp name ts) ns are below room =
    let less : length ns < n = omega (arith, room, value-long ns) in (item-fine known may allows n goals (comp name ts) (length ns) are below less, less)

pub good-found : {known : Knows} {ps qs : List PredTree} {g : SlotNames → SlotGoals} {v : SlotNames → SlotValue} → GoodGoals known ps g → GoodValue known qs v → GoodValue known (ps ++ qs) (λ ns. found_by (g ns) v)
good-found {known} {ps} {qs} {g} {v} is gives = record {
  longer = λ ns.
      let w : SlotValue = v (g ns).names in
      omega (arith, is.longer ns, gives.longer (g ns).names, slotted-longer w.goals w.tree w.names, value-long (slotted w.goals w.tree w.names).names);
  fine = λ may allows has n ns room.
      let ms : SlotNames = (g ns).names in
      let w : Slotted = slotted (v ms).goals (v ms).tree (v ms).names in
      let less : length w.names < n = omega (arith, room, value-long w.names) in
      let room-v : length (v ms).names ≤ n = omega (arith, less, slotted-longer (v ms).goals (v ms).tree (v ms).names) in
      let room-m : length ms ≤ n = omega (arith, room-v, gives.longer ms) in
      let inside : AllFine n may w.goals × (w.place < n) =
      slotted-fine known may allows n (v ms).goals (v ms).tree (v ms).names (gives.fine may allows (has-last may ps qs has) n ms room-v) (gives.below n ms room-v) (omega (arith, less)) in
      fine-one n may (collect (in_turn ((g ns).goals ++ w.goals)) w.place (length w.names))
      (fine-collect n may (in_turn ((g ns).goals ++ w.goals)) w.place (length w.names)
      (fine-turn n may ((g ns).goals ++ w.goals) (fine-append n may (g ns).goals w.goals (is.fine may allows (has-first may ps qs has) n ns room-m) inside.0)) inside.1 less);
  below = λ n ns room.
      let w : SlotValue = v (g ns).names in
      var-below n (length (slotted w.goals w.tree w.names).names) (omega (arith, room, value-long (slotted w.goals w.tree w.names).names));
  helpers = both-helpers known ps qs is.helpers gives.helpers;
}

pub good-counted : {known : Knows} {ps : List PredTree} {g : SlotNames → SlotGoals} → GoodGoals known ps g → GoodValue known ps (λ ns. all_counted (g ns))
good-counted {known} {ps} {g} is = record {
  longer = λ ns. omega (arith, is.longer ns, value-long (g ns).names);
  fine = λ may allows has n ns room.
      let less : length (g ns).names < n = omega (arith, room, value-long (g ns).names) in
      fine-one n may (count (in_turn (g ns).goals) (length (g ns).names))
      (fine-count n may (in_turn (g ns).goals) (length (g ns).names) (fine-turn n may (g ns).goals (is.fine may allows has n ns (omega (arith, less)))) less);
  below = λ n ns room. var-below n (length (g ns).names) (omega (arith, room, value-long (g ns).names));
  helpers = is.helpers;
}

-- ---- indexes

pub data GoodIndexes (known : Knows) : List PredTree → List (SlotNames → SlotValue) → Type 0 where
  no_indexes : GoodIndexes known [] []
  one_index : (ps qs : List PredTree) (v : SlotNames → SlotValue) (vs : List (SlotNames → SlotValue)) → GoodValue known ps v → GoodIndexes known qs vs → GoodIndexes known (ps ++ qs) (v ∷ vs)

pub good-indexed : {known : Knows} {ps qs : List PredTree} {vs : List (SlotNames → SlotValue)} → GoodIndexes known qs vs → (v : SlotNames → SlotValue) → GoodValue known ps v → GoodValue known (ps ++ qs) (λ ns. indexed_by (v ns) vs)
unfolding indexed_by
good-indexed {known = known} {ps = ps} no_indexes v is = subst (λ (xs : List PredTree). GoodValue known xs v) (sym (append-nil ps)) is
good-indexed {known = known} {ps = ps} (one_index qs rs i vs one rest) v is =
    subst (λ (xs : List PredTree). GoodValue known xs (λ ns. indexed_by (v ns) (i ∷ vs))) (append_assoc ps qs rs)
    (good-indexed rest (λ ns. indexed (v ns) i) (good-table index_name 2 (good-front is (good-alone one)) (λ ns. refl) item-there))
