-- Values of built-in functions that leave the state as it is speak of variables that were made, table by table.
use Rattle.std.proofs.Common.{ℕ, ℤ, List, [], ◌∷◌, map, reverse}
use Rattle.std.specs.Prelude.{nat_lt, ◌&&◌, Bool, true, false, cond, Err, not, Option, Some, None, option_map, pos, zero, suc, negsuc, slice_get, zip, Ok, unwrap_or}
use Rattle.std.specs.Int.{int_min, int_max}
use Rattle.std.specs.Char.{encode_utf8}
use Rattle.std.specs.Str.{chars}
use Rattle.std.specs.List.{last_or}
use Rattle.std.specs.Ordering.{is_lt}
use Rattle.std.proofs.lemmas.List.Sorted.{IsPermutation-reverse}
use Rattle.pi_terms.specs.Tree.{Tree, int, atom, cells, most_cells}
use Rattle.pi_constraints.specs.Value.{Bindings, value}
use Rattle.pi_constraints.specs.State.{State, bindings, next, followed, SpeaksBelow, IsState}
use Rattle.pi_effects.specs.Range.{has_128_bits}
use Rattle.pi_effects.specs.Value.{value_of}
use Rattle.pi_effects.specs.declared.arith_fault.ArithFault.TheVariants.{Overflow}
use Rattle.pi_effects.specs.declared.operation.Op.{Op}
use Rattle.pi_effects.specs.declared.operation.Op.TheVariants.{Add, Sub, Mul, Quot, Floor, Ceil, Mod, Rem, Pow, ShiftLeft, ShiftRight, And, Or, Xor, Neg, Not, Abs, Sign}
use Rattle.pi_effects.specs.Answer.{Answer, found_or, or_raised, integer_then, integers_then}
use Rattle.pi_effects.specs.Exception.{term_too_large, bad_index, range_too_long}
use Rattle.pi_effects.specs.Items.{list_onto, list_of, array_of, cell_parts, list_items, collection_items, indexed_items}
use Rattle.pi_effects.specs.Comparing.{value_order, is_same}
use Rattle.pi_effects.specs.Integers.{fault_term, outcome_then, number, integer_functions}
use Rattle.pi_effects.specs.Collections.{list_then, collection_then, count, cell_part, item_or_first_index, joined, without, pair, total, collection_functions}
use Rattle.pi_effects.specs.Sorting.{sorted, each_once, lesser, greater, least, greatest, sorting_functions}
use Rattle.pi_effects.specs.Indexing.{item_at, indexed, index_functions}
use Rattle.pi_effects.specs.Ranges.{most_items, count_by, values_by, counted, counted_by, range, range_by, range_functions}
use Rattle.pi_effects.specs.Inner.{in_order, pair_parts, range_count, inner_functions}
use Rattle.pi_effects.specs.Naming.{name_at, arity_at, naming_functions}
use Rattle.pi_effects.specs.Texts.{text_list, text_functions}
use Rattle.pi_effects.specs.Rows.{Row}
use Rattle.pi_effects.specs.BuiltIns.{reading_functions}
use Rattle.pi_effects.proofs.SortLemmas.{sorting-keeps_items}
use Rattle.pi_constraints.proofs.FollowLemmas.{followed_below}
use Rattle.pi_constraints.proofs.StateLemmas.{bound_below}
use Rattle.pi_constraints.proofs.KeepsLemmas.{BindingsBelow, atom-below}
use Rattle.pi_meaning.proofs.CoreMeaning.ItemsBelow.{ItemsBelow, PairBelow, SomeBelow, SomePairBelow, SomeItemsBelow, chosen-below, array-below, onto-below, list-below, parts-below, name-below, arity-below, list-items-below, collection-items-below, indexed-items-below, permuted-below, filtered-below, mapped-below, pairs-below, item-below, numbered-below, last-below, reduced-below, values-below}
use Rattle.pi_meaning.proofs.CoreMeaning.AnswersBelow.{AnswerBelow, items-found-below, raised-below, unless-below, number-below, outcome-below, integer-below, integers-below, LinesKeep, ◌&◌, both-keep}

-- what is said of a table, where the state is one
abbrev pub TableKeeps : List (Row (Answer Tree)) → Type 0
TableKeeps rows = (s : State) → IsState s → LinesKeep (AnswerBelow (next s)) s rows

bindings-below : (s : State) → IsState s → BindingsBelow (next s) (bindings s)
bindings-below s is m u held = bound_below s m u is held

-- ---- integers

operation-below : (n : ℕ) (op : Op) (i j : ℤ) → AnswerBelow n (outcome_then (value_of op i j) number)
operation-below n op i j = outcome-below n (value_of op i j) number (number-below n)

one-integer : (s : State) (op : Op) (t : Tree) → SpeaksBelow (next s) t → AnswerBelow (next s) (integer_then s t (λ i. outcome_then (value_of op i (pos 0)) number))
one-integer s op t below = integer-below (next s) s t (λ i. outcome_then (value_of op i (pos 0)) number) (λ i. operation-below (next s) op i (pos 0))

two-integers : (s : State) (op : Op) (t u : Tree) → SpeaksBelow (next s) t → SpeaksBelow (next s) u →
    AnswerBelow (next s) (integers_then s t u (λ i j. outcome_then (value_of op i j) number))
two-integers s op t u below other = integers-below (next s) s t u (λ i j. outcome_then (value_of op i j) number) (operation-below (next s) op)

two-integers-always : (s : State) (f : ℤ → ℤ → ℤ) (t u : Tree) → SpeaksBelow (next s) t → SpeaksBelow (next s) u → AnswerBelow (next s) (integers_then s t u (λ i j. number (f i j)))
two-integers-always s f t u below other = integers-below (next s) s t u (λ i j. number (f i j)) (λ i j. number-below (next s) (f i j))

integers-keep : TableKeeps integer_functions
unfolding integer_functions
integers-keep s is =
    two-integers s Add &
    two-integers s Sub &
    two-integers s Mul &
    (λ t below. integer-below (next s) s t number (number-below (next s))) &
    one-integer s Neg &
    one-integer s Abs &
    one-integer s Sign &
    two-integers s Quot &
    two-integers s Floor &
    two-integers s Floor &
    two-integers s Ceil &
    two-integers s Mod &
    two-integers s Rem &
    two-integers s Pow &
    two-integers s ShiftRight &
    two-integers s ShiftLeft &
    two-integers s And &
    two-integers s Or &
    two-integers s Xor &
    one-integer s Not &
    two-integers-always s int_min &
    two-integers-always s int_max &
    tt

-- ---- collections

-- a function of items gives a value below for items below
abbrev ItemsKeep : ℕ → (List Tree → Answer Tree) → Type 0
ItemsKeep n f = (ts : List Tree) → ItemsBelow n ts → AnswerBelow n (f ts)

of-list : (s : State) → IsState s → (f : List Tree → Answer Tree) → ItemsKeep (next s) f → (t : Tree) → SpeaksBelow (next s) t → AnswerBelow (next s) (list_then s t f)
of-list s is f each t below = items-found-below (next s) (list_items (bindings s) t) _ f (list-items-below (next s) (bindings s) (bindings-below s is) t below) each

of-collection : (s : State) → IsState s → (f : List Tree → Answer Tree) → ItemsKeep (next s) f → (t : Tree) → SpeaksBelow (next s) t → AnswerBelow (next s) (collection_then s t f)
of-collection s is f each t below =
    items-found-below (next s) (collection_items (bindings s) t) _ f (collection-items-below (next s) (bindings s) (bindings-below s is) t below) each

part-below : (n : ℕ) (part : Tree × Tree → Tree) → ((p : Tree × Tree) → PairBelow n p → SpeaksBelow n (part p)) → (o : Option (Tree × Tree)) → SomePairBelow n o → SomeBelow n (option_map part o)
part-below n part each None both = tt
part-below n part each (Some p) both = each p both

cell-part-below : (s : State) → IsState s → (part : Tree × Tree → Tree) → ((p : Tree × Tree) → PairBelow (next s) p → SpeaksBelow (next s) (part p)) → (t : Tree) → SpeaksBelow (next s) t →
    AnswerBelow (next s) (cell_part part s t)
cell-part-below s is part each t below =
    let n : ℕ = next s in
    let b : Bindings = bindings s in
    let root : SomePairBelow n (cell_parts (followed b t)) = parts-below n (followed b t) (followed_below n b t (bindings-below s is) below) in
    of-list s is _ (λ ts all. raised-below n (option_map part (cell_parts (followed b t))) _ (part-below n part each (cell_parts (followed b t)) root)) t below

joined-below : (s : State) → IsState s → (t u : Tree) → SpeaksBelow (next s) t → SpeaksBelow (next s) u → AnswerBelow (next s) (joined s t u)
joined-below s is t u below other =
    of-list s is (λ ts. list_then s u (λ us. Ok (list_onto ts u))) (λ ts all. of-list s is (λ us. Ok (list_onto ts u)) (λ us rest. onto-below (next s) ts u all other) u other) t below

without-below : (s : State) → IsState s → (t u : Tree) → SpeaksBelow (next s) t → SpeaksBelow (next s) u →
    AnswerBelow (next s) (list_then s t (λ ts. Ok (list_of (without s u ts))))
without-below s is t u below other =
    of-list s is (λ ts. Ok (list_of (without s u ts))) (λ ts all. list-below (next s) (without s u ts) (filtered-below (next s) (λ x. not (is_same s x u)) ts all)) t below

zipped-below : (s : State) → IsState s → (t u : Tree) → SpeaksBelow (next s) t → SpeaksBelow (next s) u →
    AnswerBelow (next s) (list_then s t (λ ts. list_then s u (λ us. Ok (list_of (map pair (zip ts us))))))
zipped-below s is t u below other =
    of-list s is (λ ts. list_then s u (λ us. Ok (list_of (map pair (zip ts us)))))
    (λ ts all. of-list s is (λ us. Ok (list_of (map pair (zip ts us)))) (λ us others. list-below (next s) (map pair (zip ts us)) (pairs-below (next s) ts us all others)) u other) t below

total-below : (s : State) (op : Op) (sum : ℤ) (ts : List Tree) → AnswerBelow (next s) (total op s sum ts)
unfolding total
total-below s op sum [] = number-below (next s) sum
total-below s op sum (t ∷ ts) =
    integer-below (next s) s t (λ i. outcome_then (value_of op sum i) (λ more. total op s more ts))
    (λ i. outcome-below (next s) (value_of op sum i) (λ more. total op s more ts) (λ more. total-below s op more ts))

reversed-below : (n : ℕ) (ts : List Tree) → ItemsBelow n ts → ItemsBelow n (reverse ts)
reversed-below n ts all = permuted-below n ts (reverse ts) (IsPermutation-reverse ts) all

counted-below : (s : State) → ItemsKeep (next s) count
counted-below s ts all = number-below (next s) _

collections-keep : TableKeeps collection_functions
unfolding collection_functions
collections-keep s is =
    of-collection s is count (counted-below s) &
    of-collection s is count (counted-below s) &
    cell-part-below s is (λ p. p.0) (λ p both. both.0) &
    cell-part-below s is (λ p. p.1) (λ p both. both.1) &
    of-collection s is (λ ts. item_or_first_index (slice_get ts 0) s) (λ ts all. raised-below (next s) (slice_get ts 0) _ (item-below (next s) ts 0 all)) &
    of-collection s is (λ ts. item_or_first_index (last_or None ts) s) (λ ts all. raised-below (next s) (last_or None ts) _ (last-below (next s) None ts tt all)) &
    of-list s is (λ ts. Ok (list_of (reverse ts))) (λ ts all. list-below (next s) (reverse ts) (reversed-below (next s) ts all)) &
    joined-below s is &
    without-below s is &
    zipped-below s is &
    of-collection s is (total Add s (pos 0)) (λ ts all. total-below s Add (pos 0) ts) &
    of-collection s is (total Mul s (pos 1)) (λ ts all. total-below s Mul (pos 1) ts) &
    of-collection s is (λ ts. Ok (list_of ts)) (list-below (next s)) &
    of-collection s is (λ ts. Ok (array_of ts)) (array-below (next s)) &
    tt

-- ---- sorting

sorted-below : (n : ℕ) (s : State) (ts : List Tree) → ItemsBelow n ts → ItemsBelow n (sorted s ts)
sorted-below n s ts all = permuted-below n ts (sorted s ts) (sorting-keeps_items s ts) all

once-below : (n : ℕ) (s : State) (ts : List Tree) → ItemsBelow n ts → ItemsBelow n (each_once s ts)
unfolding each_once
once-below n s [] all = tt
once-below n s (t ∷ ts) all = (all.0, filtered-below n (λ u. not (is_same s t u)) (each_once s ts) (once-below n s ts all.1))

least-below : (n : ℕ) (s : State) (ts : List Tree) → ItemsBelow n ts → SomeBelow n (least s ts)
least-below n s ts all = reduced-below n (lesser s) (λ t u a b. chosen-below n (is_lt (value_order s u t)) u t b a) ts all

greatest-below : (n : ℕ) (s : State) (ts : List Tree) → ItemsBelow n ts → SomeBelow n (greatest s ts)
greatest-below n s ts all = reduced-below n (greater s) (λ t u a b. chosen-below n (is_lt (value_order s t u)) u t b a) ts all

sorting-keeps : TableKeeps sorting_functions
unfolding sorting_functions
sorting-keeps s is =
    of-list s is (λ ts. Ok (list_of (sorted s ts))) (λ ts all. list-below (next s) (sorted s ts) (sorted-below (next s) s ts all)) &
    of-list s is (λ ts. Ok (list_of (sorted s (each_once s ts))))
    (λ ts all. list-below (next s) (sorted s (each_once s ts)) (sorted-below (next s) s (each_once s ts) (once-below (next s) s ts all))) &
    of-list s is (λ ts. Ok (list_of (each_once s ts))) (λ ts all. list-below (next s) (each_once s ts) (once-below (next s) s ts all)) &
    of-collection s is (λ ts. item_or_first_index (least s ts) s) (λ ts all. raised-below (next s) (least s ts) _ (least-below (next s) s ts all)) &
    of-collection s is (λ ts. item_or_first_index (greatest s ts) s) (λ ts all. raised-below (next s) (greatest s ts) _ (greatest-below (next s) s ts all)) &
    tt

-- ---- indexes, ranges, names and texts

indexed-below : (s : State) → IsState s → (t i : Tree) → SpeaksBelow (next s) t → SpeaksBelow (next s) i → AnswerBelow (next s) (indexed s t i)
unfolding indexed
indexed-below s is t i below other =
    items-found-below (next s) (indexed_items (bindings s) t) _ (λ ts. integer_then s i (λ k. or_raised (item_at ts k) (bad_index i s)))
    (indexed-items-below (next s) (bindings s) (bindings-below s is) t below)
    (λ ts all. integer-below (next s) s i (λ k. or_raised (item_at ts k) (bad_index i s)) (λ k. raised-below (next s) (item_at ts k) _ (numbered-below (next s) ts k all)))

indexes-keep : TableKeeps index_functions
unfolding index_functions
indexes-keep s is =
    indexed-below s is & tt

where-below : (n : ℕ) (c : Bool) (ball : Tree) (a : Answer Tree) → AnswerBelow n a → AnswerBelow n (cond c a (Err ball))
where-below n true ball a below = below
where-below n false ball a below = tt

made-below : (n : ℕ) (make : ℕ → Tree) → ((count : ℕ) → SpeaksBelow n (make count)) → (low step high : ℤ) → AnswerBelow n (counted make low step high)
made-below n make each low step high =
    let count : ℕ = count_by low step high in
    unless-below n (nat_lt most_items count) range_too_long _ (where-below n (has_128_bits low && has_128_bits high) (fault_term Overflow) (Ok (make count)) (each count))

made-by-below : (n : ℕ) (make : ℕ → Tree) → ((count : ℕ) → SpeaksBelow n (make count)) → (low step high : ℤ) → AnswerBelow n (counted_by make low step high)
made-by-below n make each low (pos zero) high = tt
made-by-below n make each low (pos (suc k)) high = made-below n make each low (pos (suc k)) high
made-by-below n make each low (negsuc k) high = made-below n make each low (negsuc k) high

range-below : (n : ℕ) (low step high : ℤ) → AnswerBelow n (range low step high)
range-below n low step high = made-below n (λ count. list_of (values_by count low step)) (λ count. list-below n (values_by count low step) (values-below n count low step)) low step high

range-by-below : (n : ℕ) (low step high : ℤ) → AnswerBelow n (range_by low step high)
range-by-below n low step high = made-by-below n (λ count. list_of (values_by count low step)) (λ count. list-below n (values_by count low step) (values-below n count low step)) low step high

stepped-below : (s : State) (t u w : Tree) → AnswerBelow (next s) (integer_then s t (λ low. integers_then s u w (λ step high. range_by low step high)))
stepped-below s t u w =
    integer-below (next s) s t (λ low. integers_then s u w (λ step high. range_by low step high))
    (λ low. integers-below (next s) s u w (λ step high. range_by low step high) (range-by-below (next s) low))

ranges-keep : TableKeeps range_functions
unfolding range_functions
ranges-keep s is =
    (λ t u below other. integers-below (next s) s t u (λ low high. range low (pos 1) high) (λ low high. range-below (next s) low (pos 1) high)) &
    (λ t u w below other third. stepped-below s t u w) &
    tt

naming-keeps : TableKeeps naming_functions
unfolding naming_functions
naming-keeps s is =
    (λ t below. raised-below (next s) (name_at (followed (bindings s) t)) _ (name-below (next s) (followed (bindings s) t))) &
    (λ t below. raised-below (next s) (arity_at (followed (bindings s) t)) _ (arity-below (next s) (followed (bindings s) t))) &
    tt

text-below : (n : ℕ) (text : List ℕ) → SpeaksBelow n (text_list text)
text-below n text = list-below n _ (mapped-below n (λ c. atom (encode_utf8 c)) (λ c. atom-below n (encode_utf8 c)) (chars text))

texts-keep : TableKeeps text_functions
unfolding text_functions
texts-keep s is =
    (λ t below. unless-below (next s) (nat_lt most_cells (cells (value (bindings s) t))) term_too_large (Ok (text_list _)) (text-below (next s) _)) & tt

-- ---- what programs are lowered to

gathered-below : (n : ℕ) (o : Option (List Tree)) → SomeItemsBelow n o → ItemsBelow n (unwrap_or o [])
gathered-below n None all = tt
gathered-below n (Some ts) all = all

ordered-below : (s : State) → IsState s → (t : Tree) → SpeaksBelow (next s) t → AnswerBelow (next s) (in_order s t)
ordered-below s is t below =
    let items : List Tree = unwrap_or (list_items (bindings s) t) [] in
    list-below (next s) (reverse items) (reversed-below (next s) items (gathered-below (next s) (list_items (bindings s) t) (list-items-below (next s) (bindings s) (bindings-below s is) t below)))

found-below : {A : Type 0} (n : ℕ) (o : Option A) (ball : Tree) (f : A → Answer Tree) → ((x : A) → AnswerBelow n (f x)) → AnswerBelow n (found_or o ball f)
found-below n None ball f each = tt
found-below n (Some x) ball f each = each x

number-made : (n : ℕ) (count : ℕ) → SpeaksBelow n (int (pos count))
number-made n count = number-below n (pos count)

range-count-below : (s : State) (t u : Tree) → SpeaksBelow (next s) t → SpeaksBelow (next s) u → AnswerBelow (next s) (range_count s t u)
range-count-below s t u below other =
    let n : ℕ = next s in
    let by : ℤ → Tree × Tree → Answer Tree = λ low p. integers_then s p.0 p.1 (λ step high. counted_by (λ count. int (pos count)) low step high) in
    integer-below n s t (λ low. found_or (pair_parts (followed (bindings s) u)) _ (by low))
    (λ low. found-below n (pair_parts (followed (bindings s) u)) _ (by low) (λ p. integers-below n s p.0 p.1 _ (made-by-below n (λ count. int (pos count)) (number-made n) low)))

inner-keeps : TableKeeps inner_functions
inner-keeps s is =
    (λ t below. below) &
    ordered-below s is &
    range-count-below s &
    tt

-- ---- all of them

pub reading-keeps : TableKeeps reading_functions
unfolding reading_functions
reading-keeps s is =
    let P : Answer Tree → Type 0 = AnswerBelow (next s) in
    both-keep P s integer_functions _ (integers-keep s is)
    (both-keep P s collection_functions _ (collections-keep s is)
    (both-keep P s sorting_functions _ (sorting-keeps s is)
    (both-keep P s index_functions _ (indexes-keep s is)
    (both-keep P s range_functions _ (ranges-keep s is)
    (both-keep P s naming_functions _ (naming-keeps s is)
    (both-keep P s text_functions inner_functions (texts-keep s is) (inner-keeps s is)))))))
