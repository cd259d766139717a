-- The calls by which a range is walked that isn't built: how many values it has, or what is raised in its place, the numbers that terms are, and sums that stay within 128 bits.
use Rattle.std.proofs.Common.{◌≡◌, ℕ, zero, suc, ◌≤◌, ◌<◌, Bool, true, false, cond, List, refl, sym, ◌∙◌, ap, subst, arith, nat_lt}
use Rattle.std.specs.Prelude.{ℤ, pos, negsuc, ◌+ℤ◌, ◌-ℤ◌, ◌*ℤ◌, int_lt, ◌^◌, ◌&&◌, ◌||◌, if◌then◌else◌, Option, None, Ok, Err, IsTrue, codes}
use Rattle.std.specs.Int.{int_min}
use Rattle.std.proofs.lemmas.Int.{ints}
use Rattle.std.proofs.lemmas.Bool.{ltb-false}
use lib.IntN.{suc_ℤ-*ℤ}
use Rattle.std.proofs.lemmas.Bool.Decides.{Decides-ltb}
use Rattle.pi_terms.specs.Tree.{Tree, comp, no_trees, tree}
use Rattle.pi_constraints.specs.State.{State, bindings, followed}
use Rattle.pi_constraints.proofs.FollowLemmas.{followed_other}
use Rattle.pi_syntax.specs.PrintTerm.{array_name}
use Rattle.pi_effects.specs.Range.{has_128_bits, bounded}
use Rattle.pi_effects.specs.Value.{value_of}
use Rattle.pi_effects.specs.declared.operation.Op.TheVariants.{Add, Sub}
use Rattle.pi_effects.specs.declared.arith_fault.ArithFault.TheVariants.{Overflow}
use Rattle.pi_effects.specs.Answer.{Answer, found_or, integer_at, integer_then, integers_then}
use Rattle.pi_effects.specs.Items.{list_of}
use Rattle.pi_effects.specs.Exception.{type_error, bad_range, range_too_long}
use Rattle.pi_effects.specs.Rows.{done_by, has_line}
use Rattle.pi_effects.specs.Integers.{fault_term, integer_functions, outcome_then, number}
use Rattle.pi_effects.specs.Collections.{collection_functions}
use Rattle.pi_effects.specs.Sorting.{sorting_functions}
use Rattle.pi_effects.specs.Indexing.{index_functions}
use Rattle.pi_effects.specs.Ranges.{most_items, count_by, values_by, counted, counted_by, range_functions}
use Rattle.pi_effects.specs.Naming.{naming_functions}
use Rattle.pi_effects.specs.Texts.{text_functions}
use Rattle.pi_effects.specs.Inner.{range_count_name, pair_parts, range_count}
use Rattle.pi_effects.specs.BuiltIns.{reading_functions, built_in_function, is_function, answer_in}
use Rattle.pi_effects.proofs.RangeLemmas.{bits-fit, fits-bits, value-fits}
use Rattle.pi_traces.specs.Trace.{one}
use Rattle.pi_meaning.specs.Shared.Level.{Level}
use Rattle.pi_meaning.specs.Shared.Builtin.{function_trace}
use Rattle.pi_meaning.specs.Shared.Given.{Setting}
use Rattle.pi_meaning.specs.Shared.Names.{is_given_function, is_resource, is_later_function}
use Rattle.pi_meaning.specs.Shared.Calls.{function_given, function_called}
use Rattle.pi_rewrite_spec.proofs.BuiltInLemmas.{given-of, no-variable}
use Rattle.pi_rewrite_laws.proofs.WalkCalls.{integers-there}

-- ---- a range, by what is made of its numbers

-- of the first number, the step and how many values there are
abbrev pub Makes : Type 0
Makes = ℤ → ℤ → ℕ → Tree

-- what is made of them, where they are such, or what is raised
abbrev pub ranged : Makes → State → Tree → Tree → Tree → Answer Tree
ranged make s t w u = integer_then s t (λ low. integers_then s w u (λ step high. counted_by (make low step) low step high))

-- so many values from a number on fit 128 bits
abbrev pub AllFit : ℤ → ℤ → ℕ → Type 0
AllFit v step n = (j : ℕ) → j < n → has_128_bits (v +ℤ (pos j *ℤ step)) ≡ true

pub data RangeIs (s : State) (t w u : Tree) : Type 0 where
  refused : (ball : Tree) → ((make : Makes) → ranged make s t w u ≡ Err ball) → RangeIs s t w u
  has_values : (low step : ℤ) (count : ℕ) → followed (bindings s) t ≡ Tree.int low → followed (bindings s) w ≡ Tree.int step → count ≤ most_items → AllFit low step count →
      ((make : Makes) → ranged make s t w u ≡ Ok (make low step count)) → RangeIs s t w u

-- a term that is an integer, or none
data NumberIs (s : State) (t : Tree) : Type 0 where
  no_number : integer_at (followed (bindings s) t) ≡ None → NumberIs s t
  a_number : (n : ℤ) → followed (bindings s) t ≡ Tree.int n → NumberIs s t

number-is : (s : State) (t : Tree) → NumberIs s t
number-is s t = go (followed (bindings s) t) refl
  where
    go : (r : Tree) → followed (bindings s) t ≡ r → NumberIs s t
    go (Tree.var k) is = no_number (ap integer_at is)
    go (Tree.int n) is = a_number n is
    go (Tree.atom name) is = no_number (ap integer_at is)
    go (comp name ts) is = no_number (ap integer_at is)

found-number : {A : Type 0} (s : State) (t : Tree) (n : ℤ) (f : ℤ → Answer A) → followed (bindings s) t ≡ Tree.int n → integer_then s t f ≡ f n
found-number s t n f is = ap (λ (r : Tree). found_or (integer_at r) (type_error (codes "integer") t s) f) is

none-found : {A : Type 0} (s : State) (t : Tree) (f : ℤ → Answer A) → integer_at (followed (bindings s) t) ≡ None → integer_then s t f ≡ Err (type_error (codes "integer") t s)
none-found s t f is = ap (λ (o : Option ℤ). found_or o (type_error (codes "integer") t s) f) is

-- what is made of so many values
data CountIs (low step high : ℤ) : Type 0 where
  no_count : (ball : Tree) → ((make : ℕ → Tree) → counted_by make low step high ≡ Err ball) → CountIs low step high
  a_count : count_by low step high ≤ most_items → AllFit low step (count_by low step high) → ((make : ℕ → Tree) → counted_by make low step high ≡ Ok (make (count_by low step high))) → CountIs low step high

both-true : (a b : Bool) → a && b ≡ true → (a ≡ true) × (b ≡ true)
both-true true b is = (refl, is)
both-true false b is = absurd (cc is)

all-fit : (low step high : ℤ) → has_128_bits low ≡ true → has_128_bits high ≡ true → AllFit low step (count_by low step high)
all-fit low step high first last j less = bits-fit _ (value-fits low step high (fits-bits low first) (fits-bits high last) j less)

counted-is : (low step high : ℤ) → ((make : ℕ → Tree) → counted_by make low step high ≡ counted make low step high) → CountIs low step high
counted-is low step high same = go (nat_lt most_items (count_by low step high)) refl (has_128_bits low && has_128_bits high) refl
  where
    few : nat_lt most_items (count_by low step high) ≡ false → count_by low step high ≤ most_items
    few is = ltb-false most_items (count_by low step high) is

    go : (a : Bool) → nat_lt most_items (count_by low step high) ≡ a → (b : Bool) → has_128_bits low && has_128_bits high ≡ b → CountIs low step high
    go true many b fits =
        no_count range_too_long (λ make. same make ∙ ap (λ (c : Bool). cond c (Err range_too_long) (cond (has_128_bits low && has_128_bits high) (Ok (make (count_by low step high))) (Err (fault_term Overflow)))) many)
    go false is true fits =
        let both : (has_128_bits low ≡ true) × (has_128_bits high ≡ true) = both-true (has_128_bits low) (has_128_bits high) fits in
        a_count (few is) (all-fit low step high both.0 both.1)
        (λ make. same make ∙ ap (λ (c : Bool). cond c (Err range_too_long) (cond (has_128_bits low && has_128_bits high) (Ok (make (count_by low step high))) (Err (fault_term Overflow)))) is
        ∙ ap (λ (c : Bool). cond c (Ok (make (count_by low step high))) (Err (fault_term Overflow))) fits)
    go false is false wide =
        no_count (fault_term Overflow)
        (λ make. same make ∙ ap (λ (c : Bool). cond c (Err range_too_long) (cond (has_128_bits low && has_128_bits high) (Ok (make (count_by low step high))) (Err (fault_term Overflow)))) is
        ∙ ap (λ (c : Bool). cond c (Ok (make (count_by low step high))) (Err (fault_term Overflow))) wide)

count-is : (low step high : ℤ) → CountIs low step high
count-is low (pos zero) high = no_count bad_range (λ make. refl)
count-is low (pos (suc n)) high = counted-is low (pos (suc n)) high (λ make. refl)
count-is low (negsuc n) high = counted-is low (negsuc n) high (λ make. refl)

pub range-is : (s : State) (t w u : Tree) → RangeIs s t w u
range-is s t w u = first (number-is s t)
  where
    first : NumberIs s t → RangeIs s t w u
    first (no_number none) = refused (type_error (codes "integer") t s) (λ make. none-found s t _ none)
    first (a_number low is) = second (number-is s w)
      where
        second : NumberIs s w → RangeIs s t w u
        second (no_number none) = refused (type_error (codes "integer") w s) (λ make. found-number s t low _ is ∙ none-found s w _ none)
        second (a_number step by) = third (number-is s u)
          where
            third : NumberIs s u → RangeIs s t w u
            third (no_number none) = refused (type_error (codes "integer") u s) (λ make. found-number s t low _ is ∙ found-number s w step _ by ∙ none-found s u _ none)
            third (a_number high to) = last (count-is low step high)
              where
                last : CountIs low step high → RangeIs s t w u
                last (no_count ball raises) = refused ball (λ make. found-number s t low _ is ∙ found-number s w step _ by ∙ found-number s u high _ to ∙ raises (make low step))
                last (a_count few fit makes) =
                    has_values low step (count_by low step high) is by few fit (λ make. found-number s t low _ is ∙ found-number s w step _ by ∙ found-number s u high _ to ∙ makes (make low step))

-- ---- what functions give

-- the range as a list
abbrev pub list_made : Makes
list_made low step count = list_of (values_by count low step)

-- and how many values it has
abbrev pub count_made : Makes
count_made low step count = Tree.int (pos count)

two-given : (set : Setting) (m : Level) (t u : Tree) (s : State) → function_called set m (codes "..") (tree t (tree u no_trees)) s ≡ function_trace (answer_in s (integers_then s t u (λ low high. counted (λ count. list_of (values_by count low (pos 1))) low (pos 1) high)))
unfolding function_called function_given built_in_function done_by reading_functions integer_functions collection_functions sorting_functions index_functions range_functions naming_functions text_functions
two-given set m t u s = refl

pub two-called : (set : Setting) (m : Level) (t u : Tree) (s : State) → function_called set m (codes "..") (tree t (tree u no_trees)) s ≡ function_trace (answer_in s (ranged list_made s t (Tree.int (pos 1)) u))
two-called set m t u s =
    two-given set m t u s
    ∙ ap (λ (f : ℤ → Answer Tree). function_trace (answer_in s (integer_then s t f)))
    (λ i low. sym (integers-there s (pos 1) (λ step. integer_then s u (λ high. counted_by (list_made low step) low step high))) i)

pub three-called : (set : Setting) (m : Level) (t w u : Tree) (s : State) → function_called set m (codes "..") (tree t (tree w (tree u no_trees))) s ≡ function_trace (answer_in s (ranged list_made s t w u))
unfolding function_called function_given built_in_function done_by reading_functions integer_functions collection_functions sorting_functions index_functions range_functions naming_functions text_functions
three-called set m t w u s = refl

count-given : (set : Setting) (m : Level) (t u : Tree) (s : State) → function_called set m range_count_name (tree t (tree u no_trees)) s ≡ function_trace (answer_in s (range_count s t u))
unfolding function_called function_given built_in_function done_by reading_functions integer_functions collection_functions sorting_functions index_functions range_functions naming_functions text_functions
count-given set m t u s = refl

-- step and last number in an array
abbrev pub pair_of : Tree → Tree → Tree
pair_of w u = comp array_name (tree w (tree u no_trees))

pub count-called : (set : Setting) (m : Level) (t w u : Tree) (s : State) → function_called set m range_count_name (tree t (tree (pair_of w u) no_trees)) s ≡ function_trace (answer_in s (ranged count_made s t w u))
count-called set m t w u s =
    count-given set m t (pair_of w u) s
    ∙ ap (λ (r : Tree). function_trace (answer_in s (integer_then s t (λ low. found_or (pair_parts r) (type_error (codes "array") (pair_of w u) s) (λ p. integers_then s p.0 p.1 (λ step high. counted_by (λ count. Tree.int (pos count)) low step high))))))
    (followed_other (bindings s) (pair_of w u) (no-variable array_name (tree w (tree u no_trees))))

-- the number that a term is
least-given : (set : Setting) (m : Level) (t u : Tree) (s : State) → function_called set m (codes "min") (tree t (tree u no_trees)) s ≡ function_trace (answer_in s (integers_then s t u (λ a c. number (int_min a c))))
unfolding function_called function_given built_in_function done_by reading_functions integer_functions collection_functions sorting_functions index_functions range_functions naming_functions text_functions
least-given set m t u s = refl

pub number-called : (set : Setting) (m : Level) (t : Tree) (n : ℤ) (s : State) → followed (bindings s) t ≡ Tree.int n → function_called set m (codes "min") (tree t (tree t no_trees)) s ≡ one (record { value = Tree.int n; state = s })
number-called set m t n s is =
    least-given set m t t s
    ∙ ap (λ (a : Answer Tree). function_trace (answer_in s a)) (found-number s t n (λ a. integer_then s t (λ c. number (int_min a c))) is ∙ found-number s t n (λ c. number (int_min n c)) is)
    ∙ ap (λ (k : ℤ). one (record { value = Tree.int k; state = s })) (go (int_lt n n))
  where
    go : (c : Bool) → cond c n n ≡ n
    go true = refl
    go false = refl

difference-given : (set : Setting) (m : Level) (t u : Tree) (s : State) →
    function_called set m (codes "-") (tree t (tree u no_trees)) s ≡ function_trace (answer_in s (integer_then s t (λ a. integer_then s u (λ c. outcome_then (value_of Sub a c) number))))
unfolding function_called function_given built_in_function done_by reading_functions integer_functions collection_functions sorting_functions index_functions range_functions naming_functions text_functions
difference-given set m t u s = refl

pub difference-called : (set : Setting) (m : Level) (a c : ℤ) (s : State) → function_called set m (codes "-") (tree (Tree.int a) (tree (Tree.int c) no_trees)) s ≡ function_trace (answer_in s (outcome_then (value_of Sub a c) number))
difference-called set m a c s =
    difference-given set m (Tree.int a) (Tree.int c) s
    ∙ ap (λ (x : Answer Tree). function_trace (answer_in s x)) (integers-there s a (λ b. integer_then s (Tree.int c) (λ d. outcome_then (value_of Sub b d) number)) ∙ integers-there s c (λ d. outcome_then (value_of Sub a d) number))

-- ---- names that are functions

ranges-listed : (is_function range_count_name 2 ≡ true) × (is_function (codes "min") 2 ≡ true) × (is_function (codes "-") 2 ≡ true)
unfolding is_function has_line reading_functions integer_functions collection_functions sorting_functions index_functions range_functions naming_functions text_functions
ranges-listed = (refl, refl, refl)

listed-known : (name : List ℕ) (k : ℕ) → is_function name k ≡ true → (known : Bool) → IsTrue (is_given_function name k || known)
listed-known name k listed known = given-of (is_given_function name k) known (given-of (is_function name k) (is_resource name k || is_later_function name k) listed)

pub count-known : (known : Bool) → IsTrue (is_given_function range_count_name 2 || known)
count-known = listed-known range_count_name 2 ranges-listed.0

pub number-known : (known : Bool) → IsTrue (is_given_function (codes "min") 2 || known)
number-known = listed-known (codes "min") 2 ranges-listed.1

pub difference-known : (known : Bool) → IsTrue (is_given_function (codes "-") 2 || known)
difference-known = listed-known (codes "-") 2 ranges-listed.2

-- ---- sums and differences

-- the value behind the first one, where there is one
pub next-value : (v step : ℤ) (n : ℕ) → AllFit v step (suc (suc n)) → value_of Add v step ≡ Ok (v +ℤ step)
unfolding value_of
next-value v step n fit = ap (λ (b : Bool). if b then Ok (v +ℤ step) else Err Overflow) (subst (λ (z : ℤ). has_128_bits z ≡ true) once (fit 1 (omega arith)))
  where
    once : v +ℤ (pos 1 *ℤ step) ≡ v +ℤ step
    once = omega (arith, ints)

-- and those behind it
pub later-fit : (v step : ℤ) (n : ℕ) → AllFit v step (suc n) → AllFit (v +ℤ step) step n
later-fit v step n fit j less = subst (λ (z : ℤ). has_128_bits z ≡ true) further (fit (suc j) (omega (arith, less)))
  where
    further : v +ℤ (pos (suc j) *ℤ step) ≡ (v +ℤ step) +ℤ (pos j *ℤ step)
    further = let more : pos (suc j) *ℤ step ≡ pos j *ℤ step +ℤ step = suc_ℤ-*ℤ (pos j) step in omega (arith, ints, more)

small-bits : (k : ℕ) → k ≤ most_items → has_128_bits (pos k) ≡ true
small-bits k few = (Decides-ltb k (2 ^ 127)).1 (omega (arith, few))

-- how many are left
pub one-less : (n : ℕ) → suc n ≤ most_items → value_of Sub (pos (suc n)) (pos 1) ≡ Ok (pos n)
unfolding value_of
one-less n few = ap bounded less ∙ ap (λ (b : Bool). if b then Ok (pos n) else Err Overflow) (small-bits n (omega (arith, few)))
  where
    less : pos (suc n) -ℤ pos 1 ≡ pos n
    less = omega (arith, ints)

-- the number of values and one more is an integer
pub few-numbered : (n : ℕ) → n ≤ most_items → value_of Add (pos n) (pos 1) ≡ Ok (pos n +ℤ pos 1)
unfolding value_of
few-numbered n few = ap (λ (b : Bool). if b then Ok (pos n +ℤ pos 1) else Err Overflow) (subst (λ (z : ℤ). has_128_bits z ≡ true) more ((Decides-ltb (suc n) (2 ^ 127)).1 (omega (arith, few))))
  where
    more : pos (suc n) ≡ pos n +ℤ pos 1
    more = omega (arith, ints)
