-- Names that are built have plain calls, but for goals of constraints: none of their arguments stands as a goal, as a pattern or between the signs of constraints, and a predicate reads each as an
-- expression.
use Rattle.std.proofs.Common.{◌≡◌, ℕ, Bool, true, false, cond, if◌then◌else◌, List, [], ◌∷◌, refl, sym, subst}
use Rattle.std.specs.Prelude.{◌==◌, ◌&&◌, ◌||◌, nat_le, not, Option, Some, None, is_none, is_some, codes}
use Rattle.std.specs.Str.{bytes_eq}
use Rattle.std.proofs.lemmas.Bool.{and_parts, or_left, or_from, not-true, eqb-true}
use Rattle.pi_effects.specs.Rows.{has_line}
use Rattle.pi_effects.specs.Integers.{integer_functions}
use Rattle.pi_effects.specs.Comparing.{comparing_tests}
use Rattle.pi_effects.specs.Kinds.{kind_tests}
use Rattle.pi_effects.specs.Collections.{collection_functions}
use Rattle.pi_effects.specs.Sorting.{sorting_functions}
use Rattle.pi_effects.specs.Indexing.{index_functions}
use Rattle.pi_effects.specs.Ranges.{range_functions}
use Rattle.pi_effects.specs.Naming.{naming_functions}
use Rattle.pi_effects.specs.Texts.{text_functions, writing_predicates}
use Rattle.pi_effects.specs.Making.{making_functions}
use Rattle.pi_effects.specs.BuiltIns.{reading_functions, is_function, tests, other_predicates, is_predicate}
use Rattle.pi_syntax.specs.Forms.{is_form}
use Rattle.pi_syntax.specs.Names.{function_rows, predicate_rows, prelude_rows, row, is_listed, kind_of}
use Rattle.pi_syntax.specs.declared.builtin.BuiltinKind.{BuiltinKind}
use Rattle.pi_syntax.specs.Tokens.{is_one_of}
use Rattle.pi_settling.specs.DomainValues.{domain_functions, is_domain_function}
use Rattle.pi_settling.specs.SolveCalls.{solve_calls, is_solve}
use Rattle.pi_meaning.specs.Shared.Effects.{is_value_name}
use Rattle.pi_meaning.specs.Shared.Names.{is_catch, is_call}
use Rattle.pi_meaning.specs.OverNames.Forms.{Reading, is_constraint, is_connective, is_within, readings, is_find_all, is_count_all}
use Rattle.pi_meaning.proofs.Shared.TableLemmas.{Test, same-name, one-of, each-spelled, spellings-hold, each-below, body-holds, each-line, lines-hold, each-from, each-row, rows-hold}
use Rattle.pi_prog_clauses.specs.Operators.{is_goal_sign, is_relation, is_membership, is_reified, is_goal_call}
use Rattle.pi_rewrite_sound.specs.Built.{is_own, is_prelude_kind, is_boolean_sign, is_built_function}

-- ---- which calls aren't plain

-- a call of such a name is no expression
abbrev pub is_no_expression : Test
is_no_expression name k = is_goal_call name k || is_membership name k

-- some argument of such a call stands as a goal, as a pattern or between the signs of constraints
abbrev pub has_places : Test
has_places name k = is_goal_sign name k || (is_find_all name k || (is_count_all name k || (is_catch name k || (is_membership name k || is_reified name k))))

abbrev pub are_plain : List Reading → Bool
are_plain [] = true
are_plain (r ∷ rs) = false

pub no-readings : (rs : List Reading) → are_plain rs ≡ true → rs ≡ []
no-readings [] h = refl
no-readings (r ∷ rs) h = absurd cc

-- a predicate's
abbrev pub is_plain : Test
is_plain name k = not (has_places name k) && are_plain (readings name k)

-- a function's; the names of some are those of forms, which no text calls as functions
abbrev pub is_plain_function : Test
is_plain_function name k = not (has_places name k) || is_no_expression name k

-- ---- names of the tables

pub predicate-plain : (name : List ℕ) (k : ℕ) → is_predicate name k ≡ true → is_plain name k ≡ true
unfolding is_predicate tests comparing_tests kind_tests writing_predicates other_predicates each-line body-holds each-below readings is_goal_sign is_membership is_reified
predicate-plain name k found =
    let P : Test = λ n j. is_plain n j in
    one-of (has_line tests name k) _ (P name k) (lines-hold P tests refl name k)
    (one-of (has_line writing_predicates name k) (has_line other_predicates name k) (P name k) (lines-hold P writing_predicates refl name k) (lines-hold P other_predicates refl name k)) found

function-plain : (name : List ℕ) (k : ℕ) → is_function name k ≡ true → is_plain_function name k ≡ true
unfolding is_function reading_functions integer_functions collection_functions sorting_functions index_functions range_functions naming_functions text_functions making_functions each-line body-holds each-below is_goal_sign is_relation is_membership is_reified
function-plain name k found =
    let P : Test = λ n j. is_plain_function n j in
    one-of (has_line reading_functions name k) (has_line making_functions name k) (P name k) (lines-hold P reading_functions refl name k) (lines-hold P making_functions refl name k) found

pub solve-plain : (name : List ℕ) (k : ℕ) → is_solve name k ≡ true → is_plain name k ≡ true
unfolding solve_calls each-line body-holds readings is_goal_sign is_membership is_reified
solve-plain name k found = lines-hold (λ n j. is_plain n j) solve_calls refl name k found

-- ---- names of the prelude

in-prelude : (f p r : Bool) → is_prelude_kind (if f then Some BuiltinKind.Function else if p then Some BuiltinKind.Predicate else if r then Some BuiltinKind.Prelude else None) ≡ true → r ≡ true
in-prelude true p r h = absurd cc
in-prelude false true r h = absurd cc
in-prelude false false true h = refl
in-prelude false false false h = absurd cc

pub prelude-listed : (name : List ℕ) (k : ℕ) → is_prelude_kind (kind_of name k) ≡ true → is_listed prelude_rows name k ≡ true
unfolding kind_of
prelude-listed name k h = in-prelude (is_listed function_rows name k) (is_listed predicate_rows name k) (is_listed prelude_rows name k) h

pub prelude-plain : (name : List ℕ) (k : ℕ) → is_prelude_kind (kind_of name k) ≡ true → is_plain name k ≡ true
unfolding prelude_rows each-row each-from readings is_goal_sign is_membership is_reified
prelude-plain name k h = rows-hold (λ n j. is_plain n j) prelude_rows refl name k (prelude-listed name k h)

-- ---- names that the language doesn't give

abbrev is_given_name : Test
is_given_name name k = is_form name k || is_some (kind_of name k)

pub spelled : (P : Test) (name spelling : List ℕ) (k j : ℕ) → (k == j && bytes_eq name spelling) ≡ true → P spelling j ≡ true → P name k ≡ true
spelled P name spelling k j found h =
    let parts : ((k == j) ≡ true) × (bytes_eq name spelling ≡ true) = and_parts (k == j) (bytes_eq name spelling) found in
    subst (λ (i : ℕ). P name i ≡ true) (sym (eqb-true k j parts.0)) (subst (λ (n : List ℕ). P n j ≡ true) (sym (same-name name spelling parts.1)) h)

pub listed : (P : Test) (k j : ℕ) (spellings : List (List ℕ)) → each-spelled P j spellings ≡ true → (name : List ℕ) → (k == j && is_one_of spellings name) ≡ true → P name k ≡ true
listed P k j spellings each name found =
    let parts : ((k == j) ≡ true) × (is_one_of spellings name ≡ true) = and_parts (k == j) (is_one_of spellings name) found in
    subst (λ (i : ℕ). P name i ≡ true) (sym (eqb-true k j parts.0)) (spellings-hold P j spellings each name parts.1)

connective-given : (name : List ℕ) (k : ℕ) → is_connective name k ≡ true → is_given_name name k ≡ true
unfolding each-spelled kind_of function_rows predicate_rows prelude_rows
connective-given name k h =
    let P : Test = λ n j. is_given_name n j in
    one-of (k == 1 && bytes_eq name (codes "#~")) _ (P name k) (λ e. spelled P name (codes "#~") k 1 e refl)
    (listed P k 2 (codes "#/\\" ∷ codes "#\\/" ∷ codes "#^" ∷ codes "#=>" ∷ codes "#<=>" ∷ []) refl name) h

constraint-given : (name : List ℕ) (k : ℕ) → is_constraint name k ≡ true → is_given_name name k ≡ true
unfolding each-spelled kind_of function_rows predicate_rows prelude_rows
constraint-given name k h =
    listed (λ n j. is_given_name n j) k 2 (codes "#=" ∷ codes "#!=" ∷ codes "#<" ∷ codes "#=<" ∷ codes "#<=" ∷ codes "#>" ∷ codes "#>=" ∷ []) refl name h

within-given : (name : List ℕ) (k : ℕ) → is_within name k ≡ true → is_given_name name k ≡ true
unfolding each-spelled kind_of function_rows predicate_rows prelude_rows
within-given name k h = listed (λ n j. is_given_name n j) k 2 (codes "::" ∷ codes "notin" ∷ []) refl name h

places-given : (name : List ℕ) (k : ℕ) → has_places name k ≡ true → is_given_name name k ≡ true
unfolding each-spelled kind_of function_rows predicate_rows prelude_rows is_goal_sign is_membership is_reified
places-given name k h =
    let P : Test = λ n j. is_given_name n j in
    one-of (is_goal_sign name k) _ (P name k) (listed P k 1 (codes "not" ∷ codes "once" ∷ []) refl name)
    (one-of (is_find_all name k) _ (P name k) (λ e. spelled P name (codes "find_all") k 2 e refl)
    (one-of (is_count_all name k) _ (P name k) (λ e. spelled P name (codes "count_all") k 1 e refl)
    (one-of (is_catch name k) _ (P name k) (λ e. spelled P name (codes "catch") k 3 e refl)
    (one-of (is_membership name k) (is_reified name k) (P name k) (λ e. spelled P name (codes "in") k 2 e refl) (connective-given name k))))) h

readings-plain : (a b c : Bool) (x y z : Reading) (xs ys zs : List Reading) → a ≡ false → b ≡ false → c ≡ false → are_plain (cond a (x ∷ xs) (cond b (y ∷ ys) (cond c (z ∷ zs) []))) ≡ true
readings-plain true b c x y z xs ys zs e f g = absurd cc
readings-plain false true c x y z xs ys zs e f g = absurd cc
readings-plain false false true x y z xs ys zs e f g = absurd cc
readings-plain false false false x y z xs ys zs e f g = refl

both-true : (a b : Bool) → a ≡ false → b ≡ true → (not a && b) ≡ true
both-true true b e f = absurd cc
both-true false b e f = f

none-some : {X : Type 0} (o : Option X) → is_none o ≡ true → is_some o ≡ false
none-some None h = refl
none-some (Some x) h = absurd cc

pub own-form : (name : List ℕ) (k : ℕ) → is_own name k ≡ true → is_form name k ≡ false
own-form name k own = not-true (is_form name k) (and_parts (not (is_form name k)) (is_none (kind_of name k)) own).0

own-not-given : (name : List ℕ) (k : ℕ) → is_own name k ≡ true → is_given_name name k ≡ false
own-not-given name k own =
    or_from (is_form name k) (is_some (kind_of name k)) (own-form name k own) (none-some (kind_of name k) (and_parts (not (is_form name k)) (is_none (kind_of name k)) own).1)

not-given : (a given : Bool) → given ≡ false → (a ≡ true → given ≡ true) → a ≡ false
not-given true given none f = let e : given ≡ true = f refl in absurd cc
not-given false given none f = refl

pub own-plain : (name : List ℕ) (k : ℕ) → is_own name k ≡ true → is_plain name k ≡ true
unfolding readings
own-plain name k own =
    let none : is_given_name name k ≡ false = own-not-given name k own in
    both-true (has_places name k) (are_plain (readings name k)) (not-given (has_places name k) (is_given_name name k) none (places-given name k))
    (readings-plain (is_constraint name k) (is_connective name k) (is_within name k) _ _ _ _ _ _
    (not-given (is_constraint name k) (is_given_name name k) none (constraint-given name k))
    (not-given (is_connective name k) (is_given_name name k) none (connective-given name k))
    (not-given (is_within name k) (is_given_name name k) none (within-given name k)))

-- ---- names that are built

-- a name with a plain test
plain-parts : (name : List ℕ) (k : ℕ) → is_plain name k ≡ true → (has_places name k ≡ false) × (readings name k ≡ [])
plain-parts name k plain =
    let parts : (not (has_places name k) ≡ true) × (are_plain (readings name k) ≡ true) = and_parts (not (has_places name k)) (are_plain (readings name k)) plain in
    (not-true (has_places name k) parts.0, no-readings (readings name k) parts.1)

-- `call` with any of its numbers of arguments
pub term-plain : (name : List ℕ) (k : ℕ) → is_call name k ≡ true → (has_places name k ≡ false) × (readings name k ≡ [])
unfolding each-row each-from readings is_goal_sign is_membership is_reified
term-plain name k is =
    let parts : ((nat_le 1 k && nat_le k 8) ≡ true) × (bytes_eq name (codes "call") ≡ true) = and_parts (nat_le 1 k && nat_le k 8) (bytes_eq name (codes "call")) is in
    plain-parts name k (subst (λ (n : List ℕ). is_plain n k ≡ true) (sym (same-name name (codes "call") parts.1))
    (rows-hold (λ n j. is_plain n j) (row (codes "call") 1 8 ∷ []) refl (codes "call") k (or_left (nat_le 1 k && nat_le k 8) false parts.0)))

but-for : (a b : Bool) → (not a || b) ≡ true → b ≡ false → a ≡ false
but-for true b h e = absurd cc
but-for false b h e = refl

first-of : (a b : Bool) → a ≡ true → (a || b) ≡ true
first-of true b h = refl
first-of false b h = absurd cc

-- a function of a domain
domain-plain : (name : List ℕ) (k : ℕ) → is_domain_function name k ≡ true → is_plain_function name k ≡ true
unfolding domain_functions each-line body-holds is_goal_sign is_relation is_membership is_reified
domain-plain name k found = lines-hold (λ n j. is_plain_function n j) domain_functions refl name k found

-- a sign of constraints is no expression
pub sign-no_expression : (name : List ℕ) (k : ℕ) → is_boolean_sign name k ≡ true → is_no_expression name k ≡ true
unfolding each-spelled is_goal_sign is_relation is_membership is_reified
sign-no_expression name k h =
    let P : Test = λ n j. is_no_expression n j in
    one-of (is_connective name k) (is_constraint name k) (P name k)
    (one-of (k == 1 && bytes_eq name (codes "#~")) _ (P name k) (λ e. spelled P name (codes "#~") k 1 e refl)
    (listed P k 2 (codes "#/\\" ∷ codes "#\\/" ∷ codes "#^" ∷ codes "#=>" ∷ codes "#<=>" ∷ []) refl name))
    (listed P k 2 (codes "#=" ∷ codes "#!=" ∷ codes "#<" ∷ codes "#=<" ∷ codes "#<=" ∷ codes "#>" ∷ codes "#>=" ∷ []) refl name) h

second-of : (a b : Bool) → b ≡ true → (a || b) ≡ true
second-of true b h = refl
second-of false b h = h

pub function-built-plain : (name : List ℕ) (k : ℕ) → is_built_function name k ≡ true → is_no_expression name k ≡ false → has_places name k ≡ false
function-built-plain name k built expression =
    but-for (has_places name k) (is_no_expression name k)
    (one-of (is_value_name name k) _ (is_plain_function name k)
    (one-of (is_function name k) (is_domain_function name k) (is_plain_function name k) (function-plain name k) (domain-plain name k))
    (one-of (is_own name k) (is_boolean_sign name k) (is_plain_function name k)
    (λ own. first-of (not (has_places name k)) (is_no_expression name k) (and_parts (not (has_places name k)) (are_plain (readings name k)) (own-plain name k own)).0)
    (λ sign. second-of (not (has_places name k)) (is_no_expression name k) (sign-no_expression name k sign))) built) expression
