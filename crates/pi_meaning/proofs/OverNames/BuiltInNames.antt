-- The names that the language builds in are those that mean something by themselves, each as what it means.
use Rattle.std.proofs.Common.{◌≡◌, ℕ, Bool, true, false, cond, if◌then◌else◌, List, [], ◌∷◌, refl, sym, ◌∙◌, ap, subst}
use Rattle.std.specs.Prelude.{◌==◌, ◌&&◌, ◌||◌, nat_le, not, Option, Some, None, codes, is_some, filter}
use Rattle.std.specs.List.{list_any}
use Rattle.std.specs.Str.{bytes_eq}
use Rattle.std.proofs.lemmas.Bool.{and_parts, or_parts, or_from, eqb-true}
use Rattle.pi_effects.specs.Rows.{has_line}
use Rattle.pi_effects.specs.Integers.{integer_functions}
use Rattle.pi_effects.specs.Comparing.{comparing_tests}
use Rattle.pi_effects.specs.Kinds.{kind_tests}
use Rattle.pi_effects.specs.Collections.{collection_functions}
use Rattle.pi_effects.specs.Sorting.{sorting_functions}
use Rattle.pi_effects.specs.Indexing.{index_functions}
use Rattle.pi_effects.specs.Ranges.{range_functions}
use Rattle.pi_effects.specs.Naming.{naming_functions}
use Rattle.pi_effects.specs.Texts.{text_functions, writing_predicates}
use Rattle.pi_effects.specs.Making.{making_functions}
use Rattle.pi_effects.specs.BuiltIns.{reading_functions, is_function, tests, other_predicates, is_predicate}
use Rattle.pi_syntax.specs.Tokens.{is_one_of}
use Rattle.pi_syntax.specs.ProgramTree.{RuleTree}
use Rattle.pi_syntax.specs.Signature.{Signature, exp_count}
use Rattle.pi_meaning.specs.Shared.Names.{later_predicates, is_later_predicate, is_later_function, is_resource, is_catch, is_call}
use Rattle.pi_meaning.specs.OverNames.WrittenRules.{rules_of, is_rule_of}
use Rattle.pi_syntax.specs.Names.{function_rows, predicate_rows, prelude_rows, is_listed, kind_of}
use Rattle.pi_syntax.specs.Forms.{is_form}
use Rattle.pi_syntax.specs.declared.builtin.BuiltinKind.{BuiltinKind}
use Rattle.pi_syntax.specs.declared.builtin.BuiltinKind.TheVariants.{Predicate, Function, Prelude}
use Rattle.pi_meaning.specs.OverNames.Forms.{Form, negation, once, assignment, catch, by_term, membership, form_of, is_find_all, is_count_all}
use Rattle.pi_meaning.specs.OverNames.Rules.{rules_named}
use Rattle.pi_meaning.specs.OverNames.Prelude.{prelude}
use Rattle.pi_meaning.specs.OverNames.Kinds.{are_some, is_unwritten, means_function, means_predicate, means_prelude, NamesHaveTheirKinds}
use Rattle.pi_meaning.specs.OverNames.Laws.{is_taken, OtherNamesAreFree}
use Rattle.pi_meaning.proofs.Shared.TableLemmas.{Test, same-name, one-of, each-spelled, spellings-hold, each-signed, signatures-hold, each-below, body-holds, each-line, lines-hold, each-from, each-row, rows-hold}

-- ---- functions

a-function : Test
a-function name k = is_listed function_rows name k

-- a name of this spelling, with so many arguments
spelled : (P : Test) (name spelling : List ℕ) (k j : ℕ) → (k == j && bytes_eq name spelling) ≡ true → P spelling j ≡ true → P name k ≡ true
spelled P name spelling k j found h =
    let parts : ((k == j) ≡ true) × (bytes_eq name spelling ≡ true) = and_parts (k == j) (bytes_eq name spelling) found in
    subst (λ (i : ℕ). P name i ≡ true) (sym (eqb-true k j parts.0)) (subst (λ (n : List ℕ). P n j ≡ true) (sym (same-name name spelling parts.1)) h)

one-written : (a b : Bool) → (a || b) ≡ true → not b ≡ true → a ≡ true
one-written true b h other = refl
one-written false true h other = absurd cc
one-written false false h other = absurd cc

lines-written : (name : List ℕ) (k : ℕ) → is_function name k ≡ true → (a-function name k || is_unwritten name k) ≡ true
unfolding is_function reading_functions integer_functions collection_functions sorting_functions index_functions range_functions naming_functions text_functions making_functions each-line body-holds each-below a-function function_rows
lines-written name k found =
    let P : Test = λ n j. is_listed function_rows n j || is_unwritten n j in
    one-of (has_line reading_functions name k) (has_line making_functions name k) (P name k) (lines-hold P reading_functions refl name k) (lines-hold P making_functions refl name k) found

later-listed : (name : List ℕ) (k : ℕ) → is_later_function name k ≡ true → a-function name k ≡ true
unfolding is_later_function each-spelled a-function function_rows
later-listed name k found =
    let spellings : List (List ℕ) = codes "fd_min" ∷ codes "fd_max" ∷ codes "fd_size" ∷ codes "fd_dom" ∷ [] in
    let parts : ((k == 1) ≡ true) × (is_one_of spellings name ≡ true) = and_parts (k == 1) (is_one_of spellings name) found in
    subst (λ (i : ℕ). is_listed function_rows name i ≡ true) (sym (eqb-true k 1 parts.0)) (spellings-hold (λ n j. is_listed function_rows n j) 1 spellings refl name parts.1)

function-listed : (name : List ℕ) (k : ℕ) → means_function name k ≡ true → is_listed function_rows name k ≡ true
unfolding a-function function_rows
function-listed name k found =
    one-of (is_function name k && not (is_unwritten name k)) _ (a-function name k)
    (λ h. let parts = and_parts (is_function name k) (not (is_unwritten name k)) h in one-written (a-function name k) (is_unwritten name k) (lines-written name k parts.0) parts.1)
    (one-of (is_later_function name k) _ (a-function name k) (later-listed name k)
    (one-of (is_resource name k) _ (a-function name k) (λ h. spelled a-function name (codes "current_resource") k 0 h refl)
    (one-of (is_find_all name k) (is_count_all name k) (a-function name k) (λ h. spelled a-function name (codes "find_all") k 2 h refl) (λ h. spelled a-function name (codes "count_all") k 1 h refl)))) found

function-means : (name : List ℕ) (k : ℕ) → is_listed function_rows name k ≡ true → means_function name k ≡ true
unfolding function_rows each-row each-from is_function reading_functions integer_functions collection_functions sorting_functions index_functions range_functions naming_functions text_functions making_functions has_line is_later_function
function-means name k found = rows-hold (λ n j. means_function n j) function_rows refl name k found

-- ---- predicates

a-predicate : Test
a-predicate name k = is_listed predicate_rows name k

predicate-line : (name : List ℕ) (k : ℕ) → is_predicate name k ≡ true → a-predicate name k ≡ true
unfolding is_predicate tests comparing_tests kind_tests writing_predicates other_predicates each-line body-holds each-below a-predicate predicate_rows
predicate-line name k found =
    let P : Test = λ n j. is_listed predicate_rows n j in
    one-of (has_line tests name k) _ (P name k) (lines-hold P tests refl name k)
    (one-of (has_line writing_predicates name k) (has_line other_predicates name k) (P name k) (lines-hold P writing_predicates refl name k) (lines-hold P other_predicates refl name k)) found

later-predicate : (name : List ℕ) (k : ℕ) → is_later_predicate name k ≡ true → a-predicate name k ≡ true
unfolding is_later_predicate later_predicates each-signed a-predicate predicate_rows
later-predicate name k found = signatures-hold (λ n j. is_listed predicate_rows n j) later_predicates refl name k found

call-row : (k : ℕ) → (nat_le 1 k && nat_le k 8) ≡ true → a-predicate (codes "call") k ≡ true
unfolding a-predicate predicate_rows
call-row k h = rw h refl

call-listed : (name : List ℕ) (k : ℕ) → is_call name k ≡ true → a-predicate name k ≡ true
call-listed name k h =
    let parts : ((nat_le 1 k && nat_le k 8) ≡ true) × (bytes_eq name (codes "call") ≡ true) = and_parts (nat_le 1 k && nat_le k 8) (bytes_eq name (codes "call")) h in
    subst (λ (n : List ℕ). a-predicate n k ≡ true) (sym (same-name name (codes "call") parts.1)) (call-row k parts.0)

predicate-listed : (name : List ℕ) (k : ℕ) → means_predicate name k ≡ true → is_listed predicate_rows name k ≡ true
unfolding a-predicate predicate_rows
predicate-listed name k found =
    one-of (is_predicate name k) _ (a-predicate name k) (predicate-line name k)
    (one-of (is_later_predicate name k) _ (a-predicate name k) (later-predicate name k)
    (one-of (is_catch name k) (is_call name k) (a-predicate name k) (λ h. spelled a-predicate name (codes "catch") k 3 h refl) (call-listed name k))) found

predicate-means : (name : List ℕ) (k : ℕ) → is_listed predicate_rows name k ≡ true → means_predicate name k ≡ true
unfolding predicate_rows each-row each-from is_predicate tests comparing_tests kind_tests writing_predicates other_predicates has_line is_later_predicate later_predicates
predicate-means name k found = rows-hold (λ n j. means_predicate n j) predicate_rows refl name k found

-- ---- the prelude

rule-among : (f : RuleTree → Bool) (rs : List RuleTree) → are_some (filter f rs) ≡ true → list_any f rs ≡ true
rule-among f [] h = absurd cc
rule-among f (r ∷ rs) h = tested (f r) (rule-among f rs) h
  where
    tested : (b : Bool) → (are_some (filter f rs) ≡ true → list_any f rs ≡ true) → are_some (cond b (r ∷ filter f rs) (filter f rs)) ≡ true → (b || list_any f rs) ≡ true
    tested true rest h = refl
    tested false rest h = rest h

prelude-signatures : List Signature
prelude-signatures =
    record { name = codes "member"; arity = 2 } ∷ record { name = codes "member"; arity = 2 } ∷
    record { name = codes "append"; arity = 3 } ∷ record { name = codes "append"; arity = 3 } ∷ record { name = codes "append"; arity = 3 } ∷ record { name = codes "append"; arity = 3 } ∷
    record { name = codes "select"; arity = 3 } ∷ record { name = codes "select"; arity = 3 } ∷
    record { name = codes "between"; arity = 3 } ∷ record { name = codes "between"; arity = 3 } ∷ []

prelude-listed : (name : List ℕ) (k : ℕ) → means_prelude name k ≡ true → is_listed prelude_rows name k ≡ true
unfolding prelude prelude-signatures each-signed exp_count prelude_rows
prelude-listed name k h = signatures-hold (λ n j. is_listed prelude_rows n j) prelude-signatures refl name k (rule-among (is_rule_of name k) (rules_of prelude) h)

prelude-means : (name : List ℕ) (k : ℕ) → is_listed prelude_rows name k ≡ true → means_prelude name k ≡ true
unfolding prelude exp_count prelude_rows each-row each-from
prelude-means name k found = rows-hold (λ n j. means_prelude n j) prelude_rows refl name k found

-- ---- kinds

same-truth : (a b : Bool) → (a ≡ true → b ≡ true) → (b ≡ true → a ≡ true) → a ≡ b
same-truth true b f g = sym (f refl)
same-truth false true f g = g refl
same-truth false false f g = refl

abbrev kind-by : Bool → Bool → Bool → Option BuiltinKind
kind-by a b c = cond a (Some Function) (cond b (Some Predicate) (cond c (Some Prelude) None))

kind-tested : (a b c : Bool) → (if a then Some Function else if b then Some Predicate else if c then Some Prelude else None) ≡ kind-by a b c
kind-tested true b c = refl
kind-tested false true c = refl
kind-tested false false true = refl
kind-tested false false false = refl

pub names-have-their-kinds : NamesHaveTheirKinds
unfolding kind_of
names-have-their-kinds name k =
    let a : Bool = is_listed function_rows name k in
    let b : Bool = is_listed predicate_rows name k in
    let c : Bool = is_listed prelude_rows name k in
    kind-tested a b c
    ∙ ap (λ (t : Bool). kind-by t b c) (same-truth a (means_function name k) (function-means name k) (function-listed name k))
    ∙ ap (λ (t : Bool). kind-by (means_function name k) t c) (same-truth b (means_predicate name k) (predicate-means name k) (predicate-listed name k))
    ∙ ap (kind-by (means_function name k) (means_predicate name k)) (same-truth c (means_prelude name k) (prelude-means name k) (prelude-listed name k))

-- ---- a name that is neither built in nor a form

none-of-kinds : (a b c : Bool) → kind-by a b c ≡ None → (b ≡ false) × (c ≡ false)
none-of-kinds true b c h = absurd cc
none-of-kinds false true c h = absurd cc
none-of-kinds false false true h = absurd cc
none-of-kinds false false false h = (refl, refl)

none-form : (b : Bool) (f : Form) (o : Option Form) → b ≡ false → is_some o ≡ false → is_some (cond b (Some f) o) ≡ false
none-form true f o h rest = absurd cc
none-form false f o h rest = rest

one-false : (a b c : Bool) → (a && (b || c)) ≡ false → ((a && b) ≡ false) × ((a && c) ≡ false)
one-false true b c h = or_parts b c h
one-false false b c h = (refl, refl)

form-free : (name : List ℕ) (k : ℕ) → is_form name k ≡ false → is_catch name k ≡ false → is_call name k ≡ false → is_some (form_of name k) ≡ false
unfolding form_of
form-free name k no-form no-catch no-call =
    let both = or_parts ((k == 1) && (bytes_eq name (codes "not") || bytes_eq name (codes "once"))) ((k == 2) && (bytes_eq name (codes ":=") || bytes_eq name (codes "in"))) no-form in
    let ones = one-false (k == 1) (bytes_eq name (codes "not")) (bytes_eq name (codes "once")) both.0 in
    let twos = one-false (k == 2) (bytes_eq name (codes ":=")) (bytes_eq name (codes "in")) both.1 in
    none-form _ negation _ ones.0 (none-form _ once _ ones.1 (none-form _ assignment _ twos.0 (none-form _ catch _ no-catch (none-form _ by_term _ no-call (none-form _ membership None twos.1 refl)))))

pub other-names-are_free : OtherNamesAreFree
unfolding is_taken
other-names-are_free name k none no-form =
    let kinds = none-of-kinds (means_function name k) (means_predicate name k) (means_prelude name k) (sym (names-have-their-kinds name k) ∙ none) in
    let named = or_parts (is_predicate name k) _ kinds.0 in
    let staged = or_parts (is_later_predicate name k) _ named.1 in
    let terms = or_parts (is_catch name k) (is_call name k) staged.1 in
    or_from (is_some (form_of name k)) _ (form-free name k no-form terms.0 terms.1)
    (or_from (is_predicate name k) _ named.0 (or_from (is_later_predicate name k) (are_some (rules_named name k prelude)) staged.0 kinds.1))
