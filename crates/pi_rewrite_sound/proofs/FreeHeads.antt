-- A head that is one, and whose name isn't built in, is of a name that means nothing else.
use Rattle.std.proofs.Common.{◌≡◌, ℕ, Bool, true, false, cond, List, refl, sym, ◌∙◌, ap, subst}
use Rattle.std.specs.Prelude.{◌==◌, ◌&&◌, ◌||◌, not, Option, Some, None, is_some, codes}
use Rattle.std.specs.Str.{bytes_eq}
use Rattle.std.proofs.lemmas.Bool.{and_parts, or_parts, or_from, not-true, eqb-true}
use Rattle.pi_effects.specs.BuiltIns.{is_function, is_predicate}
use Rattle.pi_syntax.specs.Forms.{is_form}
use Rattle.pi_syntax.specs.Names.{kind_of}
use Rattle.pi_syntax.specs.declared.builtin.BuiltinKind.{BuiltinKind}
use Rattle.pi_syntax.specs.declared.builtin.BuiltinKind.TheVariants.{Predicate, Function, Prelude}
use Rattle.pi_syntax.specs.ExpTree.{ExpTree, atom, call}
use Rattle.pi_syntax.specs.Signature.{signature, exp_count}
use Rattle.pi_meaning.specs.Shared.Names.{is_later_predicate, is_later_function, is_resource, is_catch, is_call, is_given_predicate, is_given_function}
use Rattle.pi_meaning.specs.OverNames.Forms.{is_find_all, is_count_all}
use Rattle.pi_meaning.specs.OverNames.Kinds.{is_unwritten, means_function, means_predicate, means_prelude}
use Rattle.pi_meaning.proofs.Shared.TableLemmas.{same-name, one-of}
use Rattle.pi_meaning.proofs.OverNames.BuiltInNames.{names-have-their-kinds}
use Rattle.pi_prog_clauses.specs.Items.{is_head}
use Rattle.pi_prog_clauses.specs.Operators.{is_goal_sign, is_assignment, is_relation, is_reified, is_membership, is_arithmetic, is_operator}
use Rattle.pi_prog_clauses.specs.Verdict.{is_built_in_signature}
use Rattle.pi_rewrite_laws.specs.Within.{IsFree}

-- ---- functions that no program calls by their names are signs of the grammar

sign-spelled : (name spelling : List ℕ) (k j : ℕ) → (k == j) ≡ true → bytes_eq name spelling ≡ true → is_operator spelling j ≡ true → is_operator name k ≡ true
sign-spelled name spelling k j same equal h =
    subst (λ (i : ℕ). is_operator name i ≡ true) (sym (eqb-true k j same)) (subst (λ (n : List ℕ). is_operator n j ≡ true) (sym (same-name name spelling equal)) h)

unwritten-is-sign : (name : List ℕ) (k : ℕ) → is_unwritten name k ≡ true → is_operator name k ≡ true
unfolding is_operator is_goal_sign is_assignment is_relation is_reified is_membership is_arithmetic
unwritten-is-sign name k h =
    let spelled : (spelling : List ℕ) (j : ℕ) → is_operator spelling j ≡ true → (k == j) ≡ true → bytes_eq name spelling ≡ true → is_operator name k ≡ true =
    λ spelling j sign same equal. sign-spelled name spelling k j same equal sign in
    one-of (is_form name k) ((k == 2 || k == 3) && bytes_eq name (codes "..")) (is_operator name k)
    (one-of (k == 1 && (bytes_eq name (codes "not") || bytes_eq name (codes "once"))) _ (is_operator name k)
    (λ e. let parts = and_parts (k == 1) _ e in one-of (bytes_eq name (codes "not")) (bytes_eq name (codes "once")) (is_operator name k) (spelled (codes "not") 1 refl parts.0) (spelled (codes "once") 1 refl parts.0) parts.1)
    (λ e. let parts = and_parts (k == 2) _ e in one-of (bytes_eq name (codes ":=")) (bytes_eq name (codes "in")) (is_operator name k) (spelled (codes ":=") 2 refl parts.0) (spelled (codes "in") 2 refl parts.0) parts.1))
    (λ e. let parts = and_parts (k == 2 || k == 3) (bytes_eq name (codes "..")) e in
    one-of (k == 2) (k == 3) (is_operator name k) (λ two. spelled (codes "..") 2 refl two parts.1) (λ three. spelled (codes "..") 3 refl three parts.1) parts.0) h

-- ---- a name that isn't built in

abbrev kind-by : Bool → Bool → Bool → Option BuiltinKind
kind-by a b c = cond a (Some Function) (cond b (Some Predicate) (cond c (Some Prelude) None))

none-of-kinds : (a b c : Bool) → is_some (kind-by a b c) ≡ false → (a ≡ false) × (b ≡ false)
none-of-kinds true b c h = absurd cc
none-of-kinds false true c h = absurd cc
none-of-kinds false false true h = absurd cc
none-of-kinds false false false h = (refl, refl)

not-function : (function unwritten operator : Bool) → (function && not unwritten) ≡ false → (unwritten ≡ true → operator ≡ true) → operator ≡ false → function ≡ false
not-function true true operator h sign none = let e : operator ≡ true = sign refl in absurd cc
not-function true false operator h sign none = absurd cc
not-function false unwritten operator h sign none = refl

pub name-free : (name : List ℕ) (k : ℕ) → is_operator name k ≡ false → is_some (kind_of name k) ≡ false → (is_given_predicate name k || is_given_function name k) ≡ false
name-free name k no-sign none =
    let kinds : (means_function name k ≡ false) × (means_predicate name k ≡ false) =
    none-of-kinds (means_function name k) (means_predicate name k) (means_prelude name k) (sym (ap is_some (names-have-their-kinds name k)) ∙ none) in
    let functions = or_parts (is_function name k && not (is_unwritten name k)) _ kinds.0 in
    let later = or_parts (is_later_function name k) _ functions.1 in
    let resource = or_parts (is_resource name k) (is_find_all name k || is_count_all name k) later.1 in
    let predicates = or_parts (is_predicate name k) _ kinds.1 in
    let staged = or_parts (is_later_predicate name k) _ predicates.1 in
    let terms = or_parts (is_catch name k) (is_call name k) staged.1 in
    let function : is_function name k ≡ false = not-function (is_function name k) (is_unwritten name k) (is_operator name k) functions.0 (unwritten-is-sign name k) no-sign in
    or_from (is_given_predicate name k) (is_given_function name k)
    (or_from (is_call name k) (is_predicate name k || is_later_predicate name k) terms.1 (or_from (is_predicate name k) (is_later_predicate name k) predicates.0 staged.0))
    (or_from (is_function name k) (is_resource name k || is_later_function name k) function (or_from (is_resource name k) (is_later_function name k) resource.0 later.0))

-- ---- heads

plain-atom : (name : List ℕ) → is_operator name 0 ≡ false
unfolding is_operator is_goal_sign is_relation is_reified is_membership is_arithmetic
plain-atom name = refl

pub head-free : (head : ExpTree) → is_head head ≡ true → is_built_in_signature (signature head) ≡ false → IsFree head
head-free (atom name) good own = record { named = record { name = name; arity = 0 }; is_named = refl; free = name-free name 0 (plain-atom name) own }
head-free (call name es) good own =
    record { named = record { name = name; arity = exp_count es }; is_named = refl; free = name-free name (exp_count es) (not-true (is_operator name (exp_count es)) good) own }
head-free e good own = absurd cc
