-- Names that may be called where goals and expressions are built: those of the tables, goals of constraints, `solve`, functions of domains, and others than what later stages give.
use Rattle.std.proofs.Common.{◌≡◌, ℕ, Bool, true, false, cond, List, refl, sym, ◌∙◌, ap}
use Rattle.std.specs.Prelude.{◌&&◌, ◌||◌, not, Option, Some, None, is_none, codes}
use Rattle.std.proofs.lemmas.Bool.{and_parts, or_parts}
use Rattle.pi_effects.specs.Rows.{has_line}
use Rattle.pi_effects.specs.Integers.{integer_functions}
use Rattle.pi_effects.specs.Collections.{collection_functions}
use Rattle.pi_effects.specs.Sorting.{sorting_functions}
use Rattle.pi_effects.specs.Indexing.{index_name, index_functions}
use Rattle.pi_effects.specs.Ranges.{range_functions}
use Rattle.pi_effects.specs.Naming.{naming_functions}
use Rattle.pi_effects.specs.Texts.{text_functions}
use Rattle.pi_effects.specs.Making.{making_functions}
use Rattle.pi_effects.specs.BuiltIns.{reading_functions, is_function, is_predicate}
use Rattle.pi_syntax.specs.Forms.{is_form}
use Rattle.pi_syntax.specs.Names.{kind_of}
use Rattle.pi_syntax.specs.declared.builtin.BuiltinKind.{BuiltinKind}
use Rattle.pi_syntax.specs.declared.builtin.BuiltinKind.TheVariants.{Predicate, Function, Prelude}
use Rattle.pi_settling.specs.DomainValues.{is_domain_function}
use Rattle.pi_settling.specs.Goals.{is_constraint_goal}
use Rattle.pi_settling.specs.SolveCalls.{is_solve}
use Rattle.pi_meaning.specs.Shared.Effects.{is_effect_name, is_built_name, is_value_name}
use Rattle.pi_meaning.specs.Shared.Names.{is_later_predicate, is_later_function}
use Rattle.pi_meaning.specs.OverNames.Kinds.{is_unwritten, means_function, means_predicate, means_prelude}
use Rattle.pi_meaning.proofs.OverNames.BuiltInNames.{names-have-their-kinds}
use Rattle.pi_rewrite_sound.specs.Built.{is_own, is_prelude_kind, is_built_predicate, is_boolean_sign, is_built_function}
use Rattle.pi_rewrite_sound.proofs.NameLemmas.{domain-theirs}

-- by which of two
pub by-which : {C : Type 0} (x y : Bool) → (x || y) ≡ true → (x ≡ true → C) → (y ≡ true → C) → C
by-which true y h f g = f refl
by-which false y h f g = g h

-- ---- names that the language doesn't give, and names of the prelude

abbrev kind-by : Bool → Bool → Bool → Option BuiltinKind
kind-by a b c = cond a (Some Function) (cond b (Some Predicate) (cond c (Some Prelude) None))

none-of : (a b c : Bool) → kind-by a b c ≡ None → (a ≡ false) × (b ≡ false)
none-of true b c h = absurd cc
none-of false true c h = absurd cc
none-of false false true h = absurd cc
none-of false false false h = (refl, refl)

no-predicate : (a b c : Bool) → is_prelude_kind (kind-by a b c) ≡ true → b ≡ false
no-predicate true b c h = absurd cc
no-predicate false true c h = absurd cc
no-predicate false false c h = refl

none-is : (o : Option BuiltinKind) → is_none o ≡ true → o ≡ None
none-is None h = refl
none-is (Some k) h = absurd cc

own-kinds : (name : List ℕ) (k : ℕ) → is_own name k ≡ true → (means_function name k ≡ false) × (means_predicate name k ≡ false)
own-kinds name k own =
    let parts = and_parts (not (is_form name k)) (is_none (kind_of name k)) own in
    none-of (means_function name k) (means_predicate name k) (means_prelude name k) (sym (names-have-their-kinds name k) ∙ none-is (kind_of name k) parts.1)

not-later : (name : List ℕ) (k : ℕ) → means_predicate name k ≡ false → is_later_predicate name k ≡ false
not-later name k h = (or_parts (is_later_predicate name k) _ (or_parts (is_predicate name k) _ h).1).0

-- a predicate is of the tables, or a goal of constraints, or `solve`, or no later stage gives it
pub predicate-by : {C : Type 0} (name : List ℕ) (k : ℕ) → is_built_predicate name k ≡ true → (is_predicate name k ≡ true → C) → (is_constraint_goal name k ≡ true → C) → (is_solve name k ≡ true → C) →
    (is_later_predicate name k ≡ false → C) → C
predicate-by name k built f p labels g =
    by-which (is_built_name name k) (is_own name k || is_prelude_kind (kind_of name k)) built
    (λ h. by-which (is_effect_name name k) (is_solve name k) h (λ effect. by-which (is_predicate name k) (is_constraint_goal name k) effect f p) labels)
    (λ h. by-which (is_own name k) (is_prelude_kind (kind_of name k)) h
    (λ own. g (not-later name k (own-kinds name k own).1))
    (λ other. g (not-later name k (no-predicate (means_function name k) (means_predicate name k) (means_prelude name k) (sym (ap is_prelude_kind (names-have-their-kinds name k)) ∙ other)))))

-- a sign of constraints is no function
sign-apart : (name : List ℕ) (k : ℕ) → is_boolean_sign name k ≡ true → is_later_function name k ≡ false
sign-apart name k sign = go (is_later_function name k) (is_own name k) (is_boolean_sign name k) (domain-theirs name k) sign
  where
    go : (later own sign : Bool) → (later ≡ true → not (own || sign) ≡ true) → sign ≡ true → later ≡ false
    go false own sign f h = refl
    go true true sign f h = let e : false ≡ true = f refl in absurd cc
    go true false true f h = let e : false ≡ true = f refl in absurd cc
    go true false false f h = absurd cc

-- and so with functions
pub function-by : {C : Type 0} (name : List ℕ) (k : ℕ) → is_built_function name k ≡ true → (is_function name k ≡ true → C) → (is_domain_function name k ≡ true → C) → (is_later_function name k ≡ false → C) → C
function-by name k built f d g =
    by-which (is_value_name name k) (is_own name k || is_boolean_sign name k) built (λ h. by-which (is_function name k) (is_domain_function name k) h f d)
    (λ h. by-which (is_own name k) (is_boolean_sign name k) h
    (λ own. g (or_parts (is_later_function name k) _ (or_parts (is_function name k && not (is_unwritten name k)) _ (own-kinds name k own).0).1).0)
    (λ sign. g (sign-apart name k sign)))

-- ---- ranges and indexing

pub ranges-built : (is_built_function (codes "..") 2 ≡ true) × (is_built_function (codes "..") 3 ≡ true)
unfolding is_function has_line reading_functions making_functions integer_functions collection_functions sorting_functions index_functions range_functions naming_functions text_functions
ranges-built = (refl, refl)

pub index-built : is_built_function index_name 2 ≡ true
unfolding is_function has_line reading_functions making_functions integer_functions collection_functions sorting_functions index_functions range_functions naming_functions text_functions
index-built = refl
