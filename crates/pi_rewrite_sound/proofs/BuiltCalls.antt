-- Calls that are built, and known, are of the forms that are lowered.
use Rattle.std.proofs.Common.{◌≡◌, inl, inr, ℕ, suc, Bool, true, false, cond, List, [], refl, sym, ◌∙◌, subst, arith}
use Rattle.std.specs.Prelude.{◌==◌, ◌&&◌, ◌||◌, Option, Some, None, IsTrue, codes, ⊤}
use Rattle.std.specs.Str.{bytes_eq}
use Rattle.std.proofs.lemmas.Bool.{false≢true, and_parts, or_cases, eqb-true}
use Rattle.pi_effects.specs.BuiltIns.{is_predicate}
use Rattle.pi_syntax.specs.Names.{kind_of}
use Rattle.pi_meaning.specs.Shared.Effects.{is_built_name, is_value_name}
use Rattle.pi_meaning.specs.Shared.Names.{is_catch, is_call, is_later_predicate, is_given_predicate, is_given_function}
use Rattle.pi_meaning.proofs.Shared.EffectNames.{value-given}
use Rattle.pi_syntax.specs.ExpTree.{ExpTree, var, ExpTrees, no_exps, exp}
use Rattle.pi_syntax.specs.Signature.{exp_count}
use Rattle.pi_meaning.specs.OverNames.Texts.{iterated}
use Rattle.pi_meaning.specs.OverNames.Forms.{Reading, readings, Form, negation, once, assignment, catch, by_term, membership, form_of, is_find_all, is_count_all}
use Rattle.pi_meaning.proofs.Shared.TableLemmas.{same-name}
use Rattle.pi_prog_clauses.specs.Calls.{Named, named, goal_calls, is_known}
use Rattle.pi_prog_clauses.specs.Operators.{is_goal_sign, is_membership, is_reified}
use Rattle.pi_prog_clauses.specs.Places.{asked, expression}
use Rattle.pi_rewrite_sound.specs.Built.{is_own, is_prelude_kind, is_built_predicate, is_boolean_sign, is_built_function, is_built_value_call, is_built_form, is_built_atom, is_variable, is_assigned}
use Rattle.pi_rewrite_spec.specs.Forms.{Knows, IsFunctionCall, IsPredicateCall, IsAtomGoal, IsAssigned}
use Rattle.pi_rewrite_sound.proofs.KnownCalls.{AreKnown, goal-known}
use Rattle.pi_rewrite_sound.proofs.NameLemmas.{built-given}
use Rattle.pi_rewrite_sound.proofs.PlainNames.{is_no_expression, has_places, own-form, term-plain, sign-no_expression, function-built-plain}
use Rattle.pi_rewrite_sound.proofs.CallPlaces.{place_behind}

-- What is there has each predicate and each function that a call of a name of its own finds defined, and the prelude's.
pub record Has (defined : List Named) (known : Knows) : Type 0 where
  pub predicate : (name : List ℕ) (k : ℕ) → is_own name k ≡ true → is_known defined (named name k false) ≡ true → known.predicate name k ≡ true
  pub function : (name : List ℕ) (k : ℕ) → is_own name k ≡ true → is_known defined (named name k true) ≡ true → known.function name k ≡ true
  pub prelude : (name : List ℕ) (k : ℕ) → is_prelude_kind (kind_of name k) ≡ true → known.predicate name k ≡ true

-- ---- names

or-first : (a b : Bool) → a ≡ true → (a || b) ≡ true
or-first true b h = refl
or-first false b h = absurd cc

or-second : (a b : Bool) → b ≡ true → (a || b) ≡ true
or-second true b h = refl
or-second false b h = h

pub predicate-there : (defined : List Named) (known : Knows) → Has defined known → (name : List ℕ) (k : ℕ) → is_built_predicate name k ≡ true → AreKnown defined (goal_calls name k) →
    IsTrue (is_given_predicate name k || known.predicate name k)
predicate-there defined known has name k built calls = elim (or_cases (is_built_name name k) (is_own name k || is_prelude_kind (kind_of name k)) built) [
  | inl given ↦ or-first (is_given_predicate name k) (known.predicate name k) (or-second (is_call name k) (is_predicate name k || is_later_predicate name k) (built-given name k given))
  | inr rest ↦ or-second (is_given_predicate name k) (known.predicate name k) (elim (or_cases (is_own name k) (is_prelude_kind (kind_of name k)) rest) [
    | inl own ↦ has.predicate name k own (goal-known defined name k (own-form name k own) calls)
    | inr written ↦ has.prelude name k written
  ])
]

function-there : (defined : List Named) (known : Knows) → Has defined known → (name : List ℕ) (k : ℕ) → is_built_function name k ≡ true → is_known defined (named name k true) ≡ true →
    is_no_expression name k ≡ false → IsTrue (is_given_function name k || known.function name k)
function-there defined known has name k built call expression-call = elim (or_cases (is_value_name name k) (is_own name k || is_boolean_sign name k) built) [
  | inl given ↦ or-first (is_given_function name k) (known.function name k) (value-given name k given)
  | inr rest ↦ elim (or_cases (is_own name k) (is_boolean_sign name k) rest) [
    | inl own ↦ or-second (is_given_function name k) (known.function name k) (has.function name k own call)
    | inr sign ↦ absurd (false≢true (sym expression-call ∙ sign-no_expression name k sign))
  ]
]

-- ---- places of the forms

abbrev IsSpelled : List ℕ → ℕ → List ℕ → ℕ → Type 0
IsSpelled name k spelling j = (k == j && bytes_eq name spelling) ≡ true

-- what holds of this spelling with so many arguments
by-spelling : (P : List ℕ → ℕ → Type 0) (name : List ℕ) (k : ℕ) (spelling : List ℕ) (j : ℕ) → IsSpelled name k spelling j → P spelling j → P name k
by-spelling P name k spelling j is h =
    let parts : ((k == j) ≡ true) × (bytes_eq name spelling ≡ true) = and_parts (k == j) (bytes_eq name spelling) is in
    subst (λ (i : ℕ). P name i) (sym (eqb-true k j parts.0)) (subst (λ (n : List ℕ). P n j) (sym (same-name name spelling parts.1)) h)

-- the only goal of `not`, of `once` and of `count_all`
negation-place : (name : List ℕ) (k : ℕ) → IsSpelled name k (codes "not") 1 → place_behind name k 0 0 ≡ asked
unfolding is_goal_sign
negation-place name k is = by-spelling (λ n j. place_behind n j 0 0 ≡ asked) name k (codes "not") 1 is refl

once-place : (name : List ℕ) (k : ℕ) → IsSpelled name k (codes "once") 1 → place_behind name k 0 0 ≡ asked
unfolding is_goal_sign
once-place name k is = by-spelling (λ n j. place_behind n j 0 0 ≡ asked) name k (codes "once") 1 is refl

count-place : (name : List ℕ) (k : ℕ) → IsSpelled name k (codes "count_all") 1 → place_behind name k 0 0 ≡ asked
unfolding is_goal_sign
count-place name k is = by-spelling (λ n j. place_behind n j 0 0 ≡ asked) name k (codes "count_all") 1 is refl

find-places : (name : List ℕ) (k : ℕ) → IsSpelled name k (codes "find_all") 2 → (place_behind name k 0 0 ≡ expression) × (place_behind name k 0 1 ≡ asked)
unfolding is_goal_sign is_membership is_reified
find-places name k is = by-spelling (λ n j. (place_behind n j 0 0 ≡ expression) × (place_behind n j 0 1 ≡ asked)) name k (codes "find_all") 2 is (refl, refl)

assigned-place : (name : List ℕ) (k : ℕ) → IsSpelled name k (codes ":=") 2 → place_behind name k 0 1 ≡ expression
unfolding is_goal_sign is_membership is_reified
assigned-place name k is = by-spelling (λ n j. place_behind n j 0 1 ≡ expression) name k (codes ":=") 2 is refl

catch-places : (name : List ℕ) (k : ℕ) → IsSpelled name k (codes "catch") 3 → ((place_behind name k 0 0 ≡ asked) × (place_behind name k 0 1 ≡ expression)) × (place_behind name k 0 2 ≡ asked)
unfolding is_goal_sign is_membership is_reified
catch-places name k is =
    by-spelling (λ n j. ((place_behind n j 0 0 ≡ asked) × (place_behind n j 0 1 ≡ expression)) × (place_behind n j 0 2 ≡ asked)) name k (codes "catch") 3 is ((refl, refl), refl)

-- what an iterator goes over
membership-place : (name : List ℕ) (k : ℕ) → IsSpelled name k (codes "in") 2 → place_behind name k 0 1 ≡ expression
unfolding is_goal_sign is_membership is_reified
membership-place name k is = by-spelling (λ n j. place_behind n j 0 1 ≡ expression) name k (codes "in") 2 is refl

in-sign : (b : Bool) (e d : ExpTree) → cond b (Some e) None ≡ Some d → b ≡ true
in-sign true e d is = refl
in-sign false e d is = absurd cc

iterator-named : (name : List ℕ) (es : ExpTrees) (e : ExpTree) → iterated (ExpTree.call name es) ≡ Some e → IsSpelled name (exp_count es) (codes "in") 2
unfolding exp_count
iterator-named name no_exps e is = absurd cc
iterator-named name (exp a no_exps) e is = absurd cc
iterator-named name (exp a (exp b no_exps)) e is = in-sign (bytes_eq name (codes "in")) a e is
iterator-named name (exp a (exp b (exp c es))) e is = absurd cc

pub collection-place : (name : List ℕ) (es : ExpTrees) (e : ExpTree) → iterated (ExpTree.call name es) ≡ Some e → place_behind name (exp_count es) 0 1 ≡ expression
collection-place name es e is = membership-place name (exp_count es) (iterator-named name es e is)

-- ---- a call's arguments

-- of a call of this name, what its arguments being built comes to: all of them as expressions, one as an expression, one as a goal
pub record Arguments (name : List ℕ) (k : ℕ) (exps : Bool) (value goal : ℕ → Bool) (Exps : Type 0) (Value Goal : ℕ → Type 0) : Type 0 where
  pub all : has_places name k ≡ false → exps ≡ true → Exps
  pub one : (i : ℕ) → place_behind name k 0 i ≡ expression → value i ≡ true → Value i
  pub inner : (i : ℕ) → place_behind name k 0 i ≡ asked → goal i ≡ true → Goal i

-- ---- functions

pub function-of : (defined : List Named) (known : Knows) → Has defined known → (name : List ℕ) (k : ℕ) (exps : Bool) (value goal : ℕ → Bool) (Exps : Type 0) (Value Goal : ℕ → Type 0) →
    Arguments name k exps value goal Exps Value Goal → is_known defined (named name k true) ≡ true → is_no_expression name k ≡ false → is_built_value_call name k exps value goal ≡ true →
    IsFunctionCall known (is_find_all name k) (is_count_all name k) name k Exps Value Goal
function-of defined known has name k exps value goal Exps Value Goal arguments call expression-call built = go (is_find_all name k) (is_count_all name k) refl refl built
  where
    go : (find count : Bool) → is_find_all name k ≡ find → is_count_all name k ≡ count → cond find (value 0 && goal 1) (cond count (goal 0) (exps && is_built_function name k)) ≡ true →
        IsFunctionCall known find count name k Exps Value Goal
    go true count is other h =
        let both = and_parts (value 0) (goal 1) h in
        let places = find-places name k is in
        (arguments.one 0 places.0 both.0, arguments.inner 1 places.1 both.1)
    go false true other is h = arguments.inner 0 (count-place name k is) h
    go false false find count h =
        let both = and_parts exps (is_built_function name k) h in
        (arguments.all (function-built-plain name k both.1 expression-call) both.0, function-there defined known has name k both.1 call expression-call)

-- ---- predicates

-- what a form says of the tests of names
abbrev IsTested : Option Form → Bool → Bool → Bool → Bool → Bool → Type 0
IsTested None negated single assigns caught termed = ⊤
IsTested (Some Form.negation) negated single assigns caught termed = negated ≡ true
IsTested (Some Form.once) negated single assigns caught termed = single ≡ true
IsTested (Some Form.assignment) negated single assigns caught termed = assigns ≡ true
IsTested (Some Form.catch) negated single assigns caught termed = caught ≡ true
IsTested (Some Form.by_term) negated single assigns caught termed = termed ≡ true
IsTested (Some Form.membership) negated single assigns caught termed = ⊤

tested : (a b c d e f : Bool) → IsTested (cond a (Some negation) (cond b (Some once) (cond c (Some assignment) (cond d (Some catch) (cond e (Some by_term) (cond f (Some membership) None)))))) a b c d e
tested true b c d e f = refl
tested false true c d e f = refl
tested false false true d e f = refl
tested false false false true e f = refl
tested false false false false true f = refl
tested false false false false false true = tt
tested false false false false false false = tt

form-tested : (name : List ℕ) (k : ℕ) → IsTested (form_of name k) (k == 1 && bytes_eq name (codes "not")) (k == 1 && bytes_eq name (codes "once")) (k == 2 && bytes_eq name (codes ":=")) (is_catch name k) (is_call name k)
unfolding form_of
form-tested name k = tested (k == 1 && bytes_eq name (codes "not")) (k == 1 && bytes_eq name (codes "once")) (k == 2 && bytes_eq name (codes ":=")) (is_catch name k) (is_call name k) (k == 2 && bytes_eq name (codes "in"))

pub predicate-of : (defined : List Named) (known : Knows) → Has defined known → (name : List ℕ) (k : ℕ) (exps : Bool) (value goal : ℕ → Bool) (Exps : List Reading → Type 0) (Value Goal : ℕ → Type 0) →
    Arguments name k exps value goal (Exps []) Value Goal → (is_built_predicate name k ≡ true → exps ≡ true → Exps (readings name k)) → AreKnown defined (goal_calls name k) → is_built_form (form_of name k) name k exps value goal ≡ true →
    IsPredicateCall known (form_of name k) name k (Exps (readings name k)) Value Goal
predicate-of defined known has name k exps value goal Exps Value Goal arguments read calls built = go (form_of name k) (form-tested name k) built
  where
    go : (form : Option Form) → IsTested form (k == 1 && bytes_eq name (codes "not")) (k == 1 && bytes_eq name (codes "once")) (k == 2 && bytes_eq name (codes ":=")) (is_catch name k) (is_call name k) → is_built_form form name k exps value goal ≡ true →
        IsPredicateCall known form name k (Exps (readings name k)) Value Goal
    go None is h =
        let both = and_parts exps (is_built_predicate name k) h in
        (read both.1 both.0, predicate-there defined known has name k both.1 calls)
    go (Some Form.negation) is h = arguments.inner 0 (negation-place name k is) h
    go (Some Form.once) is h = arguments.inner 0 (once-place name k is) h
    go (Some Form.assignment) is h = arguments.one 1 (assigned-place name k is) h
    go (Some Form.catch) is h =
        let both = and_parts (goal 0) (value 1 && goal 2) h in
        let rest = and_parts (value 1) (goal 2) both.1 in
        let places = catch-places name k is in
        (arguments.inner 0 places.0.0 both.0, arguments.one 1 places.0.1 rest.0, arguments.inner 2 places.1 rest.1)
    go (Some Form.by_term) is h = let plain = term-plain name k is in subst Exps (sym plain.1) (arguments.all plain.0 h)
    go (Some Form.membership) is h = absurd cc

-- ---- assignments

-- what is assigned, in a call of two arguments
two-assigned : (e d : ExpTree) → is_variable e ≡ true → IsAssigned (Some Form.assignment) (exp e (exp d no_exps))
two-assigned (var name) d h = tt
two-assigned e d h = absurd cc

assigned-in : (name : List ℕ) (es : ExpTrees) → IsSpelled name (exp_count es) (codes ":=") 2 → is_assigned (Some Form.assignment) es ≡ true → IsAssigned (Some Form.assignment) es
unfolding exp_count
assigned-in name no_exps is h = absurd cc
assigned-in name (exp e no_exps) is h = absurd cc
assigned-in name (exp e (exp d no_exps)) is h = two-assigned e d h
assigned-in name (exp e (exp d (exp c es))) is h =
    let more : suc (suc (suc (exp_count es))) ≡ 2 = eqb-true (suc (suc (suc (exp_count es)))) 2 (and_parts (suc (suc (suc (exp_count es))) == 2) (bytes_eq name (codes ":=")) is).0 in absurd (omega arith)

pub assigned-of : (name : List ℕ) (es : ExpTrees) → is_assigned (form_of name (exp_count es)) es ≡ true → IsAssigned (form_of name (exp_count es)) es
assigned-of name es h = go (form_of name (exp_count es)) (form-tested name (exp_count es)) h
  where
    go : (form : Option Form) → IsTested form (exp_count es == 1 && bytes_eq name (codes "not")) (exp_count es == 1 && bytes_eq name (codes "once")) (exp_count es == 2 && bytes_eq name (codes ":=")) (is_catch name (exp_count es)) (is_call name (exp_count es)) →
        is_assigned form es ≡ true → IsAssigned form es
    go None is h = tt
    go (Some Form.negation) is h = tt
    go (Some Form.once) is h = tt
    go (Some Form.assignment) is h = assigned-in name es is h
    go (Some Form.catch) is h = tt
    go (Some Form.by_term) is h = tt
    go (Some Form.membership) is h = tt

-- ---- atoms

pub atom-of : (defined : List Named) (known : Knows) → Has defined known → (name : List ℕ) → is_built_atom name ≡ true → AreKnown defined (goal_calls name 0) →
    IsAtomGoal known (bytes_eq name (codes "true")) (bytes_eq name (codes "fail")) name
atom-of defined known has name built calls = go (bytes_eq name (codes "true")) (bytes_eq name (codes "fail")) built
  where
    go : (holds fails : Bool) → (holds || (fails || is_built_predicate name 0)) ≡ true → IsAtomGoal known holds fails name
    go true fails h = tt
    go false true h = tt
    go false false h = predicate-there defined known has name 0 h calls
