-- Calls that are forms of control, and calls as expressions, are the same where their parts are that are asked for.
use Rattle.std.specs.Prelude.{◌≡◌, ◌&&◌, ◌||◌, ℕ, Bool, true, false, cond, List, Option, Some, None, codes, refl}
use Rattle.std.specs.Str.{bytes_eq}
use Rattle.std.proofs.lemmas.Bool.{and_parts}
use Rattle.pi_terms.specs.Tree.{comp}
use Rattle.pi_traces.specs.Trace.{done, one}
use Rattle.pi_meaning.specs.OverNames.Environment.{Valued}
use Rattle.pi_meaning.specs.OverNames.Place.{Place}
use Rattle.pi_meaning.specs.Shared.Names.{is_call}
use Rattle.pi_meaning.specs.Shared.Given.{Setting}
use Rattle.pi_meaning.specs.OverNames.Control.{Goal, Value, Values, nothing, made_of, applied_to, all_found, all_counted, called_with, assigning, denying, taken_once, catching, goal_at, value_at}
use Rattle.pi_meaning.specs.OverNames.Forms.{Form, negation, once, assignment, catch, by_term, membership, form_of, Parts, call_goal, atom_goal, Reading, plain, operand, boolean, ranged, is_operand_node, is_sum, is_connective, is_constraint, is_find_all, is_count_all, call_value, range_value}
use Rattle.pi_meaning.proofs.OverNames.FormNames.{by_term-named}
use Rattle.pi_rewrite_sound.specs.Built.{is_built_predicate, is_built_function, is_built_value_call, is_built_form, is_built_atom}
use Rattle.pi_rewrite_spec.proofs.ReadingLemmas.{stays-apart}
use Rattle.pi_rewrite_sound.proofs.CallLemmas.{CallsAlike, Counted, nothing-counted, called-alike, applied-alike}

-- ---- goals

-- a name that is no `call` with so many arguments has another form
pub no-term : (name : List ℕ) (k : ℕ) → is_call name k ≡ false → form_of name k ≡ Some by_term → ⊥
no-term name k other is = let named : is_call name k ≡ true = by_term-named name k is in absurd cc

pub form-alike : (a b : Setting) → CallsAlike a b → (o : Option Form) (name : List ℕ) (k : ℕ) (x y : Parts) (exps : Bool) (value goal : ℕ → Bool) → (o ≡ Some by_term → ⊥) → is_built_form o name k exps value goal ≡ true →
    Counted Place k x.all → x.variable ≡ y.variable → (exps ≡ true → x.all ≡ y.all) → ((i : ℕ) → value i ≡ true → value_at x.values i ≡ value_at y.values i) →
    ((i : ℕ) → goal i ≡ true → goal_at x.goals i ≡ goal_at y.goals i) → call_goal a name o x ≡ call_goal b name o y
form-alike a b h None name k x y exps value goal other built counted same all values goals =
    let parts = and_parts exps (is_built_predicate name k) built in
    called-alike a b h name k parts.1 x.all y.all counted (all parts.0)
form-alike a b h (Some negation) name k x y exps value goal other built counted same all values goals = λ i. denying (goals 0 built i)
form-alike a b h (Some once) name k x y exps value goal other built counted same all values goals = λ i. taken_once (goals 0 built i)
form-alike a b h (Some assignment) name k x y exps value goal other built counted same all values goals = λ i. assigning (same i) (values 1 built i)
form-alike a b h (Some catch) name k x y exps value goal other built counted same all values goals =
    let parts = and_parts (goal 0) (value 1 && goal 2) built in
    let rest = and_parts (value 1) (goal 2) parts.1 in
    λ i. catching (goals 0 parts.0 i) (values 1 rest.0 i) (goals 2 rest.1 i)
form-alike a b h (Some by_term) name k x y exps value goal other built counted same all values goals = absurd (other refl)
form-alike a b h (Some membership) name k x y exps value goal other built counted same all values goals = absurd cc

-- what an atom does, by whether it is `true` or `fail`
abbrev atom-by : Setting → List ℕ → Bool → Bool → Goal
atom-by set name t f l p = cond t (one p) (cond f done (called_with set name nothing l p))

atom-tested : (a b : Setting) → CallsAlike a b → (name : List ℕ) (t f : Bool) → (t || (f || is_built_predicate name 0)) ≡ true → atom-by a name t f ≡ atom-by b name t f
atom-tested a b h name true f built = refl
atom-tested a b h name false true built = refl
atom-tested a b h name false false built = λ i l p. called-alike a b h name 0 built nothing nothing nothing-counted refl i l p

pub atom-alike : (a b : Setting) → CallsAlike a b → (name : List ℕ) → is_built_atom name ≡ true → atom_goal a name ≡ atom_goal b name
unfolding atom_goal
atom-alike a b h name built = λ i l p. atom-tested a b h name (bytes_eq name (codes "true")) (bytes_eq name (codes "fail")) built i l p

-- ---- expressions

-- a call as an expression, by whether it is one of `find_all` or of `count_all`
abbrev value-by : Setting → List ℕ → Parts → Bool → Bool → Value
value-by set name x f c = cond f (all_found (value_at x.late 0) (goal_at x.goals 1)) (cond c (all_counted (goal_at x.goals 0)) (applied_to set name x.all))

abbrev built-by : List ℕ → ℕ → Bool → (ℕ → Bool) → (ℕ → Bool) → Bool → Bool → Bool
built-by name k exps value goal f c = cond f (value 0 && goal 1) (cond c (goal 0) (exps && is_built_function name k))

module _ (a b : Setting) (h : CallsAlike a b) (name : List ℕ) (k : ℕ) (x y : Parts) (exps : Bool) (value goal : ℕ → Bool) (counted : Counted Valued k x.all) (all : exps ≡ true → x.all ≡ y.all)
    (values : (i : ℕ) → value i ≡ true → value_at x.late i ≡ value_at y.late i) (goals : (i : ℕ) → goal i ≡ true → goal_at x.goals i ≡ goal_at y.goals i) where
  value-tested : (f c : Bool) → built-by name k exps value goal f c ≡ true → value-by a name x f c ≡ value-by b name y f c
  value-tested true c built = let parts = and_parts (value 0) (goal 1) built in λ i. all_found (values 0 parts.0 i) (goals 1 parts.1 i)
  value-tested false true built = λ i. all_counted (goals 0 built i)
  value-tested false false built =
      let parts = and_parts exps (is_built_function name k) built in
      applied-alike a b h name k parts.1 x.all y.all counted (all parts.0)

  -- a node that stays as structure
  node-tested : (t f c : Bool) → (t ≡ true → (f ≡ false) × (c ≡ false)) → built-by name k exps value goal f c ≡ true →
      cond t (made_of (comp name) x.all) (value-by a name x f c) ≡ cond t (made_of (comp name) y.all) (value-by b name y f c)
  node-tested true true c none built = absurd (let e = (none refl).0 in cc)
  node-tested true false true none built = absurd (let e = (none refl).1 in cc)
  node-tested true false false none built = λ i. made_of (comp name) (all (and_parts exps (is_built_function name k) built).0 i)
  node-tested false f c none built = value-tested f c built

  pub call-value-alike : (r : Reading) → is_built_value_call name k exps value goal ≡ true → call_value a r name k x ≡ call_value b r name k y
  unfolding call_value
  call-value-alike plain built = value-tested (is_find_all name k) (is_count_all name k) built
  call-value-alike ranged built = value-tested (is_find_all name k) (is_count_all name k) built
  call-value-alike operand built = node-tested (is_operand_node name k || is_sum name k) (is_find_all name k) (is_count_all name k) (stays-apart operand name k) built
  call-value-alike boolean built = node-tested (is_connective name k || is_constraint name k) (is_find_all name k) (is_count_all name k) (stays-apart boolean name k) built

pub range-alike : (a b : Setting) → CallsAlike a b → (r : Reading) (k : ℕ) → is_built_function (codes "..") k ≡ true → (vs ws : Values) → Counted Valued k vs → vs ≡ ws → range_value a r vs ≡ range_value b r ws
unfolding range_value
range-alike a b h plain k built vs ws counted e = applied-alike a b h (codes "..") k built vs ws counted e
range-alike a b h operand k built vs ws counted e = applied-alike a b h (codes "..") k built vs ws counted e
range-alike a b h boolean k built vs ws counted e = applied-alike a b h (codes "..") k built vs ws counted e
range-alike a b h ranged k built vs ws counted e = λ i. made_of (comp (codes "..")) (e i)
