-- Names of goals of constraints, of functions of domains and of `solve`, told apart by tests of names.
use Rattle.std.proofs.Common.{◌≡◌, ◌<◌, ℕ, zero, suc, Bool, true, false, List, [], ◌∷◌, refl, arith}
use Rattle.std.specs.Prelude.{◌==◌, ◌&&◌, ◌||◌, codes}
use Rattle.std.specs.Str.{bytes_eq}
use Rattle.std.proofs.lemmas.Bool.{and_parts}
use Rattle.pi_effects.specs.Rows.{has_line}
use Rattle.pi_settling.specs.DomainValues.{domain_functions, is_domain_function}
use Rattle.pi_settling.specs.Goals.{constraint_goals, is_constraint_goal}
use Rattle.pi_settling.specs.SolveCalls.{solve_calls, is_solve}
use Rattle.pi_meaning.specs.OverNames.Forms.{is_constraint, is_connective}
use Rattle.pi_meaning.proofs.Shared.TableLemmas.{Test, one-of, each-spelled, body-holds, each-line, lines-hold}
use Rattle.pi_rewrite_sound.specs.Built.{is_boolean_sign}
use Rattle.pi_rewrite_sound.proofs.PlainNames.{listed, spelled}

-- two tests that hold where the other does
pub same-tests : (a b : Bool) → (a ≡ true → b ≡ true) → (b ≡ true → a ≡ true) → a ≡ b
same-tests true b f g = let e : b ≡ true = f refl in cc
same-tests false true f g = let e : false ≡ true = g refl in cc
same-tests false false f g = refl

-- of two spellings, with so many arguments
two-spelled : (P : Test) (name one two : List ℕ) (k j : ℕ) → (k == j && (bytes_eq name one || bytes_eq name two)) ≡ true → P one j ≡ true → P two j ≡ true → P name k ≡ true
two-spelled P name one two k j found h i =
    let parts = and_parts (k == j) (bytes_eq name one || bytes_eq name two) found in
    one-of (bytes_eq name one) (bytes_eq name two) (P name k) (λ e. spelled P name one k j (with-count parts.0 e) h) (λ e. spelled P name two k j (with-count parts.0 e) i) parts.1
  where
    with-count : {b : Bool} → (k == j) ≡ true → b ≡ true → (k == j && b) ≡ true
    with-count c e = rw (c, e) refl

-- ---- goals of constraints

abbrev is_goal_named : Test
is_goal_named name k =
    is_boolean_sign name k
    || ((k == 2 && (bytes_eq name (codes "::") || bytes_eq name (codes "notin")))
    || ((k == 1 && (bytes_eq name (codes "all_different") || bytes_eq name (codes "all_distinct"))) || (k == 3 && bytes_eq name (codes "element"))))

named-goal : (name : List ℕ) (k : ℕ) → is_constraint_goal name k ≡ true → is_goal_named name k ≡ true
unfolding constraint_goals each-line body-holds
named-goal name k is = lines-hold (λ n j. is_goal_named n j) constraint_goals refl name k is

goal-named : (name : List ℕ) (k : ℕ) → is_goal_named name k ≡ true → is_constraint_goal name k ≡ true
unfolding constraint_goals has_line each-spelled
goal-named name k h =
    let P : Test = λ n j. is_constraint_goal n j in
    one-of (is_boolean_sign name k) _ (P name k)
    (one-of (is_connective name k) (is_constraint name k) (P name k)
    (one-of (k == 1 && bytes_eq name (codes "#~")) _ (P name k) (λ e. spelled P name (codes "#~") k 1 e refl)
    (listed P k 2 (codes "#/\\" ∷ codes "#\\/" ∷ codes "#^" ∷ codes "#=>" ∷ codes "#<=>" ∷ []) refl name))
    (listed P k 2 (codes "#=" ∷ codes "#!=" ∷ codes "#<" ∷ codes "#=<" ∷ codes "#<=" ∷ codes "#>" ∷ codes "#>=" ∷ []) refl name))
    (one-of (k == 2 && _) _ (P name k) (λ e. two-spelled P name (codes "::") (codes "notin") k 2 e refl refl)
    (one-of (k == 1 && _) (k == 3 && _) (P name k) (λ e. two-spelled P name (codes "all_different") (codes "all_distinct") k 1 e refl refl) (λ e. spelled P name (codes "element") k 3 e refl))) h

pub goal-tested : (name : List ℕ) (k : ℕ) → is_goal_named name k ≡ is_constraint_goal name k
goal-tested name k = same-tests (is_goal_named name k) (is_constraint_goal name k) (goal-named name k) (named-goal name k)

-- the same, each test by what it comes to
pub goal-by : (name : List ℕ) (k : ℕ) (sign one two three four five : Bool) → sign ≡ is_boolean_sign name k → one ≡ bytes_eq name (codes "::") → two ≡ bytes_eq name (codes "notin") →
    three ≡ bytes_eq name (codes "all_different") → four ≡ bytes_eq name (codes "all_distinct") → five ≡ bytes_eq name (codes "element") →
    (sign || ((k == 2 && (one || two)) || ((k == 1 && (three || four)) || (k == 3 && five)))) ≡ is_constraint_goal name k
goal-by name k sign one two three four five a b d e f g = rw (a, b, d, e, f, g) (goal-tested name k)

-- ---- functions of domains

abbrev is_function_named : Test
is_function_named name k = k == 1 && (bytes_eq name (codes "fd_min") || (bytes_eq name (codes "fd_max") || (bytes_eq name (codes "fd_size") || bytes_eq name (codes "fd_dom"))))

named-function : (name : List ℕ) (k : ℕ) → is_domain_function name k ≡ true → is_function_named name k ≡ true
unfolding domain_functions each-line body-holds
named-function name k is = lines-hold (λ n j. is_function_named n j) domain_functions refl name k is

function-named : (name : List ℕ) (k : ℕ) → is_function_named name k ≡ true → is_domain_function name k ≡ true
unfolding domain_functions has_line each-spelled
function-named name k h =
    let P : Test = λ n j. is_domain_function n j in
    let parts = and_parts (k == 1) _ h in
    let is : (n : List ℕ) → P n 1 ≡ true → bytes_eq name n ≡ true → P name k ≡ true = λ n there e. spelled P name n k 1 (rw (parts.0, e) refl) there in
    one-of (bytes_eq name (codes "fd_min")) _ (P name k) (is (codes "fd_min") refl)
    (one-of (bytes_eq name (codes "fd_max")) _ (P name k) (is (codes "fd_max") refl)
    (one-of (bytes_eq name (codes "fd_size")) (bytes_eq name (codes "fd_dom")) (P name k) (is (codes "fd_size") refl) (is (codes "fd_dom") refl))) parts.1

pub function_tested : (name : List ℕ) (k : ℕ) → is_function_named name k ≡ is_domain_function name k
function_tested name k = same-tests (is_function_named name k) (is_domain_function name k) (function-named name k) (named-function name k)

-- ---- `solve`

neither : (b : Bool) → ((b && false) || ((b && false) || false)) ≡ false
neither true = refl
neither false = refl

-- no call with more than two arguments labels
pub no-solve : (name : List ℕ) (k : ℕ) → 2 < k → is_solve name k ≡ false
unfolding has_line solve_calls
no-solve name zero h = absurd (omega (arith, h))
no-solve name (suc zero) h = absurd (omega (arith, h))
no-solve name (suc (suc zero)) h = absurd (omega (arith, h))
no-solve name (suc (suc (suc k))) h = neither (bytes_eq (codes "solve") name)
