-- The form of a call, by the tests that tell it.
use Rattle.std.proofs.Common.{◌≡◌, ℕ, true, false, cond, List, None, Some, sym, ◌∙◌, ap}
use Rattle.std.proofs.lemmas.Bool.{cond-true, cond-false}
use Rattle.std.specs.Prelude.{◌==◌, ◌&&◌, Option, codes}
use Rattle.std.specs.Str.{bytes_eq}
use Rattle.pi_meaning.specs.Shared.Names.{is_catch, is_call}
use Rattle.pi_meaning.specs.OverNames.Forms.{Form, negation, once, assignment, catch, by_term, membership, form_of, is_find_all, is_count_all}
use Rattle.pi_rewrite_spec.specs.Slots.{SlotNames}
use Rattle.pi_rewrite_spec.specs.Values.{applied}
use Rattle.pi_rewrite_spec.specs.Goals.{SlotParts, call_value, found_by, all_counted, goals_at, value_at}
use Rattle.pi_rewrite_goals.specs.Calls.{term_form, HasCount, IsTermForm}
use Rattle.pi_rewrite_goals.specs.declared.calls.CallForm.{CallForm}
use Rattle.pi_rewrite_goals.specs.declared.calls.CallForm.TheVariants.{Negation, Once, Assignment, Catch, Never, Plain}

abbrev catch_form : List ℕ → ℕ → Option Form
catch_form name k = cond (is_catch name k) (Some catch) (term_form name k)

abbrev assignment_form : List ℕ → ℕ → Option Form
assignment_form name k = cond (k == 2 && bytes_eq name (codes ":=")) (Some assignment) (catch_form name k)

abbrev once_form : List ℕ → ℕ → Option Form
once_form name k = cond (k == 1 && bytes_eq name (codes "once")) (Some once) (assignment_form name k)

pub form-not : (name : List ℕ) (k : ℕ) → (k == 1 && bytes_eq name (codes "not")) ≡ true → form_of name k ≡ Some negation
unfolding form_of
form-not name k holds = cond-true (k == 1 && bytes_eq name (codes "not")) (Some negation) (once_form name k) holds

behind-not : (name : List ℕ) (k : ℕ) → (k == 1 && bytes_eq name (codes "not")) ≡ false → form_of name k ≡ once_form name k
unfolding form_of
behind-not name k fails = cond-false (k == 1 && bytes_eq name (codes "not")) (Some negation) (once_form name k) fails

pub form-once : (name : List ℕ) (k : ℕ) → (k == 1 && bytes_eq name (codes "not")) ≡ false → (k == 1 && bytes_eq name (codes "once")) ≡ true → form_of name k ≡ Some once
form-once name k fails holds = behind-not name k fails ∙ cond-true (k == 1 && bytes_eq name (codes "once")) (Some once) (assignment_form name k) holds

behind-once : (name : List ℕ) (k : ℕ) → (k == 1 && bytes_eq name (codes "not")) ≡ false → (k == 1 && bytes_eq name (codes "once")) ≡ false → form_of name k ≡ assignment_form name k
behind-once name k fails nor = behind-not name k fails ∙ cond-false (k == 1 && bytes_eq name (codes "once")) (Some once) (assignment_form name k) nor

pub form-assignment : (name : List ℕ) (k : ℕ) → (k == 1 && bytes_eq name (codes "not")) ≡ false → (k == 1 && bytes_eq name (codes "once")) ≡ false → (k == 2 && bytes_eq name (codes ":=")) ≡ true → form_of name k ≡ Some assignment
form-assignment name k fails nor holds = behind-once name k fails nor ∙ cond-true (k == 2 && bytes_eq name (codes ":=")) (Some assignment) (catch_form name k) holds

behind-assignment : (name : List ℕ) (k : ℕ) → (k == 1 && bytes_eq name (codes "not")) ≡ false → (k == 1 && bytes_eq name (codes "once")) ≡ false → (k == 2 && bytes_eq name (codes ":=")) ≡ false → form_of name k ≡ catch_form name k
behind-assignment name k fails nor neither = behind-once name k fails nor ∙ cond-false (k == 2 && bytes_eq name (codes ":=")) (Some assignment) (catch_form name k) neither

pub form-catch : (name : List ℕ) (k : ℕ) → (k == 1 && bytes_eq name (codes "not")) ≡ false → (k == 1 && bytes_eq name (codes "once")) ≡ false → (k == 2 && bytes_eq name (codes ":=")) ≡ false → (k == 3 && bytes_eq name (codes "catch")) ≡ true → form_of name k ≡ Some catch
form-catch name k fails nor neither holds = behind-assignment name k fails nor neither ∙ cond-true (is_catch name k) (Some catch) (term_form name k) holds

pub form-other : (name : List ℕ) (k : ℕ) → (k == 1 && bytes_eq name (codes "not")) ≡ false → (k == 1 && bytes_eq name (codes "once")) ≡ false → (k == 2 && bytes_eq name (codes ":=")) ≡ false → (k == 3 && bytes_eq name (codes "catch")) ≡ false → form_of name k ≡ term_form name k
form-other name k fails nor neither not = behind-assignment name k fails nor neither ∙ cond-false (is_catch name k) (Some catch) (term_form name k) not

pub form-by_term : (name : List ℕ) (k : ℕ) → is_call name k ≡ true → term_form name k ≡ Some by_term
form-by_term name k holds = cond-true (is_call name k) (Some by_term) (cond (k == 2 && bytes_eq name (codes "in")) (Some membership) None) holds

pub form-membership : (name : List ℕ) (k : ℕ) → is_call name k ≡ false → (k == 2 && bytes_eq name (codes "in")) ≡ true → term_form name k ≡ Some membership
form-membership name k fails holds = cond-false (is_call name k) (Some by_term) (cond (k == 2 && bytes_eq name (codes "in")) (Some membership) None) fails ∙ cond-true (k == 2 && bytes_eq name (codes "in")) (Some membership) None holds

pub form-none : (name : List ℕ) (k : ℕ) → is_call name k ≡ false → (k == 2 && bytes_eq name (codes "in")) ≡ false → term_form name k ≡ None
form-none name k fails nor = cond-false (is_call name k) (Some by_term) (cond (k == 2 && bytes_eq name (codes "in")) (Some membership) None) fails ∙ cond-false (k == 2 && bytes_eq name (codes "in")) (Some membership) None nor

-- ---- calls as values, with k arguments

pub value-found : (name : List ℕ) (k n : ℕ) (parts : SlotParts) (ns : SlotNames) → n ≡ k → (n == 2 && bytes_eq name (codes "find_all")) ≡ true → call_value name k parts ns ≡ found_by (goals_at parts.goals 1 ns) (value_at parts.values 0)
value-found name k n parts ns same holds =
    cond-true (is_find_all name k) (found_by (goals_at parts.goals 1 ns) (value_at parts.values 0)) (cond (is_count_all name k) (all_counted (goals_at parts.goals 0 ns)) (applied name (parts.all ns))) (ap (λ i. is_find_all name i) (sym same) ∙ holds)

behind-found : (name : List ℕ) (k n : ℕ) (parts : SlotParts) (ns : SlotNames) → n ≡ k → (n == 2 && bytes_eq name (codes "find_all")) ≡ false → call_value name k parts ns ≡ cond (is_count_all name k) (all_counted (goals_at parts.goals 0 ns)) (applied name (parts.all ns))
behind-found name k n parts ns same fails =
    cond-false (is_find_all name k) (found_by (goals_at parts.goals 1 ns) (value_at parts.values 0)) (cond (is_count_all name k) (all_counted (goals_at parts.goals 0 ns)) (applied name (parts.all ns))) (ap (λ i. is_find_all name i) (sym same) ∙ fails)

pub value-counted : (name : List ℕ) (k n : ℕ) (parts : SlotParts) (ns : SlotNames) → n ≡ k → (n == 2 && bytes_eq name (codes "find_all")) ≡ false → (n == 1 && bytes_eq name (codes "count_all")) ≡ true → call_value name k parts ns ≡ all_counted (goals_at parts.goals 0 ns)
value-counted name k n parts ns same fails holds =
    behind-found name k n parts ns same fails ∙ cond-true (is_count_all name k) (all_counted (goals_at parts.goals 0 ns)) (applied name (parts.all ns)) (ap (λ i. is_count_all name i) (sym same) ∙ holds)

pub value-applied : (name : List ℕ) (k n : ℕ) (parts : SlotParts) (ns : SlotNames) → n ≡ k → (n == 2 && bytes_eq name (codes "find_all")) ≡ false → (n == 1 && bytes_eq name (codes "count_all")) ≡ false → call_value name k parts ns ≡ applied name (parts.all ns)
value-applied name k n parts ns same fails nor =
    behind-found name k n parts ns same fails ∙ cond-false (is_count_all name k) (all_counted (goals_at parts.goals 0 ns)) (applied name (parts.all ns)) (ap (λ i. is_count_all name i) (sym same) ∙ nor)

-- ---- forms as code has them

pub term-count : (f : CallForm) (n : ℕ) → IsTermForm f → HasCount f n
term-count Negation n term = absurd term
term-count Once n term = absurd term
term-count Assignment n term = absurd term
term-count Catch n term = absurd term
term-count Never n term = tt
term-count Plain n term = tt
