-- Values of built-in functions speak of variables that were made, and the state after them is calm.
use Rattle.std.proofs.Common.{◌≡◌, ℕ, ℤ, ◌+◌, ◌*◌, Bool, true, false, cond, List, [], ◌∷◌, map, refl, sym, subst}
use Rattle.std.specs.Prelude.{nat_lt, pos, Option, Some, None, option_map, Ok, Err, ⊤}
use Rattle.pi_terms.specs.Tree.{Tree, int, Trees, cells, most_cells}
use Rattle.pi_terms.specs.Copy.{copy, new_variables}
use Rattle.pi_constraints.specs.Value.{value}
use Rattle.pi_constraints.specs.State.{State, bindings, next, followed, SpeaksBelow}
use Rattle.pi_constraints.specs.Evaluation.{with_new_variables}
use Rattle.pi_prop_spec.specs.Ends.{least_of, greatest_of}
use Rattle.pi_constraints.specs.declared.domain.Span.{Span}
use Rattle.pi_constraints.specs.Domain.{values_of, size_of}
use Rattle.pi_effects.specs.Answer.{Answer, found_or}
use Rattle.pi_effects.specs.Effect.{FunctionEffect, Gives, Refuses}
use Rattle.pi_effects.specs.Exception.{term_too_large, bad_index, range_too_long}
use Rattle.pi_effects.specs.Items.{list_of, array_of}
use Rattle.pi_effects.specs.Ranges.{most_items}
use Rattle.pi_effects.specs.Making.{size_at, size_or_raised, so_many, new_from, new_rows, new_items, new_grid, copied, making_functions}
use Rattle.pi_effects.specs.Rows.{done_by}
use Rattle.pi_effects.specs.BuiltIns.{reading_functions, answer_in, built_in_function}
use Rattle.pi_effects.proofs.RowLemmas.{same_given, given-or}
use Rattle.pi_constraints.proofs.KeepsLemmas.{TreesBelow, int-below, news-next, copy-below}
use Rattle.pi_meaning.proofs.CoreMeaning.ItemsBelow.{ItemsBelow, array-below, list-below, new-below, rows-below}
use Rattle.pi_meaning.proofs.CoreMeaning.AnswersBelow.{AnswerBelow, LinesKeep, ◌&◌, lines-keep}
use Rattle.pi_meaning.proofs.CoreMeaning.TablesKeep.{reading-keeps}
use Rattle.pi_settling.specs.Calm.{IsCalm}
use Rattle.pi_settling.specs.DomainValues.{domain_at, value_list, domain_functions, domain_function}
use Rattle.pi_meaning.proofs.CoreMeaning.CalmStates.{CalmLater, calm-itself, news-calm}

-- the state after a function is later, and the value speaks of its variables
abbrev pub GivesKept : State → FunctionEffect → Type 0
GivesKept s (Gives t r) = CalmLater s r × SpeaksBelow (next r) t
GivesKept s (Refuses ball) = ⊤

-- ---- functions that make variables

-- a value that speaks of what was made and of so many new variables
given-new : (s : State) (k : ℕ) (t : Tree) → IsCalm s → SpeaksBelow (next s + k) t → GivesKept s (Gives t (with_new_variables k s))
given-new s k t is below = (news-calm k s is, subst (λ (n : ℕ). SpeaksBelow n t) (sym (news-next k s)) below)

size-keeps : (s : State) (o : Option ℕ) (ball : Tree) (f : ℕ → FunctionEffect) → ((k : ℕ) → GivesKept s (f k)) → GivesKept s (size_or_raised o ball f)
size-keeps s None ball f each = tt
size-keeps s (Some k) ball f each = each k

unless-keeps : (s : State) (c : Bool) (ball : Tree) (e : FunctionEffect) → GivesKept s e → GivesKept s (cond c (Refuses ball) e)
unless-keeps s true ball e h = tt
unless-keeps s false ball e h = h

new-items-keep : (make : List Tree → Tree) → ((n : ℕ) (ts : List Tree) → ItemsBelow n ts → SpeaksBelow n (make ts)) → (s : State) → IsCalm s → (t : Tree) → GivesKept s (new_items make s t)
new-items-keep make made s is t =
    size-keeps s (size_at (followed (bindings s) t)) (bad_index t s) (λ k. so_many k (Gives (make (new_from (next s) k)) (with_new_variables k s)))
    (λ k. unless-keeps s (nat_lt most_items k) range_too_long (Gives (make (new_from (next s) k)) (with_new_variables k s))
    (given-new s k (make (new_from (next s) k)) is (made (next s + k) (new_from (next s) k) (new-below (next s) k))))

new-grid-keeps : (s : State) → IsCalm s → (t u : Tree) → GivesKept s (new_grid s t u)
new-grid-keeps s is t u =
    size-keeps s (size_at (followed (bindings s) t)) (bad_index t s) _
    (λ m. unless-keeps s (nat_lt most_items m) range_too_long _
    (size-keeps s (size_at (followed (bindings s) u)) (bad_index u s) _
    (λ k. unless-keeps s (nat_lt most_items (m * k)) range_too_long (Gives (array_of (new_rows m k (next s))) (with_new_variables (m * k) s))
    (given-new s (m * k) (array_of (new_rows m k (next s))) is (array-below (next s + m * k) (new_rows m k (next s)) (rows-below m k (next s)))))))

copied-keeps : (s : State) → IsCalm s → (t : Tree) → GivesKept s (copied s t)
copied-keeps s is t =
    unless-keeps s (nat_lt most_cells (cells t)) term_too_large (Gives (copy (next s) t) (with_new_variables (new_variables t) s))
    (given-new s (new_variables t) (copy (next s) t) is (copy-below (next s) t))

making-keeps : (s : State) → IsCalm s → LinesKeep (GivesKept s) s making_functions
unfolding making_functions
making-keeps s is =
    (λ t below. new-items-keep list_of list-below s is t) &
    (λ t below. new-items-keep array_of array-below s is t) &
    (λ t u below other. new-grid-keeps s is t u) &
    (λ t below. copied-keeps s is (value (bindings s) t)) &
    tt

-- ---- all functions

answer-keeps : (s : State) → IsCalm s → (a : Answer Tree) → AnswerBelow (next s) a → GivesKept s (answer_in s a)
answer-keeps s is (Ok t) below = (calm-itself s is, below)
answer-keeps s is (Err ball) below = tt

answered-keeps : (s : State) → IsCalm s → (o : Option (Answer Tree)) → ((a : Answer Tree) → o ≡ Some a → AnswerBelow (next s) a) → (e : FunctionEffect) →
    option_map (answer_in s) o ≡ Some e → GivesKept s e
answered-keeps s is None each e h = absurd (cc)
answered-keeps s is (Some a) each e h = same_given (GivesKept s) h (answer-keeps s is a (each a refl))

pub function-keeps : (name : List ℕ) (ts : Trees) (s : State) → IsCalm s → TreesBelow (next s) ts → (e : FunctionEffect) → built_in_function name ts s ≡ Some e → GivesKept s e
unfolding built_in_function
function-keeps name ts s is below e h =
    given-or (GivesKept s) (option_map (answer_in s) (done_by reading_functions name ts s)) (done_by making_functions name ts s) e h
    (answered-keeps s is (done_by reading_functions name ts s)
    (λ a given. lines-keep (AnswerBelow (next s)) reading_functions name ts s a (reading-keeps s is.state) below given) e)
    (lines-keep (GivesKept s) making_functions name ts s e (making-keeps s is) below)

-- ---- functions of domains

integers-below : (n : ℕ) (is : List ℤ) → ItemsBelow n (map int is)
unfolding ItemsBelow
integers-below n [] = tt
integers-below n (i ∷ is) = (int-below n i, integers-below n is)

domain-below : (n : ℕ) (o : Option (List Span)) (ball : Tree) (f : List Span → Answer Tree) → ((d : List Span) → AnswerBelow n (f d)) → AnswerBelow n (found_or o ball f)
domain-below n None ball f each = tt
domain-below n (Some d) ball f each = each d

values-below : (n : ℕ) (d : List Span) → AnswerBelow n (value_list d)
values-below n d = go (nat_lt most_items (size_of d))
  where
    go : (b : Bool) → AnswerBelow n (cond b (Err range_too_long) (Ok (list_of (map int (values_of d)))))
    go true = tt
    go false = list-below n (map int (values_of d)) (integers-below n (values_of d))

domains-keep : (s : State) → LinesKeep (AnswerBelow (next s)) s domain_functions
unfolding domain_functions
domains-keep s =
    (λ t below. domain-below (next s) (domain_at s (followed (bindings s) t)) _ _ (λ d. int-below (next s) (least_of d))) &
    (λ t below. domain-below (next s) (domain_at s (followed (bindings s) t)) _ _ (λ d. int-below (next s) (greatest_of d))) &
    (λ t below. domain-below (next s) (domain_at s (followed (bindings s) t)) _ _ (λ d. int-below (next s) (pos (size_of d)))) &
    (λ t below. domain-below (next s) (domain_at s (followed (bindings s) t)) _ _ (λ d. values-below (next s) d)) &
    tt

pub domain-keeps : (name : List ℕ) (ts : Trees) (s : State) → IsCalm s → TreesBelow (next s) ts → (e : FunctionEffect) → domain_function name ts s ≡ Some e → GivesKept s e
domain-keeps name ts s is below e h =
    answered-keeps s is (done_by domain_functions name ts s) (λ a given. lines-keep (AnswerBelow (next s)) domain_functions name ts s a (domains-keep s) below given) e h
