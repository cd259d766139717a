-- Comparing terms: what can be unified, what is the same, the standard order, and the order of integers (A User's Guide to Picat, 'Equality
-- Testing, and Unification', 'Term Comparison' and 'Arithmetic'; the standard order is own). None of these tests changes the state.
use Rattle.std.specs.Prelude.{ℕ, ℤ, int_lt, int_le, Bool, not, List, [], ◌∷◌, codes, is_none, Ok}
use Rattle.std.specs.Ordering.{is_lt, is_le, is_gt, is_ge, int_eq}
use Rattle.std.specs.declared.cmp.Ordering.{Ordering}
use Rattle.pi_terms.specs.Tree.{Tree}
use Rattle.pi_terms.specs.Order.{order, identical}
use Rattle.pi_constraints.specs.Value.{value}
use Rattle.pi_constraints.specs.State.{State, bindings}
use Rattle.pi_constraints.specs.Unify.{unified}
use Rattle.pi_effects.specs.Answer.{Answer, integers_then}
use Rattle.pi_effects.specs.Rows.{of_two, Row, line}

-- the standard order of two terms' values, and whether the values are the same
abbrev pub value_order : State → Tree → Tree → Ordering
value_order s t u = order (value (bindings s) t) (value (bindings s) u)

abbrev pub is_same : State → Tree → Tree → Bool
is_same s t u = identical (value (bindings s) t) (value (bindings s) u)

-- a test of two terms, of their order, and of two integers
abbrev pub terms_test : List ℕ → (State → Tree → Tree → Bool) → Row (Answer Bool)
terms_test name holds = line name (of_two (λ s t u. Ok (holds s t u)))

abbrev pub order_test : List ℕ → (Ordering → Bool) → Row (Answer Bool)
order_test name holds = line name (of_two (λ s t u. Ok (holds (value_order s t u))))

abbrev pub integers_test : List ℕ → (ℤ → ℤ → Bool) → Row (Answer Bool)
integers_test name holds = line name (of_two (λ s t u. integers_then s t u (λ a b. Ok (holds a b))))

unfoldable pub comparing_tests : List (Row (Answer Bool))
comparing_tests =
    terms_test (codes "!=") (λ s t u. is_none (unified s t u)) ∷
    terms_test (codes "==") is_same ∷
    terms_test (codes "!==") (λ s t u. not (is_same s t u)) ∷
    integers_test (codes "<") (λ a b. int_lt a b) ∷
    integers_test (codes "=<") (λ a b. int_le a b) ∷
    integers_test (codes ">") (λ a b. int_lt b a) ∷
    integers_test (codes ">=") (λ a b. int_le b a) ∷
    integers_test (codes "=:=") int_eq ∷
    integers_test (codes "=\\=") (λ a b. not (int_eq a b)) ∷
    order_test (codes "@<") is_lt ∷
    order_test (codes "@=<") is_le ∷
    order_test (codes "@>") is_gt ∷
    order_test (codes "@>=") is_ge ∷
    []
