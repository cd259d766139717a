-- Functions that make variables: lists and arrays of new ones, and copies (A User's Guide to Picat, 'Data Types, Operators, and Built-ins'; limits, what is
-- raised and the numbers of new variables are own).
use Rattle.std.specs.Prelude.{ℕ, zero, suc, ◌+◌, ◌*◌, nat_lt, cond, pos, negsuc, List, [], ◌∷◌, map, Option, Some, None, codes}
use Rattle.std.specs.List.{range_with_len}
use Rattle.pi_terms.specs.Tree.{Tree, var, int, atom, comp, cells, most_cells}
use Rattle.pi_terms.specs.Copy.{copy, new_variables}
use Rattle.pi_constraints.specs.Value.{value}
use Rattle.pi_constraints.specs.State.{State, bindings, next, followed}
use Rattle.pi_constraints.specs.Evaluation.{with_new_variables}
use Rattle.pi_effects.specs.Effect.{FunctionEffect, Gives, Refuses}
use Rattle.pi_effects.specs.Exception.{term_too_large, bad_index, range_too_long}
use Rattle.pi_effects.specs.Items.{list_of, array_of}
use Rattle.pi_effects.specs.Ranges.{most_items}
use Rattle.pi_effects.specs.Rows.{of_one, of_two, Row, line}

-- a size: an integer from 0
abbrev pub size_at : Tree → Option ℕ
size_at (var n) = None
size_at (int (pos n)) = Some n
size_at (int (negsuc n)) = None
size_at (atom name) = None
size_at (comp name ts) = None

abbrev pub size_or_raised : Option ℕ → Tree → (ℕ → FunctionEffect) → FunctionEffect
size_or_raised None ball f = Refuses ball
size_or_raised (Some n) ball f = f n

abbrev pub size_then : State → Tree → (ℕ → FunctionEffect) → FunctionEffect
size_then s t f = size_or_raised (size_at (followed (bindings s) t)) (bad_index t s) f

abbrev pub so_many : ℕ → FunctionEffect → FunctionEffect
so_many n e = cond (nat_lt most_items n) (Refuses range_too_long) e

-- so many new variables, from this number on; and rows of them
abbrev pub new_from : ℕ → ℕ → List Tree
new_from first n = map var (range_with_len first n)

unfoldable pub new_rows : ℕ → ℕ → ℕ → List Tree
new_rows zero n first = []
new_rows (suc m) n first = array_of (new_from first n) ∷ new_rows m n (first + n)

-- a list or an array of new variables
abbrev pub new_items : (List Tree → Tree) → State → Tree → FunctionEffect
new_items make s t = size_then s t (λ n. so_many n (Gives (make (new_from (next s) n)) (with_new_variables n s)))

-- an array of arrays; each size is judged before the next
abbrev pub new_grid : State → Tree → Tree → FunctionEffect
new_grid s t u =
    size_then s t (λ m. so_many m (size_then s u (λ n. so_many (m * n) (Gives (array_of (new_rows m n (next s))) (with_new_variables (m * n) s)))))

-- the value of a term with new variables in place of its own
abbrev pub copied : State → Tree → FunctionEffect
copied s t = cond (nat_lt most_cells (cells t)) (Refuses term_too_large) (Gives (copy (next s) t) (with_new_variables (new_variables t) s))

unfoldable pub making_functions : List (Row FunctionEffect)
making_functions =
    line (codes "new_list") (of_one (new_items list_of)) ∷
    line (codes "new_array") (of_one (new_items array_of)) ∷
    line (codes "new_array") (of_two new_grid) ∷
    line (codes "copy_term") (of_one (λ s t. copied s (value (bindings s) t))) ∷
    []
