-- `X[I]` (A User's Guide to Picat, 'Data Types, Operators, and Built-ins'). As a call it has the name `in`, which no program can call with two
-- arguments, or define (own).
use Rattle.std.specs.Prelude.{ℕ, zero, suc, ℤ, pos, negsuc, List, [], ◌∷◌, Option, None, codes, slice_get}
use Rattle.pi_terms.specs.Tree.{Tree}
use Rattle.pi_constraints.specs.State.{State, bindings}
use Rattle.pi_effects.specs.Exception.{type_error, bad_index}
use Rattle.pi_effects.specs.Answer.{Answer, found_or, or_raised, integer_then}
use Rattle.pi_effects.specs.Items.{indexed_items}
use Rattle.pi_effects.specs.Rows.{of_two, Row, line}

abbrev pub index_name : List ℕ
index_name = codes "in"

-- the item with this number, counted from 1
abbrev pub item_at : List Tree → ℤ → Option Tree
item_at ts (pos zero) = None
item_at ts (pos (suc i)) = slice_get ts i
item_at ts (negsuc i) = None

-- an item of a proper list or of a compound that is no list cell; then the index is judged
unfoldable pub indexed : State → Tree → Tree → Answer Tree
indexed s t i =
    found_or (indexed_items (bindings s) t) (type_error (codes "list") t s) (λ ts. integer_then s i (λ n. or_raised (item_at ts n) (bad_index i s)))

unfoldable pub index_functions : List (Row (Answer Tree))
index_functions = line index_name (of_two indexed) ∷ []
