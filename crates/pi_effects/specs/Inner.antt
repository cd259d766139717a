-- Functions that programs are lowered to and that no text can call or define: their names are those of forms. (Own.)
use Rattle.std.specs.Prelude.{ℕ, pos, cond, List, [], ◌∷◌, reverse, Option, Some, None, unwrap_or, codes, Ok}
use Rattle.std.specs.Str.{bytes_eq}
use Rattle.pi_terms.specs.Tree.{Tree, int, comp, no_trees, tree}
use Rattle.pi_constraints.specs.State.{State, bindings, followed}
use Rattle.pi_syntax.specs.PrintTerm.{array_name}
use Rattle.pi_effects.specs.Exception.{type_error}
use Rattle.pi_effects.specs.Answer.{Answer, found_or, integer_then, integers_then}
use Rattle.pi_effects.specs.Items.{list_of, list_items}
use Rattle.pi_effects.specs.Ranges.{counted_by}
use Rattle.pi_effects.specs.Rows.{of_one, of_two, Row, line}

-- ---- a value as it stands, for what is put into a slot

abbrev pub itself_name : List ℕ
itself_name = codes "once"

abbrev pub itself : State → Tree → Answer Tree
itself s t = Ok t

-- ---- what was gathered from the front, in order

abbrev pub in_order_name : List ℕ
in_order_name = codes "not"

-- the items of a proper list, the last one first; none of any other term
abbrev pub in_order : State → Tree → Answer Tree
in_order s t = Ok (list_of (reverse (unwrap_or (list_items (bindings s) t) [])))

-- ---- how many values a range has that isn't made

abbrev pub range_count_name : List ℕ
range_count_name = codes ":="

-- the two items of an array that has just two: the step and the last number
abbrev pub pair_parts : Tree → Option (Tree × Tree)
pair_parts (comp name (tree t (tree u no_trees))) = cond (bytes_eq name array_name) (Some (t, u)) None
pair_parts t = None

-- numbers and exceptions are those of the range itself; what stands in place of the array is told behind the first number
abbrev pub range_count : State → Tree → Tree → Answer Tree
range_count s t u =
    integer_then s t (λ low. found_or (pair_parts (followed (bindings s) u)) (type_error (codes "array") u s)
    (λ p. integers_then s p.0 p.1 (λ step high. counted_by (λ count. int (pos count)) low step high)))

-- (unfolded wherever the tables that it is joined with are)
abbrev pub inner_functions : List (Row (Answer Tree))
inner_functions =
    line itself_name (of_one itself) ∷
    line in_order_name (of_one in_order) ∷
    line range_count_name (of_two range_count) ∷
    []
