-- Functions on lists, some of them on arrays too (A User's Guide to Picat, 'Data Types, Operators, and Built-ins'; what is raised is own). An argument that
-- is no such thing is told first, and of two arguments the first wrong one from the left.
use Rattle.std.specs.Prelude.{ℕ, ℤ, pos, not, List, [], ◌∷◌, map, reverse, length, filter, zip, Option, None, option_map, codes, slice_get, Ok}
use Rattle.std.specs.List.{last_or}
use Rattle.pi_terms.specs.Tree.{Tree, int}
use Rattle.pi_constraints.specs.State.{State, bindings, followed}
use Rattle.pi_effects.specs.Value.{value_of}
use Rattle.pi_effects.specs.declared.operation.Op.{Op}
use Rattle.pi_effects.specs.declared.operation.Op.TheVariants.{Add, Mul}
use Rattle.pi_effects.specs.Exception.{type_error, bad_index}
use Rattle.pi_effects.specs.Answer.{Answer, found_or, or_raised, integer_then}
use Rattle.pi_effects.specs.Items.{list_onto, list_of, array_of, cell_parts, list_items, collection_items}
use Rattle.pi_effects.specs.Comparing.{is_same}
use Rattle.pi_effects.specs.Integers.{outcome_then, number}
use Rattle.pi_effects.specs.Rows.{of_one, of_two, Row, line}

-- what follows from the items of a proper list, and of a proper list or an array
abbrev pub list_then : {A : Type 0} → State → Tree → (List Tree → Answer A) → Answer A
list_then s t f = found_or (list_items (bindings s) t) (type_error (codes "list") t s) f

abbrev pub collection_then : {A : Type 0} → State → Tree → (List Tree → Answer A) → Answer A
collection_then s t f = found_or (collection_items (bindings s) t) (type_error (codes "collection") t s) f

-- a function of a list; of two lists; and of a list or an array
abbrev pub of_list : List ℕ → (State → List Tree → Answer Tree) → Row (Answer Tree)
of_list name f = line name (of_one (λ s t. list_then s t (f s)))

abbrev pub of_lists : List ℕ → (List Tree → List Tree → Tree) → Row (Answer Tree)
of_lists name f = line name (of_two (λ s t u. list_then s t (λ ts. list_then s u (λ us. Ok (f ts us)))))

abbrev pub of_collection : List ℕ → (State → List Tree → Answer Tree) → Row (Answer Tree)
of_collection name f = line name (of_one (λ s t. collection_then s t (f s)))

-- ---- the functions

abbrev pub count : List Tree → Answer Tree
count ts = number (pos (length ts))

-- a part of a proper list that isn't empty
abbrev pub cell_part : (Tree × Tree → Tree) → State → Tree → Answer Tree
cell_part part s t = list_then s t (λ ts. or_raised (option_map part (cell_parts (followed (bindings s) t))) (type_error (codes "list") t s))

-- an item that is there, or `bad_index(1)`
abbrev pub item_or_first_index : Option Tree → State → Answer Tree
item_or_first_index item s = or_raised item (bad_index (int (pos 1)) s)

-- a list in front of another, which stays as it stands
abbrev pub joined : State → Tree → Tree → Answer Tree
joined s t u = list_then s t (λ ts. list_then s u (λ us. Ok (list_onto ts u)))

-- the items that aren't the same as a term
abbrev pub without : State → Tree → List Tree → List Tree
without s u ts = filter (λ t. not (is_same s t u)) ts

abbrev pub pair : Tree × Tree → Tree
pair p = array_of (p.0 ∷ p.1 ∷ [])

-- integers joined from the left, from this one on: the first that is none is told, or the first sum past the range
unfoldable pub total : Op → State → ℤ → List Tree → Answer Tree
total op s sum [] = number sum
total op s sum (t ∷ ts) = integer_then s t (λ n. outcome_then (value_of op sum n) (λ more. total op s more ts))

unfoldable pub collection_functions : List (Row (Answer Tree))
collection_functions =
    of_collection (codes "length") (λ s ts. count ts) ∷
    of_collection (codes "len") (λ s ts. count ts) ∷
    line (codes "head") (of_one (cell_part (λ p. p.0))) ∷
    line (codes "tail") (of_one (cell_part (λ p. p.1))) ∷
    of_collection (codes "first") (λ s ts. item_or_first_index (slice_get ts 0) s) ∷
    of_collection (codes "last") (λ s ts. item_or_first_index (last_or None ts) s) ∷
    of_list (codes "reverse") (λ s ts. Ok (list_of (reverse ts))) ∷
    line (codes "++") (of_two joined) ∷
    line (codes "delete_all") (of_two (λ s t u. list_then s t (λ ts. Ok (list_of (without s u ts))))) ∷
    of_lists (codes "zip") (λ ts us. list_of (map pair (zip ts us))) ∷
    of_collection (codes "sum") (λ s ts. total Add s (pos 0) ts) ∷
    of_collection (codes "prod") (λ s ts. total Mul s (pos 1) ts) ∷
    of_collection (codes "to_list") (λ s ts. Ok (list_of ts)) ∷
    of_collection (codes "to_array") (λ s ts. Ok (array_of ts)) ∷
    []
