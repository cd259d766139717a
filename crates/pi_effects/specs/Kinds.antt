-- Tests of the kind of a term (A User's Guide to Picat, 'Data Types, Operators, and Built-ins'; that arrays are structures here is own).
use Rattle.std.specs.Prelude.{ℕ, ◌==◌, Bool, true, false, not, ◌&&◌, ◌||◌, List, [], ◌∷◌, length, codes, is_some, Ok}
use Rattle.pi_terms.specs.Tree.{Tree, var, int, atom, comp}
use Rattle.pi_terms.specs.Variables.{variables}
use Rattle.pi_constraints.specs.Value.{Bindings, value}
use Rattle.pi_constraints.specs.State.{bindings, followed}
use Rattle.pi_effects.specs.Answer.{Answer}
use Rattle.pi_effects.specs.Items.{is_nil, cell_parts, array_parts}
use Rattle.pi_effects.specs.Rows.{of_one, Row, line}

-- no unbound variable is in its value
abbrev pub holds_no_variable : Bindings → Tree → Bool
holds_no_variable b t = length (variables (value b t)) == 0

abbrev pub is_variable : Tree → Bool
is_variable (var n) = true
is_variable (int i) = false
is_variable (atom name) = false
is_variable (comp name ts) = false

abbrev pub is_integer : Tree → Bool
is_integer (var n) = false
is_integer (int i) = true
is_integer (atom name) = false
is_integer (comp name ts) = false

abbrev pub is_atom : Tree → Bool
is_atom (var n) = false
is_atom (int i) = false
is_atom (atom name) = true
is_atom (comp name ts) = false

abbrev pub is_compound : Tree → Bool
is_compound (var n) = false
is_compound (int i) = false
is_compound (atom name) = false
is_compound (comp name ts) = true

abbrev pub is_cell : Tree → Bool
is_cell t = is_some (cell_parts t)

-- a test of what a term is at its root
abbrev pub kind_test : List ℕ → (Tree → Bool) → Row (Answer Bool)
kind_test name holds = line name (of_one (λ s t. Ok (holds (followed (bindings s) t))))

unfoldable pub kind_tests : List (Row (Answer Bool))
kind_tests =
    kind_test (codes "var") is_variable ∷
    kind_test (codes "nonvar") (λ t. not (is_variable t)) ∷
    kind_test (codes "integer") is_integer ∷
    kind_test (codes "int") is_integer ∷
    kind_test (codes "atom") is_atom ∷
    kind_test (codes "atomic") (λ t. is_integer t || is_atom t) ∷
    kind_test (codes "compound") is_compound ∷
    kind_test (codes "list") (λ t. is_nil t || is_cell t) ∷
    kind_test (codes "array") (λ t. is_some (array_parts t)) ∷
    kind_test (codes "struct") (λ t. is_compound t && not (is_cell t)) ∷
    line (codes "ground") (of_one (λ s t. Ok (holds_no_variable (bindings s) t))) ∷
    []
