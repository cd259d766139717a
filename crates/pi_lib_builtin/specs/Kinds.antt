-- The tests of the kind of a term, each by what it tests (A User's Guide to Picat, 'Data Types, Operators, and Built-ins').
use Rattle.std.specs.Prelude.{Bool, true, false, not, ◌&&◌, ◌||◌, is_some}
use Rattle.pi_terms.specs.Tree.{Tree}
use Rattle.pi_constraints.specs.declared.store.Cell.{Cell}
use Rattle.pi_effects.specs.Items.{is_nil, array_parts}
use Rattle.pi_effects.specs.Kinds.{is_variable, is_integer, is_atom, is_compound, is_cell}
use Rattle.pi_lib_builtin.specs.declared.kinds.TermKind.{TermKind}

abbrev pub is_array : Tree → Bool
is_array t = is_some (array_parts t)

-- a term passes the test at its root
abbrev pub passes : TermKind → Tree → Bool
passes TermKind.Variable t = is_variable t
passes TermKind.NoVariable t = not (is_variable t)
passes TermKind.Integer t = is_integer t
passes TermKind.Atom t = is_atom t
passes TermKind.Atomic t = is_integer t || is_atom t
passes TermKind.Compound t = is_compound t
passes TermKind.List t = is_nil t || is_cell t
passes TermKind.Array t = is_array t
passes TermKind.Structure t = is_compound t && not (is_cell t)

-- ---- the same of what a store shows at the root

abbrev pub shows_variable : Cell → Bool
shows_variable (Cell.Var n) = true
shows_variable (Cell.Int i) = false
shows_variable (Cell.Atom k) = false
shows_variable (Cell.Comp k count) = false

abbrev pub shows_integer : Cell → Bool
shows_integer (Cell.Var n) = false
shows_integer (Cell.Int i) = true
shows_integer (Cell.Atom k) = false
shows_integer (Cell.Comp k count) = false

abbrev pub shows_atom : Cell → Bool
shows_atom (Cell.Var n) = false
shows_atom (Cell.Int i) = false
shows_atom (Cell.Atom k) = true
shows_atom (Cell.Comp k count) = false

abbrev pub shows_compound : Cell → Bool
shows_compound (Cell.Var n) = false
shows_compound (Cell.Int i) = false
shows_compound (Cell.Atom k) = false
shows_compound (Cell.Comp k count) = true
