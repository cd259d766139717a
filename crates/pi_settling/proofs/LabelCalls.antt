-- Calls of `solve`, worked through the definitions.
use Rattle.std.specs.Prelude.{◌≡◌, ℕ, pos, List, [], ◌∷◌, None, codes, refl}
use Rattle.pi_terms.specs.Tree.{Tree, var, int, atom, comp, no_trees, tree, cells}
use Rattle.pi_terms.specs.Variables.{occurrences, firsts}
use Rattle.pi_terms.specs.Substitution.{instance}
use Rattle.pi_terms.specs.Copy.{copy}
use Rattle.pi_terms.specs.ListNames.{nil}
use Rattle.pi_terms.specs.ListCopies.{list_cell}
use Rattle.pi_constraints.specs.declared.constraint.Item.{Item}
use Rattle.pi_constraints.specs.Value.{rounds, value}
use Rattle.pi_constraints.specs.State.{State, Variable, free, bound, followed_for, followed}
use Rattle.pi_effects.specs.Exception.{exception_with, type_error}
use Rattle.pi_effects.specs.Items.{each_tree, list_onto, list_of, array_of, items_for, list_items}
use Rattle.pi_settling.specs.Options.{forward, up, down, words_read}
use Rattle.pi_settling.specs.Asked.{flat_all, flat_for, Asked, labels, raises, asked}

abbrev state : List Variable → State
state vs = record { variables = vs; constraints = []; agents = []; waiting = [] }

-- what is asked by these two arguments in a state
unfoldable by_call : Tree → Tree → State → Asked
unfolding words_read flat_all flat_for exception_with type_error each_tree list_onto items_for list_items cells occurrences firsts instance copy rounds value followed followed_for
by_call words vars s = asked s words vars

abbrev foo : Tree
foo = atom (codes "foo")

abbrev a : Tree
a = atom (codes "a")

abbrev raised : List ℕ → Tree → Asked
raised exception t = raises (comp exception (tree t no_trees))

abbrev no_integer : Tree → Asked
no_integer t = raises (comp (codes "type_error") (tree (atom (codes "integer")) (tree t no_trees)))

-- The form of the options comes before their words, these before the variables, and there the first wrong term from the left is told.
calls-refused :
    (by_call (list_onto (foo ∷ []) (var 0)) (list_of (a ∷ [])) (state (free ∷ [])) ≡ raised (codes "bad_option") (list_onto (foo ∷ []) (var 0)))
    × (by_call (list_of (foo ∷ [])) (list_of (a ∷ [])) (state []) ≡ raised (codes "bad_option") foo)
    × (by_call (list_of []) (list_of (int (pos 1) ∷ a ∷ foo ∷ [])) (state []) ≡ no_integer a)
    × (by_call (list_of []) (list_of (list_onto (int (pos 1) ∷ []) (var 0) ∷ a ∷ [])) (state (free ∷ [])) ≡ no_integer (list_onto (int (pos 1) ∷ []) (var 0)))
unfolding by_call list_onto
calls-refused = (refl, refl, refl, refl)

-- Variables stand alone or in lists and arrays at any depth, also behind variables that are bound to these; each stays as it stands.
calls-asked :
    (by_call (list_of (atom (codes "down") ∷ [])) (list_of (var 0 ∷ array_of (int (pos 3) ∷ var 1 ∷ []) ∷ var 2 ∷ [])) (state (free ∷ bound (int (pos 4)) ∷ bound (list_cell (var 0) (atom nil)) ∷ []))
    ≡ labels (record { variable = forward; value = down; objective = None }) (Item.Var 0 ∷ Item.Int (pos 3) ∷ Item.Var 1 ∷ Item.Var 0 ∷ []))
    × (by_call (list_of []) (var 0) (state (free ∷ [])) ≡ labels (record { variable = forward; value = up; objective = None }) (Item.Var 0 ∷ []))
    × (by_call (list_of []) (list_of []) (state []) ≡ labels (record { variable = forward; value = up; objective = None }) [])
unfolding by_call list_onto
calls-asked = (refl, refl, refl)
