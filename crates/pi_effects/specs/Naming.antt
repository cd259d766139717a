-- The name and the number of arguments of a term (A User's Guide to Picat, 'Data Types, Operators, and Built-ins').
use Rattle.std.specs.Prelude.{ℕ, pos, List, [], ◌∷◌, Option, Some, None, codes}
use Rattle.pi_terms.specs.Tree.{Tree, var, int, atom, comp, tree_count}
use Rattle.pi_constraints.specs.State.{bindings, followed}
use Rattle.pi_effects.specs.Exception.{type_error}
use Rattle.pi_effects.specs.Answer.{Answer, or_raised}
use Rattle.pi_effects.specs.Rows.{of_one, Row, line}

-- of an atom or a compound at its root
abbrev pub name_at : Tree → Option Tree
name_at (var n) = None
name_at (int i) = None
name_at (atom name) = Some (atom name)
name_at (comp name ts) = Some (atom name)

abbrev pub arity_at : Tree → Option Tree
arity_at (var n) = None
arity_at (int i) = None
arity_at (atom name) = Some (int (pos 0))
arity_at (comp name ts) = Some (int (pos (tree_count ts)))

abbrev pub of_callable : List ℕ → (Tree → Option Tree) → Row (Answer Tree)
of_callable name part = line name (of_one (λ s t. or_raised (part (followed (bindings s) t)) (type_error (codes "callable") t s)))

unfoldable pub naming_functions : List (Row (Answer Tree))
naming_functions =
    of_callable (codes "name") name_at ∷
    of_callable (codes "arity") arity_at ∷
    []
