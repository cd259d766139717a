-- `all_different`, `all_distinct` and `element`: constraints over the items of a list or an array, which are integers and variables. (A User's Guide to Picat, 'Constraints'.)
use Rattle.std.specs.Prelude.{List, [], ◌∷◌, Option, Some, None}
use Rattle.pi_terms.specs.Tree.{Tree, var, int, atom, comp}
use Rattle.pi_constraints.specs.declared.constraint.Item.{Item}
use Rattle.pi_constraints.specs.declared.constraint.Constraint.{Constraint}
use Rattle.pi_effects.specs.Items.{collection_items}
use Rattle.pi_prop_spec.specs.Steps.{Reading, gives, refuses, then, posting, not_a_constraint}

-- an integer or a variable
abbrev pub read_item : Tree → Reading Item
read_item (var n) = gives (Item.Var n)
read_item (int i) = gives (Item.Int i)
read_item (atom name) = refuses (not_a_constraint (atom name))
read_item (comp name ts) = refuses (not_a_constraint (comp name ts))

-- from the left
unfoldable pub read_each : List Tree → Reading (List Item)
read_each [] = gives []
read_each (t ∷ ts) = then (read_item t) (λ x. then (read_each ts) (λ xs. gives (x ∷ xs)))

-- the terms in a proper list or an array, before they are judged
abbrev pub items_or_refused : Tree → Option (List Tree) → Reading (List Tree)
items_or_refused t None = refuses (not_a_constraint t)
items_or_refused t (Some ts) = gives ts

abbrev pub read_collection : Tree → Reading (List Tree)
read_collection t = items_or_refused t (collection_items [] t)

abbrev pub posts_different : Tree → Reading (Unit {0})
posts_different t = then (read_collection t) (λ ts. then (read_each ts) (λ xs. posting (Constraint.Different xs) (gives tt)))

abbrev pub posts_distinct : Tree → Reading (Unit {0})
posts_distinct t = then (read_collection t) (λ ts. then (read_each ts) (λ xs. posting (Constraint.Distinct xs) (gives tt)))

-- element(I,L,V) is judged in the order I, L, V, and then the items of L
abbrev pub posts_element : Tree → Tree → Tree → Reading (Unit {0})
posts_element i l v =
    then (read_item i) (λ index. then (read_collection l) (λ ts. then (read_item v) (λ value. then (read_each ts) (λ xs. posting (Constraint.Element index xs value) (gives tt)))))
