-- The terms of Refs at one moment of a store, and the operands that their values are. (Own.)
use Rattle.std.specs.Prelude.{◌≡◌, List, [], ◌∷◌, Option, Some, None, unwrap_or}
use Rattle.pi_terms.specs.Tree.{Tree, atom}
use Rattle.pi_constraints.specs.Value.{value}
use Rattle.pi_constraints.specs.State.{bindings}
use Rattle.pi_constraints.specs.Store.{Moment}
use Rattle.pi_constraints.specs.declared.store.Ref.{Ref}
use Rattle.pi_prop_spec.specs.Operands.{Operand, Operands, no_operands, operand}
use Rattle.pi_prop_spec.specs.Terms.{operand_of}

-- the term of a Ref that is there; for any other one it says nothing
abbrev pub tree_of : Moment → Ref → Tree
tree_of w r = unwrap_or (w.terms r.number) (atom [])

abbrev pub IsThere : Moment → Ref → Type 0
IsThere w r = w.terms r.number ≡ Some (tree_of w r)

-- its value
abbrev pub value_at : Moment → Ref → Tree
value_at w r = value (bindings w.state) (tree_of w r)

abbrev pub operand_at : Moment → Ref → Operand
operand_at w r = operand_of (value_at w r)

-- of several, from the left
unfoldable pub operands_at : Moment → List Ref → Operands
operands_at w [] = no_operands
operands_at w (r ∷ rs) = operand (operand_at w r) (operands_at w rs)
