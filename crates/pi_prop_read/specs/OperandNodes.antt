-- What a term is as an operand, at its root. (Own.)
use Rattle.std.specs.Prelude.{◌≡◌, ◌<◌, ⊤, ℕ, cond, List, codes}
use Rattle.std.specs.Option.{option_or}
use Rattle.std.specs.Str.{bytes_eq}
use Rattle.pi_constraints.specs.State.{next}
use Rattle.pi_constraints.specs.Store.{Moment}
use Rattle.pi_constraints.specs.declared.store.Ref.{Ref}
use Rattle.pi_prop_spec.specs.Operands.{Operand, number, variable, plus, minus, times, positive, negative, absolute, no_operand}
use Rattle.pi_prop_spec.specs.Terms.{total_of, operands_of_array, operands_of_list}
use Rattle.pi_prop_read.specs.declared.operands.node.Binary.{Binary}
use Rattle.pi_prop_read.specs.declared.operands.node.Unary.{Unary}
use Rattle.pi_prop_read.specs.declared.operands.node.Node.{Node}
use Rattle.pi_prop_read.specs.Refs.{IsThere, value_at, operand_at}

abbrev pub unary_of : Unary → Operand → Operand
unary_of Unary.Positive x = positive x
unary_of Unary.Negative x = negative x
unary_of Unary.Absolute x = absolute x

abbrev pub binary_of : Binary → Operand → Operand → Operand
binary_of Binary.Plus x y = plus x y
binary_of Binary.Minus x y = minus x y
binary_of Binary.Times x y = times x y

-- ---- by name

abbrev pub node_of_one : List ℕ → Ref → Node
node_of_one name r =
    cond (bytes_eq name (codes "+")) (Node.One Unary.Positive r)
    (cond (bytes_eq name (codes "-")) (Node.One Unary.Negative r)
    (cond (bytes_eq name (codes "abs")) (Node.One Unary.Absolute r)
    (cond (bytes_eq name (codes "sum")) (Node.Sum r)
    Node.Other)))

abbrev pub node_of_two : List ℕ → Ref → Ref → Node
node_of_two name r q =
    cond (bytes_eq name (codes "+")) (Node.Two Binary.Plus r q)
    (cond (bytes_eq name (codes "-")) (Node.Two Binary.Minus r q)
    (cond (bytes_eq name (codes "*")) (Node.Two Binary.Times r q)
    Node.Other))

-- ---- what it says of a Ref

-- the operand of `sum`, by the Ref of its argument
abbrev pub sum_at : Moment → Ref → Operand
sum_at w q = total_of (value_at w q) (option_or (operands_of_array (value_at w q)) (operands_of_list (value_at w q)))

-- the operand that a node is, of the Ref r
abbrev pub operand_by : Moment → Ref → Node → Operand
operand_by w r (Node.Variable n) = variable n
operand_by w r (Node.Number i) = number i
operand_by w r (Node.One o q) = unary_of o (operand_at w q)
operand_by w r (Node.Two o p q) = binary_of o (operand_at w p) (operand_at w q)
operand_by w r (Node.Sum q) = sum_at w q
operand_by w r Node.Other = no_operand (value_at w r)

-- the Refs in it are there, and its variable was made
abbrev pub HasParts : Moment → Node → Type 0
HasParts w (Node.Variable n) = n < next w.state
HasParts w (Node.Number i) = ⊤
HasParts w (Node.One o q) = IsThere w q
HasParts w (Node.Two o p q) = IsThere w p × IsThere w q
HasParts w (Node.Sum q) = IsThere w q
HasParts w Node.Other = ⊤

pub record ShowsNode (w : Moment) (r : Ref) (node : Node) : Type 0 where
  pub is : operand_at w r ≡ operand_by w r node
  pub parts : HasParts w node
