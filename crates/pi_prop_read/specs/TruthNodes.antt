-- What a term is as a Boolean expression, at its root. (Own.)
use Rattle.std.specs.Prelude.{◌≡◌, ⊤, ℕ, cond, List, Some, None, codes}
use Rattle.std.specs.Str.{bytes_eq}
use Rattle.pi_terms.specs.Tree.{int}
use Rattle.pi_constraints.specs.Store.{Moment}
use Rattle.pi_constraints.specs.declared.store.Ref.{Ref}
use Rattle.pi_prop_spec.specs.Operands.{Boolean, truth_variable, truth_number, relation, negation, joined, no_boolean, Connective as ConnectiveOf, and, or, either, implies, equivalent}
use Rattle.pi_prop_spec.specs.Terms.{boolean_of, comparison_named, connective_named}
use Rattle.pi_prop_read.specs.Refs.{IsThere, value_at, operand_at}
use Rattle.pi_prop_read.specs.Relations.{comparison_of}
use Rattle.pi_prop_read.specs.declared.truths.nodes.Connective.{Connective}
use Rattle.pi_prop_read.specs.declared.truths.nodes.TruthNode.{TruthNode}

abbrev pub connective_of : Connective → ConnectiveOf
connective_of Connective.And = and
connective_of Connective.Or = or
connective_of Connective.Either = either
connective_of Connective.Implies = implies
connective_of Connective.Equivalent = equivalent

-- ---- by name

abbrev pub node_of_one : List ℕ → Ref → TruthNode
node_of_one name q = cond (bytes_eq name (codes "#~")) (TruthNode.Negation q) TruthNode.Other

-- of a name with two arguments
abbrev pub IsTwo : TruthNode → List ℕ → Ref → Ref → Type 0
IsTwo (TruthNode.Variable n) name p q = ⊥
IsTwo (TruthNode.Number i) name p q = ⊥
IsTwo (TruthNode.Relation c x y) name p q = (x ≡ p) × (y ≡ q) × (comparison_named name ≡ Some (comparison_of c))
IsTwo (TruthNode.Negation x) name p q = ⊥
IsTwo (TruthNode.Joined k x y) name p q = (x ≡ p) × (y ≡ q) × (comparison_named name ≡ None) × (connective_named name ≡ Some (connective_of k))
IsTwo TruthNode.Other name p q = (comparison_named name ≡ None) × (connective_named name ≡ None)

-- ---- what it says of a Ref

abbrev pub boolean_at : Moment → Ref → Boolean
boolean_at w r = boolean_of (value_at w r)

-- the expression that a node is, of the Ref r
abbrev pub boolean_by : Moment → Ref → TruthNode → Boolean
boolean_by w r (TruthNode.Variable n) = truth_variable n
boolean_by w r (TruthNode.Number i) = truth_number i
boolean_by w r (TruthNode.Relation c p q) = relation (comparison_of c) (operand_at w p) (operand_at w q)
boolean_by w r (TruthNode.Negation q) = negation (boolean_at w q)
boolean_by w r (TruthNode.Joined k p q) = joined (connective_of k) (boolean_at w p) (boolean_at w q)
boolean_by w r TruthNode.Other = no_boolean (value_at w r)

-- the Refs in it are there; of an integer, that it is the value
abbrev pub HasTruthParts : Moment → Ref → TruthNode → Type 0
HasTruthParts w r (TruthNode.Variable n) = ⊤
HasTruthParts w r (TruthNode.Number i) = value_at w r ≡ int i
HasTruthParts w r (TruthNode.Relation c p q) = IsThere w p × IsThere w q
HasTruthParts w r (TruthNode.Negation q) = IsThere w q
HasTruthParts w r (TruthNode.Joined k p q) = IsThere w p × IsThere w q
HasTruthParts w r TruthNode.Other = ⊤

pub record ShowsTruthNode (w : Moment) (r : Ref) (node : TruthNode) : Type 0 where
  pub is : boolean_at w r ≡ boolean_by w r node
  pub parts : HasTruthParts w r node
