-- The value behind a function's body, where it is what runs.
use Rattle.std.proofs.Common.{◌≡◌, ℕ, ◌<◌, Bool, List, Option, Some, sym, ◌∙◌, ap, subst, arith}
use Rattle.std.specs.Prelude.{slice_get}
use Rattle.pi_terms.specs.Tree.{Tree}
use Rattle.pi_core.specs.GoalTree.{no_goals}
use Rattle.pi_engine_code.specs.declared.code.Step.{Step}
use Rattle.pi_engine_code.specs.declared.code.Node.{Node}
use Rattle.pi_engine_code.specs.declared.code.Operand.{Operand}
use Rattle.pi_engine_code.specs.Code.{Tables, operand_tree}
use Rattle.pi_engine_stands.specs.Here.{Block, IsReadable, IsValueHere, AreHere, none_here, value_here}

same-step : (o : Option Step) (s q : Step) → o ≡ Some s → o ≡ Some q → s ≡ q
same-step o s q h k = cc

same-operand : (n : Node) (a b : Operand) → n ≡ Node.Value a → n ≡ Node.Value b → a ≡ b
same-operand n a b h k = cc

-- the value that a step says, in a block
pub record ValueAt (t : Tables) (b : Block) (s : Step) (o : Operand) (value : Option Tree) : Type 0 where
  pub is : value ≡ Some (operand_tree t o)
  pub first : s.first_slot ≡ b.first
  pub readable : IsReadable t b o

value-of-step : (t : Tables) (steps : List Step) (b : Block) (place : ℕ) (value : Tree) (s : Step) (o : Operand) → IsValueHere t steps b place value → slice_get steps place ≡ Some s → s.node ≡ Node.Value o → ValueAt t b s o (Some value)
value-of-step t steps b place value s o is at node =
    let same : is.step ≡ s = same-step (slice_get steps place) is.step s is.stands at in
    let operand : is.operand ≡ o = same-operand s.node is.operand o (ap (λ r. r.node) (sym same) ∙ is.node) node in
    record {
      is = ap (λ v. Some v) (is.is_value ∙ ap (operand_tree t) operand);
      first = ap (λ r. r.first_slot) (sym same) ∙ is.first;
      readable = subst (λ r. IsReadable t b r) operand is.readable;
    }

-- with no goal left but something at the place, it is the value that the step there says
pub value-at : (t : Tables) (steps : List Step) (b : Block) (place count : ℕ) (value : Option Tree) (last : Bool) (s : Step) (o : Operand) → AreHere t steps b place count no_goals value last → 0 < count →
    slice_get steps place ≡ Some s → s.node ≡ Node.Value o → ValueAt t b s o value
value-at t steps b place count value last s o none_here some at node = absurd (omega (arith, some))
value-at t steps b place count value last s o (value_here is) some at node = value-of-step t steps b place _ s o is at node
