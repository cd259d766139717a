-- What the reading of constraints makes. (Own.)
use Rattle.std.specs.Prelude.{◌≡◌, ℕ, ◌+◌, ◌≤◌, ◌<◌, List, Ok, Contains}
use Rattle.pi_terms.specs.Tree.{Tree}
use Rattle.pi_constraints.specs.declared.constraint.Item.{Item}
use Rattle.pi_constraints.specs.declared.constraint.Constraint.{Constraint}
use Rattle.pi_constraints.specs.State.{SpeaksBelow}
use Rattle.pi_prop_spec.specs.Places.{places_of}
use Rattle.pi_prop_spec.specs.Terms.{operand_of, goal_of}
use Rattle.pi_prop_spec.specs.Steps.{Known, read_operand}
use Rattle.pi_prop_spec.specs.PostingSums.{Sum}
use Rattle.pi_prop_spec.specs.Postings.{Posting, nothing_made, posting_of}
use Rattle.pi_label_laws.specs.Made.{Makes}

-- constraints of a list make a variable's value out of those of variables with lower numbers
pub record IsMadeBy (list : List Constraint) (m : ℕ) : Type 0 where
  pub parts : List Constraint
  pub posted : (c : Constraint) → Contains parts c → Contains list c
  pub makes : Makes m parts
  pub below : (c : Constraint) (k : ℕ) → Contains parts c → Contains (places_of c) (Item.Var k) → k ≤ m

-- the value of each new variable of a posting is made so by what is posted
abbrev pub NewVariablesAreMade : Type 0
NewVariablesAreMade = (n : ℕ) (t : Tree) (p : Posting) → SpeaksBelow n t → posting_of n (goal_of t) ≡ Ok p → (m : ℕ) → n ≤ m → m < n + p.fresh → IsMadeBy p.list m

-- and so it is of those of an operand that is read alone
abbrev pub NewVariablesOfOperandsAreMade : Type 0
NewVariablesOfOperandsAreMade = (n : ℕ) (t : Tree) (k : Known Sum) → SpeaksBelow n t → read_operand (operand_of t) (nothing_made n) ≡ Ok k → (m : ℕ) → n ≤ m → m < k.made.unused → IsMadeBy k.made.constraints m
