-- A goal that is given by its kind and its arguments, and what its reading answers. (Own.)
use Rattle.std.specs.Prelude.{◌≡◌, ⊤, Result, Ok, Err}
use Rattle.pi_constraints.specs.Store.{Moment}
use Rattle.pi_prop_spec.specs.Operands.{Goal, relates, is_so, negation, joined, all_different, all_distinct, element}
use Rattle.pi_prop_spec.specs.Steps.{Refusal, not_a_constraint, too_many_terms, wide_coefficient}
use Rattle.pi_prop_spec.specs.Postings.{Posting as PostingOf}
use Rattle.pi_prop_made.specs.declared.posting.Posting.{Posting}
use Rattle.pi_prop_made.specs.Finished.{posting_as}
use Rattle.pi_prop_read.specs.declared.operands.stop.OperandStop.{OperandStop}
use Rattle.pi_prop_read.specs.declared.called.PostingGoal.{PostingGoal}
use Rattle.pi_prop_read.specs.declared.called.PostingStop.{PostingStop}
use Rattle.pi_prop_read.specs.Refs.{IsThere, value_at, operand_at}
use Rattle.pi_prop_read.specs.Relations.{comparison_of}
use Rattle.pi_prop_read.specs.TruthNodes.{connective_of, boolean_at}

-- the goal, by the values of its arguments
abbrev pub goal_as : Moment → PostingGoal → Goal
goal_as w (PostingGoal.Relation c p q) = relates (comparison_of c) (operand_at w p) (operand_at w q)
goal_as w (PostingGoal.Negation q) = is_so (negation (boolean_at w q))
goal_as w (PostingGoal.Joined k p q) = is_so (joined (connective_of k) (boolean_at w p) (boolean_at w q))
goal_as w (PostingGoal.Different q) = all_different (value_at w q)
goal_as w (PostingGoal.Distinct q) = all_distinct (value_at w q)
goal_as w (PostingGoal.Element i l v) = element (value_at w i) (value_at w l) (value_at w v)

-- its arguments are there
abbrev pub HasParts : Moment → PostingGoal → Type 0
HasParts w (PostingGoal.Relation c p q) = IsThere w p × IsThere w q
HasParts w (PostingGoal.Negation q) = IsThere w q
HasParts w (PostingGoal.Joined k p q) = IsThere w p × IsThere w q
HasParts w (PostingGoal.Different q) = IsThere w q
HasParts w (PostingGoal.Distinct q) = IsThere w q
HasParts w (PostingGoal.Element i l v) = IsThere w i × IsThere w l × IsThere w v

abbrev pub posting_stop : OperandStop → PostingStop
posting_stop (OperandStop.NotLinear r) = PostingStop.NotAConstraint r
posting_stop OperandStop.Wide = PostingStop.WideCoefficient
posting_stop OperandStop.Memory = PostingStop.Memory

abbrev pub ShowsCalled : Moment → Result Posting PostingStop → Result PostingOf Refusal → Type 0
ShowsCalled w (Ok p) o = o ≡ Ok (posting_as p)
ShowsCalled w (Err (PostingStop.NotAConstraint r)) o = IsThere w r × (o ≡ Err (not_a_constraint (value_at w r)))
ShowsCalled w (Err PostingStop.TooManyTerms) o = o ≡ Err too_many_terms
ShowsCalled w (Err PostingStop.WideCoefficient) o = o ≡ Err wide_coefficient
ShowsCalled w (Err PostingStop.Memory) o = ⊤
