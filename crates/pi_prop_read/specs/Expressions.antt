-- What the reading of an operand by itself answers. (Own.)
use Rattle.std.specs.Prelude.{◌≡◌, ℕ, Result, Ok, Err}
use Rattle.pi_terms.specs.Tree.{Tree}
use Rattle.pi_constraints.specs.Value.{value}
use Rattle.pi_constraints.specs.State.{State, bindings, next}
use Rattle.pi_constraints.specs.Store.{Moment}
use Rattle.pi_prop_spec.specs.PostingSums.{Sum}
use Rattle.pi_prop_spec.specs.Terms.{operand_of}
use Rattle.pi_prop_spec.specs.Steps.{Refusal, Known, read_operand, constant_of}
use Rattle.pi_prop_spec.specs.Postings.{nothing_made, finished}
use Rattle.pi_prop_made.specs.Finished.{posting_as}
use Rattle.pi_prop_read.specs.declared.called.PostingStop.{PostingStop}
use Rattle.pi_prop_read.specs.declared.expressions.Expression.{Expression}
use Rattle.pi_prop_read.specs.Called.{ShowsCalled}

-- the operand that a term is in a state
abbrev pub expression_read : State → Tree → Result (Known Sum) Refusal
expression_read s t = read_operand (operand_of (value (bindings s) t)) (nothing_made (next s))

-- it was read to a sum, and what was made by then keeps all limits
pub record IsExpression (x : Expression) (n : ℕ) (read : Result (Known Sum) Refusal) : Type 0 where
  pub known : Known Sum
  pub is : read ≡ Ok known
  pub number : x.number ≡ constant_of known.what
  pub posting : finished n read ≡ Ok (posting_as x.posting)

abbrev pub ShowsExpression : Moment → Result Expression PostingStop → ℕ → Result (Known Sum) Refusal → Type 0
ShowsExpression w (Ok x) n read = IsExpression x n read
ShowsExpression w (Err stop) n read = ShowsCalled w (Err stop) (finished n read)
