-- Goals that post: what is raised in place of a posting, and which constraints may be posted where so many variables are. (Own.)
use Rattle.std.specs.Prelude.{◌≡◌, ⊤, ℕ, ◌<◌, List, Contains, Result, Ok, Err}
use Rattle.pi_terms.specs.Tree.{Tree}
use Rattle.pi_constraints.specs.declared.constraint.Constraint.{Constraint}
use Rattle.pi_constraints.specs.Constraint.{SpeaksOf, IsWithinLimits}
use Rattle.pi_constraints.specs.Store.{StoreView, Stays}
use Rattle.pi_effects.specs.Balls.{IsBall}
use Rattle.pi_effects.specs.declared.fault.Fault.{Fault}
use Rattle.pi_effects.specs.declared.fault.Stop.{Stop}
use Rattle.pi_prop_read.specs.declared.called.PostingStop.{PostingStop}
use Rattle.pi_prop_spec.specs.Steps.{Refusal}
use Rattle.pi_prop_spec.specs.Postings.{Posting, raised_by}
use Rattle.pi_settling.specs.Posted.{posted_in}
use Rattle.pi_settling.specs.Reading.{Sum, Operand, reads, refuses}

abbrev pub fault_of : PostingStop → Stop
fault_of (PostingStop.NotAConstraint r) = Stop.Raised (Fault.NotAConstraint r)
fault_of PostingStop.TooManyTerms = Stop.Raised Fault.ConstraintTooLarge
fault_of PostingStop.WideCoefficient = Stop.Raised Fault.ConstraintTooLarge
fault_of PostingStop.Memory = Stop.Memory

-- each keeps the limits and speaks of variables below this number alone
abbrev pub MayPostAll : ℕ → List Constraint → Type 0
MayPostAll many cs = (c : Constraint) → Contains cs c → IsWithinLimits c × ((m : ℕ) → SpeaksOf c m → m < many)

-- ---- what is answered

-- what a goal posts is posted in the state that the store then has; or it is refused, and nothing was changed
abbrev pub ShowsPosted : {M : Type 0} → StoreView M → StoreView M → Result (Unit {0}) Stop → Result Posting Refusal → Type 0
ShowsPosted before after (Ok done) o = (p : Posting) × (o ≡ Ok p) × (after.now.state ≡ posted_in before.now.state p)
ShowsPosted before after (Err (Stop.Raised fault)) o = (r : Refusal) × (o ≡ Err r) × IsBall before fault (raised_by before.now.state r) × Stays before after
ShowsPosted before after (Err Stop.Memory) o = ⊤

-- the same of an operand by itself
abbrev pub ShowsOperandPosted : {M : Type 0} → StoreView M → StoreView M → Result (Unit {0}) Stop → Operand → Type 0
ShowsOperandPosted before after (Ok done) o = (sum : Sum) × (o ≡ reads after.now.state sum)
ShowsOperandPosted before after (Err (Stop.Raised fault)) o = (ball : Tree) × (o ≡ refuses ball) × IsBall before fault ball × Stays before after
ShowsOperandPosted before after (Err Stop.Memory) o = ⊤
