-- What the postings of rounds answer, against what they are by definition. What is raised is told by Refs of the store as it is then. (A User's Guide to Picat, 'Constraints'; rounds are own.)
use Rattle.std.specs.Prelude.{◌≡◌, ⊤, Result, Ok, Err}
use Rattle.pi_terms.specs.Tree.{Tree}
use Rattle.pi_constraints.specs.Store.{StoreView, Stays}
use Rattle.pi_effects.specs.Balls.{IsBall}
use Rattle.pi_effects.specs.declared.fault.Stop.{Stop}
use Rattle.pi_prop_spec.specs.Postings.{Posting, raised_by}
use Rattle.pi_prop_spec.specs.Steps.{Refusal}
use Rattle.pi_settling.specs.Posted.{posted_in}
use Rattle.pi_settling.specs.Reading.{Sum, Operand, reads, refuses}

-- what the reading of an operand posts is posted in the state that the store then has; or it is refused, and nothing was changed
abbrev pub ShowsBegun : {M : Type 0} → StoreView M → StoreView M → Result (Unit {0}) Stop → Operand → Type 0
ShowsBegun before after (Ok done) o = (sum : Sum) × (o ≡ reads after.now.state sum)
ShowsBegun before after (Err (Stop.Raised fault)) o = (ball : Tree) × (o ≡ refuses ball) × IsBall after fault ball × Stays before after
ShowsBegun before after (Err Stop.Memory) o = ⊤

-- the same of a goal
abbrev pub ShowsBettered : {M : Type 0} → StoreView M → StoreView M → Result (Unit {0}) Stop → Result Posting Refusal → Type 0
ShowsBettered before after (Ok done) o = (p : Posting) × (o ≡ Ok p) × (after.now.state ≡ posted_in before.now.state p)
ShowsBettered before after (Err (Stop.Raised fault)) o = (r : Refusal) × (o ≡ Err r) × IsBall after fault (raised_by before.now.state r) × Stays before after
ShowsBettered before after (Err Stop.Memory) o = ⊤
