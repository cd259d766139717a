-- What a call of a predicate answers, against what the predicate does: an answer in the state that the store then has, none, a text that is written, or what is
-- raised, in the state before. Want of memory says nothing. (Own.)
use Rattle.std.specs.Prelude.{◌≡◌, ℕ, List, Bool, true, false, Result, Ok, Err, ⊤}
use Rattle.pi_terms.specs.Tree.{Tree}
use Rattle.pi_constraints.specs.Store.{StoreView, Stays}
use Rattle.pi_effects.specs.Effect.{Effect, Succeeds, Fails, Writes, Raises}
use Rattle.pi_effects.specs.Balls.{IsBall}
use Rattle.pi_effects.specs.declared.fault.Stop.{Stop}
use Rattle.pi_lib.specs.declared.predicates.Outcome.{Outcome}

abbrev pub ShowsOutcome : {M : Type 0} → StoreView M → StoreView M → Result Outcome Stop → Effect → Type 0
ShowsOutcome before after (Ok Outcome.Yes) e = e ≡ Succeeds after.now.state
ShowsOutcome before after (Ok Outcome.No) e = e ≡ Fails
ShowsOutcome before after (Ok (Outcome.Out text)) e = e ≡ Writes text after.now.state
ShowsOutcome before after (Err (Stop.Raised fault)) e = (ball : Tree) × (e ≡ Raises ball) × IsBall before fault ball × Stays before after
ShowsOutcome before after (Err Stop.Memory) e = ⊤

-- a test that holds has an answer
abbrev pub outcome_of : Bool → Outcome
outcome_of true = Outcome.Yes
outcome_of false = Outcome.No

abbrev pub tested : Result Bool Stop → Result Outcome Stop
tested (Ok holds) = Ok (outcome_of holds)
tested (Err stop) = Err stop

-- a text that is written
abbrev pub written : Result (List ℕ) Stop → Result Outcome Stop
written (Ok text) = Ok (Outcome.Out text)
written (Err stop) = Err stop
