-- What the posting of a round of a search comes to, against what it does. Want of memory says nothing. (Own.)
use Rattle.std.specs.Prelude.{◌≡◌, Result, Ok, Err, ⊤}
use Rattle.pi_terms.specs.Tree.{Tree}
use Rattle.pi_constraints.specs.Store.{StoreView, Stays}
use Rattle.pi_effects.specs.Balls.{IsBall}
use Rattle.pi_effects.specs.Effect.{Effect, Succeeds, Raises}
use Rattle.pi_effects.specs.declared.fault.Stop.{Stop}

-- it has an answer in the state after, or raises a term, told by Refs of the store as it is then, in the state before
abbrev pub ShowsPosting : {M : Type 0} → StoreView M → StoreView M → Result (Unit {0}) Stop → Effect → Type 0
ShowsPosting before after (Ok done) e = e ≡ Succeeds after.now.state
ShowsPosting before after (Err (Stop.Raised fault)) e = (ball : Tree) × (e ≡ Raises ball) × IsBall after fault ball × Stays before after
ShowsPosting before after (Err Stop.Memory) e = ⊤
