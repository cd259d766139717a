-- Where variables are confined is a state from which goals begin.
use Rattle.std.proofs.Common.{◌∙◌, List}
use Rattle.pi_constraints.specs.declared.constraint.Item.{Item}
use Rattle.pi_constraints.specs.State.{State}
use Rattle.pi_settling.specs.Confined.{confined}
use Rattle.pi_settling.proofs.CalmPosted.{confined_may_settle}
use Rattle.pi_meaning.proofs.CoreMeaning.ConfinedCalm.{confined-calm}
use Rattle.pi_engine_stands.specs.Rests.{Rests}

pub confined-rests : (s : State) (items : List Item) → Rests s → Rests (confined s items)
confined-rests s items is =
    record { calm = confined-calm s items is.calm; none_made = (confined_may_settle s items is.calm.state is.calm.settles).agents ∙ is.none_made }
