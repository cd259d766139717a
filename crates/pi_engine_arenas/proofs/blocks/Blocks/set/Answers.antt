use Rattle.std.proofs.Common.{rules, Some, refl}
use Rattle.pi_engine_arenas.proofs.BlocksLemmas.{keeps_noted, keeps_free}
use Rattle.pi_engine_arenas.proofs.blocks.Blocks.set.Goals as goal
use Rattle.pi_engine_arenas.proofs.blocks.Blocks.set.Goals.{then-slot-self+in_ok-push, else-slot-self}

pub returns-clause-keeps : goal.returns-clause-keeps
returns-clause-keeps c =
    elim c.if-slot-self.branch [
      | then-slot-self+in_ok-push w ↦ keeps_noted _ _ c.args.slot (Some c.args.term) (record { slot = c.args.slot; old = w.index-old.result.now }) refl (search rules) (search rules) (search rules) (search rules)
      | else-slot-self w ↦ keeps_free _ _ c.args.slot (Some c.args.term) (search rules) (search rules) (search rules) (search rules)
    ]
