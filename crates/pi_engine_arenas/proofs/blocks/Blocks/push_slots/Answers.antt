use Rattle.std.proofs.Common.{rules}
use Rattle.pi_engine_arenas.proofs.BlocksLemmas.{keeps_more, keeps_slots}
use Rattle.pi_engine_arenas.proofs.blocks.Blocks.push_slots.Goals as goal

pub returns-clause-keeps : goal.returns-clause-keeps
returns-clause-keeps c = keeps_more _ _ c.args.slots.now (search rules) (search rules) (search rules)

pub returns-in_err-extend_from_slice-clause-keeps : goal.returns-in_err-extend_from_slice-clause-keeps
returns-in_err-extend_from_slice-clause-keeps c = keeps_slots _ _ (search rules) (search rules) (search rules)
