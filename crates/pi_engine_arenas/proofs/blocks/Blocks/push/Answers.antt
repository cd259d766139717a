use Rattle.std.proofs.Common.{rules, ◌∷◌, []}
use Rattle.pi_engine_arenas.proofs.BlocksLemmas.{keeps_more}
use Rattle.pi_engine_arenas.proofs.blocks.Blocks.push.Goals as goal

pub returns-clause-keeps : goal.returns-clause-keeps
returns-clause-keeps c = keeps_more _ _ (c.args.slot ∷ []) (search rules) (search rules) (search rules)
