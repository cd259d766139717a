use Rattle.std.proofs.Common.{rules, arith}
use Rattle.std.proofs.lemmas.Grind.{common_steps}
use Rattle.std.proofs.lemmas.Option.{gets}
use Rattle.pi_engine_arenas.proofs.BlocksLemmas.{forgotten}
use Rattle.pi_engine_arenas.proofs.blocks.Blocks.forget.Goals as goal

pub returns-clause-keeps : goal.returns-clause-keeps
returns-clause-keeps c = λ m few noted. forgotten m c.args.self.now _ c.in-Some.written.now (search rules) (search rules) (grind (arith, common_steps, gets)) (search rules)
