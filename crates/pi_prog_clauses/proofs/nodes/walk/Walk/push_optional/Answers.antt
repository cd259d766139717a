use Rattle.std.proofs.Common.{ap}
use Rattle.std.specs.Prelude.{option_copied}
use Rattle.pi_prog_clauses.proofs.nodes.BelowLemmas.{optional-some}
use Rattle.pi_prog_clauses.proofs.nodes.WalkLemmas.{once_ok}
use Rattle.pi_prog_clauses.proofs.nodes.walk.Walk.push_optional.Goals as goal

pub returns-in-Some : goal.returns-in-Some
returns-in-Some c = once_ok c.push.result c.push.ensures (λ now. optional-some _ (option_copied c.args.exp) c.in-Some.exp.now _ _ (ap option_copied c.in-Some.is) now)
