use Rattle.std.proofs.Common.{refl}
use Rattle.pi_prog_clauses.proofs.nodes.WalkLemmas.{pushed-one}
use Rattle.pi_prog_clauses.specs.Places.{all_placed}
use Rattle.pi_prog_clauses.proofs.nodes.walk.Walk.push.Goals as goal

pub returns : goal.returns
unfolding all_placed
returns c = pushed-one _ _ _ c.args.place _ c.in_ok-push.ensures.items refl
