use Rattle.pi_rewrite_slots.proofs.PatternLemmas.{structure-tree}
use Rattle.pi_rewrite_slots.proofs.patterns.structure.Goals as goal

pub returns : goal.returns
returns c = structure-tree c.in_ok-name.name c.args.name.now c.args.parts c.in_ok-name.ensures.ok
