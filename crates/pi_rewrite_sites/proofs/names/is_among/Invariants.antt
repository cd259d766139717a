use Rattle.pi_rewrite_sites.proofs.NameLemmas.{AmongTo}
use Rattle.pi_rewrite_sites.proofs.names.is_among.Given as goal

abbrev pub invariant-loop-other : goal.invariant-loop-other
invariant-loop-other l = AmongTo l.name l.names l.other-index
