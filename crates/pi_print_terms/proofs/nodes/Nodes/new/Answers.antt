use Rattle.pi_print_terms.proofs.AheadLemmas.{whole-subterms, roots-whole}
use Rattle.pi_print_terms.proofs.nodes.Nodes.new.Goals as goal

pub invariant_of-result : goal.invariant_of-result
invariant_of-result c = whole-subterms _

pub returns : goal.returns
returns c = roots-whole _
