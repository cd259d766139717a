use Rattle.std.proofs.Common.{arith}
use Rattle.pi_print_terms.proofs.AheadLemmas.{reads_on, ended}
use Rattle.pi_print_terms.proofs.nodes.Nodes.next.Goals as goal

pub returns-then-at-cells-clause-root : goal.returns-then-at-cells-clause-root
returns-then-at-cells-clause-root c = ended _ _ _ c.self.view_is (omega arith)

pub invariant_of-self : goal.invariant_of-self
invariant_of-self c = (reads_on _ _ _ _ c.self.invariant c.self.view_is c.head_at.ensures).kept

pub returns-clause-root : goal.returns-clause-root
returns-clause-root c = (reads_on _ _ _ _ c.self.invariant c.self.view_is c.head_at.ensures).root

pub returns-clause-arguments : goal.returns-clause-arguments
returns-clause-arguments c = (reads_on _ _ _ _ c.self.invariant c.self.view_is c.head_at.ensures).arguments

pub returns-clause-fewer : goal.returns-clause-fewer
returns-clause-fewer c = (reads_on _ _ _ _ c.self.invariant c.self.view_is c.head_at.ensures).fewer
