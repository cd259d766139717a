use Rattle.pi_outside.proofs.WriteRuns.{ByWrites-so}
use Rattle.pi_top.proofs.query.run_query.Goals as goal

pub returns-clause-comes : goal.returns-clause-comes
returns-clause-comes g c = ByWrites-so c.run_over.ensures.comes (λ writes comes. comes c.new-store.ensures)
