use Rattle.pi_core.specs.CoreTree.{pattern_trees}
use Rattle.pi_rewrite_loops.proofs.ClauseLemmas.{clause-is}
use Rattle.pi_rewrite_loops.proofs.clauses.clause.Goals as goal

pub returns : goal.returns
returns c = clause-is (pattern_trees c.args.head.items) c.in_ok-guard.guard c.args.body c.new.result c.args.slots c.in_ok-guard.ensures.ok c.new.ensures
