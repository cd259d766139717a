use Rattle.pi_prog_clauses.proofs.nodes.WalkLemmas.{pushed-row, row-none}
use Rattle.pi_prog_clauses.proofs.nodes.walk.Walk.push_row.Goals as goal

pub returns-in_default : goal.returns-in_default
returns-in_default c = row-none c.args.side c.args.exps.now _ c.in_default.ensures.cases

pub returns : goal.returns
returns c = pushed-row _ _ _ c.args.exps.now c.in_ok-push.ensures.items c.in-Some.ensures.cases.0
