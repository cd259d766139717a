use Rattle.pi_meaning.proofs.CoreMeaning.QueryLemmas.{whole-query, one-run, run-deeper}
use Rattle.pi_meaning.proofs.laws.meaning.runs_are_one.Goals as goal

pub returns-clause-whole : goal.returns-clause-whole
returns-clause-whole c = whole-query

pub returns-clause-run : goal.returns-clause-run
returns-clause-run c = one-run

pub returns-clause-deeper : goal.returns-clause-deeper
returns-clause-deeper c = run-deeper
