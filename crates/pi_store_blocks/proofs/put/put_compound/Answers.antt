use Rattle.pi_store_blocks.proofs.PutLemmas.{two_numbers}
use Rattle.pi_store_blocks.proofs.put.put_compound.Goals as goal

pub returns-then-args-eq2-clause-ok : goal.returns-then-args-eq2-clause-ok
returns-then-args-eq2-clause-ok c = rw (two_numbers c.args.args.now (record { number = 0 }) c.if-args-eq2.true, c.if-name-eq0.true) c.put_pair.ensures.ok

pub returns-then-args-eq2-clause-right : goal.returns-then-args-eq2-clause-right
returns-then-args-eq2-clause-right c = rw (two_numbers c.args.args.now (record { number = 0 }) c.if-args-eq2.true, c.if-name-eq0.true) c.put_pair.ensures.right
