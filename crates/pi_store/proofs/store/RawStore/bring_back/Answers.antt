use Rattle.pi_store.proofs.BesideLemmas.{brings_back, nothing_beside}
use Rattle.pi_store.proofs.store.RawStore.bring_back.Goals as goal

pub returns-in_ok-put_back-in-Some-clause-ok : goal.returns-in_ok-put_back-in-Some-clause-ok
returns-in_ok-put_back-in-Some-clause-ok c = brings_back c.args.self.now c.put_back.new.self c.args.m.now c.in-Some.kept c.deref.result.now c.in-Some.is c.deref.ensures c.in_ok-put_back-in-Some.ensures.ok

pub returns-in-None-clause-ok : goal.returns-in-None-clause-ok
returns-in-None-clause-ok c = nothing_beside c.args.self.now c.args.self.now c.args.m.now c.in-None.is
