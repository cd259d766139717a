use Rattle.pi_store.proofs.BesideLemmas.{number_of_beside, number_of_nothing}
use Rattle.pi_store.proofs.store.RawStore.number_beside.Goals as goal

pub returns-in-Some : goal.returns-in-Some
returns-in-Some c = number_of_beside c.args.self.now c.args.m.now c.in-Some.kept c.deref.result.now c.in-Some.is c.deref.ensures

pub returns-in-None : goal.returns-in-None
returns-in-None c = number_of_nothing c.args.self.now c.args.m.now c.in-None.is
