use Rattle.pi_store.specs.Holding.{heap_of}
use Rattle.pi_store.proofs.store.RawStore.is_ground.Goals as goal

pub returns : goal.returns
returns c = λ t e. c.is_ground.ensures (heap_of c.args.self.now.names c.args.self.now.image) t e
