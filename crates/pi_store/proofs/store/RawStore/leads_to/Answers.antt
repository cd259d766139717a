use Rattle.pi_store.specs.Holding.{heap_of}
use Rattle.pi_store.proofs.LeadLemmas.{leads_term}
use Rattle.pi_store.proofs.SoundLemmas.{has_bound}
use Rattle.pi_store.proofs.store.RawStore.leads_to.Goals as goal

pub returns : goal.returns
returns c =
    let t = c.self.inside.names in
    let i = c.self.inside.words in
    rw (← c.self.view_is) (λ x is acyclic. leads_term (heap_of t i) i.variables (has_bound t i c.self.invariant) c.args.r x c.args.v c.leads_to.result c.leads_to.ensures is acyclic)
