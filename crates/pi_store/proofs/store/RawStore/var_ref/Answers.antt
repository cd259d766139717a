use Rattle.std.proofs.Common.{◌<◌, ◌^◌, length, arith}
use Rattle.pi_store.specs.Holding.{heap_of}
use Rattle.pi_store.proofs.LookLemmas.{below_next}
use Rattle.pi_store.proofs.store.RawStore.var_ref.Goals as goal

pub returns : goal.returns
returns c =
    let t = c.self.inside.names in
    let i = c.self.inside.words in
    let few : length i.variables < 2 ^ 61 = omega (arith, c.count-count.ensures.len, c.count-count.ensures.small) in
    rw (← c.self.view_is) (λ lt. c.var_ref.ensures (heap_of t i) (below_next (heap_of t i) i c.args.n lt) few)
