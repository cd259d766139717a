use Rattle.std.proofs.Common.{refl}
use Rattle.pi_constraints.specs.State.{followed}
use Rattle.pi_store.specs.Holding.{heap_of}
use Rattle.pi_store.specs.Bindings.{bound_in}
use Rattle.pi_store.proofs.LookLemmas.{followed_to}
use Rattle.pi_store.proofs.SoundLemmas.{has_bound}
use Rattle.pi_store.proofs.store.RawStore.arg.Goals as goal

pub returns : goal.returns
returns c =
    let t = c.self.inside.names in
    let i = c.self.inside.words in
    rw (← c.self.view_is) (λ x u is acyclic e.
    c.arg.ensures (heap_of t i) (followed (bound_in (heap_of t i) i.variables) x) u refl
    (followed_to (heap_of t i) i.variables (has_bound t i c.self.invariant) c.args.r c.followed-last.result x c.followed-last.ensures is) e)
