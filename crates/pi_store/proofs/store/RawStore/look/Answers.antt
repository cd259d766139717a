use Rattle.std.proofs.Common.{refl}
use Rattle.pi_constraints.specs.State.{followed}
use Rattle.pi_store.specs.Holding.{heap_of}
use Rattle.pi_store.specs.Bindings.{bound_in}
use Rattle.pi_store.proofs.LookLemmas.{followed_to, shows_cell, speaks_below}
use Rattle.pi_store.proofs.SoundLemmas.{has_bound}
use Rattle.pi_store.proofs.store.RawStore.look.Goals as goal

pub returns-clause-shows : goal.returns-clause-shows
returns-clause-shows c =
    let t = c.self.inside.names in
    let i = c.self.inside.words in
    rw (← c.self.view_is) (λ x is acyclic.
    shows_cell t i (followed (bound_in (heap_of t i) i.variables) x) c.cell.result
    (c.cell.ensures (heap_of t i) (followed (bound_in (heap_of t i) i.variables) x) refl (followed_to (heap_of t i) i.variables (has_bound t i c.self.invariant) c.args.r c.followed-last.result x c.followed-last.ensures is)))

pub returns-clause-below : goal.returns-clause-below
returns-clause-below c =
    let t = c.self.inside.names in
    let i = c.self.inside.words in
    rw (← c.self.view_is) (λ q x is. speaks_below (heap_of t i) i q.number x refl is)

pub returns-clause-distinct : goal.returns-clause-distinct
returns-clause-distinct c = rw (← c.self.view_is) c.self.invariant.distinct.same
