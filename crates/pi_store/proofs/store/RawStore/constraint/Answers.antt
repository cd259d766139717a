use Rattle.std.proofs.Common.{◌<◌, length, arith}
use Rattle.std.proofs.lemmas.List.{length-map}
use Rattle.pi_store_blocks.specs.ConstraintTable.{constraint_at}
use Rattle.pi_store.proofs.PostLemmas.{shows_constraint}
use Rattle.pi_store.proofs.store.RawStore.constraint.Goals as goal

pub returns : goal.returns
returns c =
    let i = c.self.inside.words in
    rw (← c.self.view_is) (λ made.
    let lt : c.args.i < length i.constraints = omega (arith, made, length-map i.constraints (constraint_at i.region)) in
    shows_constraint c.self.inside.names i c.args.i c.in_ok-found.found c.in_ok-found.ensures lt)
