use Rattle.std.specs.Prelude.{IsSome, true}
use Rattle.std.specs.BTreeMap.{get}
use Rattle.pi_plan.specs.Place.{place_order}
use Rattle.pi_plan.specs.declared.search.Standing.{Standing}
use Rattle.pi_plan.proofs.PutLemmas.{marks_by, opens_some}
use Rattle.pi_plan.proofs.search.mark.Goals as goal

pub returns-in-Some : goal.returns-in-Some
returns-in-Some c =
    let value : Standing = record { cost = c.args.cost; is_asked = true } in
    λ open_now.
    let some : IsSome (get place_order c.args.known.now c.args.place.now) = opens_some (get place_order c.args.known.now c.args.place.now) open_now in
    let updates = (c.get_mut.follows.holds value).3 some in
    marks_by c.args.known.now (c.get_mut.follows.lender value) c.args.place.now c.args.cost updates.1 updates.2
