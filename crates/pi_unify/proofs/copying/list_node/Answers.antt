use Rattle.pi_constraints.specs.declared.store.Ref.{Ref}
use Rattle.pi_unify.specs.Terms.{HoldsNoCycle}
use Rattle.pi_unify.specs.Copying.{AreWalks, EntersNext, Listing, GoesOnListing}
use Rattle.pi_unify.proofs.BindLemmas.{if_ok}
use Rattle.pi_unify.proofs.ListingLemmas.{node_listed}
use Rattle.pi_unify.proofs.copying.list_node.Goals as goal

pub returns-clause-lists : goal.returns-clause-lists
returns-clause-lists g c =
    let v = g.S.StateStore.seen c.args.s.now in
    let old = c.args.nodes.now in
    let refs = c.push.new.self.items in
    let numbers = c.note_variable.new.numbers in
    let middle = c.leave_all.new.rests.items in
    let left = c.next_term.new.rests.items in
    if_ok c.next_term.result (λ next. HoldsNoCycle v → AreWalks v middle → EntersNext v middle left next) (λ next. (whole : Ref) → HoldsNoCycle v → Listing v old.refs.items old.numbers old.left.items c.args.at whole → GoesOnListing v refs numbers left whole next) c.next_term.ensures.values
    (λ next enters whole a now. node_listed v old.refs.items refs old.numbers numbers old.left.items middle left c.args.at whole c.look-cell.result c.argument_count.result next a now c.look-cell.ensures.shows c.in_ok-push.ensures.items c.in_ok-note_variable.ensures c.argument_count.ensures c.in_ok-leave_all.ensures (enters a))
