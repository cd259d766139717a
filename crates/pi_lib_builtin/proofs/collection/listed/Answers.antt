use Rattle.std.proofs.Common.{subst}
use Rattle.pi_constraints.specs.State.{bindings}
use Rattle.pi_effects.specs.Items.{list_items}
use Rattle.pi_lib_builtin.specs.Items.{ShowsItems}
use Rattle.pi_lib_builtin.proofs.WalkLemmas.{list-raised}
use Rattle.pi_lib_builtin.proofs.collection.listed.Goals as goal

pub returns-in-None : goal.returns-in-None
returns-in-None g c = λ t a is.
    let v = g.S.StateStore.seen c.args.s.now in
    list-raised v c.args.term c.args.kind t is (subst (ShowsItems v (list_items (bindings v.now.state) t)) c.in-None.is (c.in_ok-found.ensures t a is))
