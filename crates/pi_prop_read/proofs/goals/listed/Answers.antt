use Rattle.std.proofs.Common.{ap, sym, subst}
use Rattle.pi_prop_spec.specs.Steps.{after}
use Rattle.pi_prop_spec.specs.Lists.{read_collection, read_each}
use Rattle.pi_prop_read.specs.Refs.{value_at}
use Rattle.pi_prop_read.specs.OperandFrames.{AreThere}
use Rattle.pi_prop_read.specs.Items.{values_at, ShowsEach}
use Rattle.pi_prop_read.proofs.GoalLemmas.{refused-then}
use Rattle.pi_prop_read.proofs.goals.listed.Goals as goal

pub returns-in-Ok : goal.returns-in-Ok
returns-in-Ok g c = λ m s here.
    let w = (g.S.StateStore.seen c.args.s.now).now in
    let h = c.in-Ok.ensures m s here in
    let own = c.items_at.ensures m s (subst (AreThere w) (sym c.deref.ensures.value) h.1) in
    subst (λ o. ShowsEach w c.items_at.result o m) (sym (ap (λ o. after o read_each) h.0)) (subst (λ rs. ShowsEach w c.items_at.result (read_each (values_at w rs) m) m) c.deref.ensures.value own)

pub returns-in-Err : goal.returns-in-Err
returns-in-Err g c = λ m s here.
    let w = (g.S.StateStore.seen c.args.s.now).now in
    refused-then w c.in-Err.stop (read_collection (value_at w c.args.collection) m) read_each (c.in-Err.ensures m s here)
