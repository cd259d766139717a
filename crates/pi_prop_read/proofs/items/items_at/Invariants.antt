use Rattle.std.proofs.Common.{drop}
use Rattle.pi_constraints.specs.State.{IsState}
use Rattle.pi_prop_spec.specs.Steps.{Made}
use Rattle.pi_prop_spec.specs.Lists.{read_each}
use Rattle.pi_prop_read.specs.OperandFrames.{AreThere}
use Rattle.pi_prop_read.specs.Items.{values_at}
use Rattle.pi_prop_read.proofs.ItemLemmas.{EachSoFar}
use Rattle.pi_prop_read.proofs.items.items_at.Given as goal

-- the items before one were read
abbrev pub invariant-loop-i : goal.invariant-loop-i
invariant-loop-i g l =
    let w = (g.S.StateStore.seen l.s).now in
    (m : Made) → IsState w.state → AreThere w l.terms → EachSoFar w m l.items (drop l.i l.terms) (read_each (values_at w l.terms) m)
