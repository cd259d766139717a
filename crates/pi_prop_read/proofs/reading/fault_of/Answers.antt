-- The wrong term, as it is read.
use Rattle.std.proofs.Common.{◌∙◌, ap, sym, subst}
use Rattle.std.specs.Prelude.{◌≤◌, Err}
use Rattle.pi_terms.specs.Tree.{cells, most_cells}
use Rattle.pi_prop_spec.specs.Steps.{not_a_constraint}
use Rattle.pi_prop_read.specs.Refs.{tree_of, value_at}
use Rattle.pi_prop_read.specs.Faults.{Stops}
use Rattle.pi_prop_read.proofs.reading.fault_of.Goals as goal

pub returns-in-Ok : goal.returns-in-Ok
returns-in-Ok g c = λ whole s stops.
    let w = (g.S.StateStore.seen c.args.s.now).now in
    let h = subst (λ x. Stops w x whole) c.in-NotLinear.is stops in
    let read = c.in-Ok.ensures (tree_of w c.in-NotLinear.term) h.0 s.acyclic in
    (h.1 ∙ ap (λ t. Err (not_a_constraint t)) (sym read.0), subst (λ t. cells t ≤ most_cells) (sym read.0) read.1)

pub returns-in-Err-TooLarge : goal.returns-in-Err-TooLarge
returns-in-Err-TooLarge g c = λ whole s stops.
    let w = (g.S.StateStore.seen c.args.s.now).now in
    let h = subst (λ x. Stops w x whole) c.in-NotLinear.is stops in
    (value_at w c.in-NotLinear.term, h.1, (rw c.in-Err-TooLarge.field-0-is at c.in-Err-TooLarge.ensures) (tree_of w c.in-NotLinear.term) h.0 s.acyclic)

pub returns-in-Wide : goal.returns-in-Wide
returns-in-Wide g c = λ whole s stops.
    let w = (g.S.StateStore.seen c.args.s.now).now in
    subst (λ x. Stops w x whole) c.in-Wide.is stops
