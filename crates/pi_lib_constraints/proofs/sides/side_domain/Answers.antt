use Rattle.pi_prop_read.specs.Refs.{tree_of}
use Rattle.pi_lib_constraints.proofs.SideLemmas.{side-range, side-steps}
use Rattle.pi_lib_constraints.proofs.sides.side_domain.Goals as goal

pub returns-in-Range : goal.returns-in-Range
returns-in-Range g c = λ t a is.
    let v = g.S.StateStore.seen c.args.s.now in
    let h = c.in-Range.ensures t a is in
    side-range v t c.args.strict c.ranged.result c.in-Range.lo c.in-Range.hi h (c.ranged.ensures t (tree_of v.now c.in-Range.lo) (tree_of v.now c.in-Range.hi) a is h.1 h.2)

pub returns-in-Steps : goal.returns-in-Steps
returns-in-Steps g c = λ t a is.
    let v = g.S.StateStore.seen c.args.s.now in
    let h = c.in-Steps.ensures t a is in
    side-steps v t c.args.strict c.stepped.result c.in-Steps.lo c.in-Steps.step c.in-Steps.hi h
    (c.stepped.ensures t (tree_of v.now c.in-Steps.lo) (tree_of v.now c.in-Steps.step) (tree_of v.now c.in-Steps.hi) a is h.1 h.2 h.3)
