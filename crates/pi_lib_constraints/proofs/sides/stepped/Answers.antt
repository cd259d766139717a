use Rattle.std.proofs.Common.{rules, codes, to_z, of_z}
use Rattle.std.specs.Int.{w128}
use Rattle.pi_constraints.specs.State.{bindings}
use Rattle.pi_constraints.specs.Value.{value}
use Rattle.pi_effects.specs.Exception.{type_error}
use Rattle.pi_settling.specs.RightSide.{by_steps, range_by}
use Rattle.pi_lib_constraints.proofs.SideLemmas.{no-side, judged-shown, steps-first, steps-second, steps-third, steps-all, steps-at}
use Rattle.pi_lib_constraints.proofs.sides.stepped.Goals as goal

pub returns-in_default : goal.returns-in_default
returns-in_default g c = λ t x y z a is low step high.
    let v = g.S.StateStore.seen c.args.s.now in
    let b = bindings v.now.state in
    no-side v c.args.term t c.args.strict (range_by (value b x) (value b y) (value b z)) is (steps-first (value b x) (value b y) (value b z) (c.in_default.ensures x a low))

pub returns-in_default-number_at : goal.returns-in_default-number_at
returns-in_default-number_at g c = λ t x y z a is low step high.
    let v = g.S.StateStore.seen c.args.s.now in
    let b = bindings v.now.state in
    no-side v c.args.term t c.args.strict (range_by (value b x) (value b y) (value b z)) is
    (steps-second (value b x) (value b y) (value b z) c.in-Some.lo (c.in-Some.ensures x a low) (c.in_default-number_at.ensures y a step))

pub returns-in_default-number_at-2 : goal.returns-in_default-number_at-2
returns-in_default-number_at-2 g c = λ t x y z a is low step high.
    let v = g.S.StateStore.seen c.args.s.now in
    let b = bindings v.now.state in
    no-side v c.args.term t c.args.strict (range_by (value b x) (value b y) (value b z)) is
    (steps-third (value b x) (value b y) (value b z) c.in-Some.lo c.in-Some-number_at.step (c.in-Some.ensures x a low) (c.in-Some-number_at.ensures y a step) (c.in_default-number_at-2.ensures z a high))

pub returns : goal.returns
returns g c = λ t x y z a is low step high.
    let v = g.S.StateStore.seen c.args.s.now in
    let b = bindings v.now.state in
    judged-shown v c.steps_domain.result c.judged.result (type_error (codes "domain") t v.now.state) c.args.strict (range_by (value b x) (value b y) (value b z)) (by_steps c.in-Some.lo c.in-Some-number_at.step c.in-Some-number_at-2.hi) c.judged.ensures
    (steps-all (value b x) (value b y) (value b z) c.in-Some.lo c.in-Some-number_at.step c.in-Some-number_at-2.hi (c.in-Some.ensures x a low) (c.in-Some-number_at.ensures y a step) (c.in-Some-number_at-2.ensures z a high))
    (steps-at c.steps_domain.result c.args.strict c.in-Some.lo c.in-Some-number_at.step c.in-Some-number_at-2.hi (to_z w128 (of_z w128 c.in-Some.lo)) (to_z w128 (of_z w128 c.in-Some-number_at.step)) (to_z w128 (of_z w128 c.in-Some-number_at-2.hi)) (search rules) (search rules) (search rules) c.steps_domain.ensures)
