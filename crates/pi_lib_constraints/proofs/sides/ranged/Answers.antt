use Rattle.std.proofs.Common.{rules, codes, to_z, of_z}
use Rattle.std.specs.Int.{w128}
use Rattle.pi_constraints.specs.State.{bindings}
use Rattle.pi_constraints.specs.Value.{value}
use Rattle.pi_effects.specs.Exception.{type_error}
use Rattle.pi_settling.specs.RightSide.{from_to, range_of}
use Rattle.pi_lib_constraints.proofs.SideLemmas.{no-side, judged-shown, range-first, range-second, range-both, range-at}
use Rattle.pi_lib_constraints.proofs.sides.ranged.Goals as goal

pub returns-in_default : goal.returns-in_default
returns-in_default g c = λ t x y a is low high.
    let v = g.S.StateStore.seen c.args.s.now in
    let b = bindings v.now.state in
    no-side v c.args.term t c.args.strict (range_of (value b x) (value b y)) is (range-first (value b x) (value b y) (c.in_default.ensures x a low))

pub returns-in_default-number_at : goal.returns-in_default-number_at
returns-in_default-number_at g c = λ t x y a is low high.
    let v = g.S.StateStore.seen c.args.s.now in
    let b = bindings v.now.state in
    no-side v c.args.term t c.args.strict (range_of (value b x) (value b y)) is (range-second (value b x) (value b y) c.in-Some.lo (c.in-Some.ensures x a low) (c.in_default-number_at.ensures y a high))

pub returns : goal.returns
returns g c = λ t x y a is low high.
    let v = g.S.StateStore.seen c.args.s.now in
    let b = bindings v.now.state in
    judged-shown v c.range_domain.result c.judged.result (type_error (codes "domain") t v.now.state) c.args.strict (range_of (value b x) (value b y)) (from_to c.in-Some.lo c.in-Some-number_at.hi) c.judged.ensures
    (range-both (value b x) (value b y) c.in-Some.lo c.in-Some-number_at.hi (c.in-Some.ensures x a low) (c.in-Some-number_at.ensures y a high))
    (range-at c.range_domain.result c.args.strict c.in-Some.lo c.in-Some-number_at.hi (to_z w128 (of_z w128 c.in-Some.lo)) (to_z w128 (of_z w128 c.in-Some-number_at.hi)) (search rules) (search rules) c.range_domain.ensures)
