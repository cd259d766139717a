use Rattle.std.proofs.Common.{◌≡◌, ◌<◌, arith, length}
use Rattle.pi_core.specs.GoalTree.{GoalTree, subgoal, child_count}
use Rattle.pi_core.proofs.GoalPlaces.{place_of, place_of-first, place_of-more, place_of-fits, place_of-within}
use Rattle.pi_engine_code.proofs.LaidSizes.{place_of-end, size-there}
use Rattle.pi_engine_code.proofs.build.sizes.size_at.Goals as goal

pub loop-k-init : goal.loop-k-init
loop-k-init c = λ g lt is. place_of-first g c.args.i

pub bounds-sizes-at : goal.bounds-sizes-at
bounds-sizes-at c =
    let g : GoalTree = c.requires.0 in
    let has : c.loop-k._k < child_count (subgoal g c.args.i) = omega (arith, c.requires.2.counts c.args.i (omega arith) c.requires.1) in
    omega (arith, c.loop-k.invariant g c.requires.1 c.requires.2, place_of-within g c.args.i c.loop-k._k c.requires.1 has, c.requires.2.long)

pub offset_bounds-sizes-at : goal.offset_bounds-sizes-at
offset_bounds-sizes-at c =
    let g : GoalTree = c.requires.0 in
    let has : c.loop-k._k < child_count (subgoal g c.args.i) = omega (arith, c.requires.2.counts c.args.i (omega arith) c.requires.1) in
    let within : c.loop-k.at < length c.args.sizes.now = omega (arith, c.loop-k.invariant g c.requires.1 c.requires.2, place_of-within g c.args.i c.loop-k._k c.requires.1 has, c.requires.2.long) in
    omega (arith, within)

pub overflow_add-at-in-loop-k : goal.overflow_add-at-in-loop-k
overflow_add-at-in-loop-k c =
    let g : GoalTree = c.requires.0 in
    let here : c.loop-k.at ≡ place_of g c.args.i c.loop-k._k = c.loop-k.invariant g c.requires.1 c.requires.2 in
    let has : c.loop-k._k < child_count (subgoal g c.args.i) = omega (arith, c.requires.2.counts c.args.i (omega arith) c.requires.1) in
    omega (arith, here, size-there g c.args.sizes.now c.args.i c.loop-k._k c.loop-k.at c.requires.1 c.requires.2 has here, place_of-fits g c.args.i c.loop-k._k c.requires.1 has, c.requires.2.long)

pub loop-k-preserved : goal.loop-k-preserved
loop-k-preserved c = λ g lt is.
    let here : c.loop-k.at ≡ place_of g c.args.i c.loop-k._k = c.loop-k.invariant g lt is in
    let has : c.loop-k._k < child_count (subgoal g c.args.i) = omega (arith, is.counts c.args.i (omega arith) lt) in
    omega (arith, here, size-there g c.args.sizes.now c.args.i c.loop-k._k c.loop-k.at lt is has here, place_of-more g c.args.i c.loop-k._k has)

pub overflow_sub-result : goal.overflow_sub-result
overflow_sub-result c =
    let g : GoalTree = c.requires.0 in
    omega (arith, c.loop-k.invariant g c.requires.1 c.requires.2)

pub returns : goal.returns
returns c = λ g lt is.
    let all : c.loop-k._k ≡ child_count (subgoal g c.args.i) = omega (arith, is.counts c.args.i (omega arith) lt) in
    omega (arith, c.loop-k.invariant g lt is, place_of-end g c.args.i c.loop-k._k all)
