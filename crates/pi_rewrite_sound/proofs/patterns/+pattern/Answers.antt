use Rattle.std.proofs.Common.{refl}
use Rattle.pi_syntax.specs.ExpTree.{list, list_onto, array, call, range, range_by}
use Rattle.pi_syntax.specs.ExpLists.{exps_of}
use Rattle.pi_rewrite_slots.proofs.ExpTrees.{list-is, list_onto-is, array-is, call-is, range-is, range_by-is}
use Rattle.pi_rewrite_sound.specs.Built.{is_built_pattern, are_built_patterns}
use Rattle.pi_rewrite_sound.proofs.EachLemmas.{each-pattern, goes-on, stops, ends}
use Rattle.pi_rewrite_sound.proofs.NodeLemmas.{of-list, of-list-and, of-two, of-three}
use Rattle.pi_rewrite_sound.proofs.patterns.+pattern.Goals as goal

pub is_built_pattern-returns-in-Some : goal.is_built_pattern-returns-in-Some
unfolding is_built_pattern
is_built_pattern-returns-in-Some t c =
    of-list-and exps_of is_built_pattern are_built_patterns is_built_pattern list_onto (λ ts u. refl) c.args.exp.now c.in-Some.tail.value c.deref.result.now c.in-List.items.items c.as_slice.result.now c.are_built_patterns.result c.is_built_pattern.result
    (list_onto-is c.args.exp.now c.in-List.items c.in-List.tail c.in-Some.tail c.in-List.is c.in-Some.is) c.as_slice.ensures.value c.deref.ensures c.are_built_patterns.ensures c.is_built_pattern.ensures

pub is_built_pattern-returns-in-None : goal.is_built_pattern-returns-in-None
unfolding is_built_pattern
is_built_pattern-returns-in-None t c =
    of-list exps_of is_built_pattern are_built_patterns list (λ ts. refl) c.args.exp.now c.in-List.items.items c.as_slice-in-None.result.now c.are_built_patterns-in-None.result
    (list-is c.args.exp.now c.in-List.items c.in-List.tail c.in-List.is c.in-None.is) c.as_slice-in-None.ensures.value c.are_built_patterns-in-None.ensures

pub is_built_pattern-returns-in-Array : goal.is_built_pattern-returns-in-Array
unfolding is_built_pattern
is_built_pattern-returns-in-Array t c =
    of-list exps_of is_built_pattern are_built_patterns array (λ ts. refl) c.args.exp.now c.in-Array.items.items c.as_slice-in-Array.result.now c.are_built_patterns-in-Array.result
    (array-is c.args.exp.now c.in-Array.items c.in-Array.is) c.as_slice-in-Array.ensures.value c.are_built_patterns-in-Array.ensures

pub is_built_pattern-returns-in-Call : goal.is_built_pattern-returns-in-Call
unfolding is_built_pattern
is_built_pattern-returns-in-Call t c =
    of-list exps_of is_built_pattern are_built_patterns (call c.in-Call.field-0) (λ ts. refl) c.args.exp.now c.in-Call.args.items c.as_slice-in-Call.result.now c.are_built_patterns-in-Call.result
    (call-is c.args.exp.now c.in-Call.field-0 c.in-Call.args c.in-Call.is) c.as_slice-in-Call.ensures.value c.are_built_patterns-in-Call.ensures

pub is_built_pattern-returns-in-Some-step : goal.is_built_pattern-returns-in-Some-step
unfolding is_built_pattern
is_built_pattern-returns-in-Some-step t c =
    of-three is_built_pattern is_built_pattern range_by (λ u v w. refl) c.args.exp.now c.in-Range.first.value c.in-Some-step.step.value c.in-Range.last.value c.deref-in-Some-step.result.now c.deref-in-Some-step-2.result.now c.deref-in-Some-step-3.result.now c.is_built_pattern-in-Some-step.result c.is_built_pattern-in-Some-step-2.result c.is_built_pattern-in-Some-step-3.result
    (range_by-is c.args.exp.now c.in-Range.first c.in-Range.step c.in-Range.last c.in-Some-step.step c.in-Range.is c.in-Some-step.is) c.deref-in-Some-step.ensures c.deref-in-Some-step-2.ensures c.deref-in-Some-step-3.ensures c.is_built_pattern-in-Some-step.ensures c.is_built_pattern-in-Some-step-2.ensures c.is_built_pattern-in-Some-step-3.ensures

pub is_built_pattern-returns-in-None-step : goal.is_built_pattern-returns-in-None-step
unfolding is_built_pattern
is_built_pattern-returns-in-None-step t c =
    of-two is_built_pattern is_built_pattern range (λ u v. refl) c.args.exp.now c.in-Range.first.value c.in-Range.last.value c.deref-in-None-step.result.now c.deref-in-None-step-2.result.now c.is_built_pattern-in-None-step.result c.is_built_pattern-in-None-step-2.result
    (range-is c.args.exp.now c.in-Range.first c.in-Range.step c.in-Range.last c.in-Range.is c.in-None-step.is) c.deref-in-None-step.ensures c.deref-in-None-step-2.ensures c.is_built_pattern-in-None-step.ensures c.is_built_pattern-in-None-step-2.ensures

pub are_built_patterns-returns-then-not-is_built_pattern : goal.are_built_patterns-returns-then-not-is_built_pattern
are_built_patterns-returns-then-not-is_built_pattern t c = stops each-pattern c.args.exps.now c.loop-exp.exp-index c.exp-item.result c.is_built_pattern.result c.loop-exp-test.true c.exp-item.is c.is_built_pattern.ensures c.if-not-is_built_pattern.true c.loop-exp.invariant

pub are_built_patterns-loop-exp-preserved : goal.are_built_patterns-loop-exp-preserved
are_built_patterns-loop-exp-preserved t c = goes-on each-pattern c.args.exps.now c.loop-exp.exp-index c.exp-item.result c.is_built_pattern.result c.loop-exp-test.true c.exp-item.is c.is_built_pattern.ensures c.if-not-is_built_pattern.false c.loop-exp.invariant

pub are_built_patterns-returns : goal.are_built_patterns-returns
are_built_patterns-returns t c = ends each-pattern c.args.exps.now c.loop-exp.exp-index c.loop-exp-test.false c.loop-exp.invariant
