use Rattle.std.proofs.Common.{refl}
use Rattle.pi_syntax.specs.ExpTree.{list, list_onto, array, call, range, range_by}
use Rattle.pi_syntax.specs.ExpLists.{exps_of}
use Rattle.pi_rewrite_slots.proofs.ExpTrees.{list-is, list_onto-is, array-is, call-is, range-is, range_by-is}
use Rattle.pi_rewrite_sound.specs.Built.{is_built_term, are_built_terms}
use Rattle.pi_rewrite_sound.proofs.EachLemmas.{each-term, goes-on, stops, ends}
use Rattle.pi_rewrite_sound.proofs.NodeLemmas.{of-list, of-list-and, of-two, of-three}
use Rattle.pi_rewrite_sound.proofs.terms.+term.Goals as goal

pub is_built_term-returns-in-Some : goal.is_built_term-returns-in-Some
unfolding is_built_term
is_built_term-returns-in-Some t c =
    of-list-and exps_of is_built_term are_built_terms is_built_term list_onto (λ ts u. refl) c.args.exp.now c.in-Some.tail.value c.deref.result.now c.in-List.items.items c.as_slice.result.now c.are_built_terms.result c.is_built_term.result
    (list_onto-is c.args.exp.now c.in-List.items c.in-List.tail c.in-Some.tail c.in-List.is c.in-Some.is) c.as_slice.ensures.value c.deref.ensures c.are_built_terms.ensures c.is_built_term.ensures

pub is_built_term-returns-in-None : goal.is_built_term-returns-in-None
unfolding is_built_term
is_built_term-returns-in-None t c =
    of-list exps_of is_built_term are_built_terms list (λ ts. refl) c.args.exp.now c.in-List.items.items c.as_slice-in-None.result.now c.are_built_terms-in-None.result
    (list-is c.args.exp.now c.in-List.items c.in-List.tail c.in-List.is c.in-None.is) c.as_slice-in-None.ensures.value c.are_built_terms-in-None.ensures

pub is_built_term-returns-in-Array : goal.is_built_term-returns-in-Array
unfolding is_built_term
is_built_term-returns-in-Array t c =
    of-list exps_of is_built_term are_built_terms array (λ ts. refl) c.args.exp.now c.in-Array.items.items c.as_slice-in-Array.result.now c.are_built_terms-in-Array.result
    (array-is c.args.exp.now c.in-Array.items c.in-Array.is) c.as_slice-in-Array.ensures.value c.are_built_terms-in-Array.ensures

pub is_built_term-returns-in-Call : goal.is_built_term-returns-in-Call
unfolding is_built_term
is_built_term-returns-in-Call t c =
    of-list exps_of is_built_term are_built_terms (call c.in-Call.field-0) (λ ts. refl) c.args.exp.now c.in-Call.args.items c.as_slice-in-Call.result.now c.are_built_terms-in-Call.result
    (call-is c.args.exp.now c.in-Call.field-0 c.in-Call.args c.in-Call.is) c.as_slice-in-Call.ensures.value c.are_built_terms-in-Call.ensures

pub is_built_term-returns-in-Some-step : goal.is_built_term-returns-in-Some-step
unfolding is_built_term
is_built_term-returns-in-Some-step t c =
    of-three is_built_term is_built_term range_by (λ u v w. refl) c.args.exp.now c.in-Range.first.value c.in-Some-step.step.value c.in-Range.last.value c.deref-in-Some-step.result.now c.deref-in-Some-step-2.result.now c.deref-in-Some-step-3.result.now c.is_built_term-in-Some-step.result c.is_built_term-in-Some-step-2.result c.is_built_term-in-Some-step-3.result
    (range_by-is c.args.exp.now c.in-Range.first c.in-Range.step c.in-Range.last c.in-Some-step.step c.in-Range.is c.in-Some-step.is) c.deref-in-Some-step.ensures c.deref-in-Some-step-2.ensures c.deref-in-Some-step-3.ensures c.is_built_term-in-Some-step.ensures c.is_built_term-in-Some-step-2.ensures c.is_built_term-in-Some-step-3.ensures

pub is_built_term-returns-in-None-step : goal.is_built_term-returns-in-None-step
unfolding is_built_term
is_built_term-returns-in-None-step t c =
    of-two is_built_term is_built_term range (λ u v. refl) c.args.exp.now c.in-Range.first.value c.in-Range.last.value c.deref-in-None-step.result.now c.deref-in-None-step-2.result.now c.is_built_term-in-None-step.result c.is_built_term-in-None-step-2.result
    (range-is c.args.exp.now c.in-Range.first c.in-Range.step c.in-Range.last c.in-Range.is c.in-None-step.is) c.deref-in-None-step.ensures c.deref-in-None-step-2.ensures c.is_built_term-in-None-step.ensures c.is_built_term-in-None-step-2.ensures

pub are_built_terms-returns-then-not-is_built_term : goal.are_built_terms-returns-then-not-is_built_term
are_built_terms-returns-then-not-is_built_term t c = stops each-term c.args.exps.now c.loop-exp.exp-index c.exp-item.result c.is_built_term.result c.loop-exp-test.true c.exp-item.is c.is_built_term.ensures c.if-not-is_built_term.true c.loop-exp.invariant

pub are_built_terms-loop-exp-preserved : goal.are_built_terms-loop-exp-preserved
are_built_terms-loop-exp-preserved t c = goes-on each-term c.args.exps.now c.loop-exp.exp-index c.exp-item.result c.is_built_term.result c.loop-exp-test.true c.exp-item.is c.is_built_term.ensures c.if-not-is_built_term.false c.loop-exp.invariant

pub are_built_terms-returns : goal.are_built_terms-returns
are_built_terms-returns t c = ends each-term c.args.exps.now c.loop-exp.exp-index c.loop-exp-test.false c.loop-exp.invariant
