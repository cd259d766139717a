-- Each kind of expression by its lemma.
use Rattle.std.proofs.Common.{◌+◌, List, refl, sym, ◌∙◌, ap, arith}
use Rattle.pi_syntax.specs.ExpTree.{exp_tree}
use Rattle.pi_syntax.specs.ExpLists.{exps_of}
use Rattle.pi_rewrite_slots.specs.Branches.{branches_in}
use Rattle.pi_syntax.specs.declared.exp.Exp.{Exp}
use Rattle.pi_rewrite_spec.specs.Sites.{helpers_in, helpers_in_all, helpers_in_branches, helpers_in_units, start_helpers}
use Rattle.pi_rewrite_sites.proofs.NowTrees.{list-now, onto-now, array-now, call-now, index-now, range-now, range_by-now, collect-now, and-now, or-now, arrow-now, if_then-now, if_else-now, foreach-now, while-now, do-now}
use Rattle.pi_rewrite_sites.proofs.CountLemmas.{one-count, two-counts, more-counts, all-more, all-end, branches-more, branches-end, units-more, units-end}
use Rattle.pi_rewrite_sites.proofs.counts.+counts.Goals as goal

pub helpers_in-returns-in-Some : goal.helpers_in-returns-in-Some
unfolding helpers_in
helpers_in-returns-in-Some t c =
    two-counts c.sum.result c.helpers_in_all.result c.helpers_in.result (helpers_in (exp_tree c.args.exp.now)) (helpers_in_all (exps_of c.as_slice.result.now)) (helpers_in (exp_tree c.deref.result.now)) (ap helpers_in (onto-now c.args.exp.now c.in-List.items c.in-List.tail c.in-Some.tail c.as_slice.result.now c.deref.result.now c.in-List.is c.in-Some.is c.as_slice.ensures.value c.deref.ensures)) c.helpers_in_all.ensures c.helpers_in.ensures c.sum.ensures

pub helpers_in-returns-in-None : goal.helpers_in-returns-in-None
unfolding helpers_in
helpers_in-returns-in-None t c =
    one-count c.helpers_in_all-in-None.result (helpers_in (exp_tree c.args.exp.now)) (helpers_in_all (exps_of c.as_slice-in-None.result.now)) (ap helpers_in (list-now c.args.exp.now c.in-List.items c.in-List.tail c.as_slice-in-None.result.now c.in-List.is c.in-None.is c.as_slice-in-None.ensures.value)) c.helpers_in_all-in-None.ensures

pub helpers_in-returns-in-Array : goal.helpers_in-returns-in-Array
unfolding helpers_in
helpers_in-returns-in-Array t c =
    one-count c.helpers_in_all-in-Array.result (helpers_in (exp_tree c.args.exp.now)) (helpers_in_all (exps_of c.as_slice-in-Array.result.now)) (ap helpers_in (array-now c.args.exp.now c.in-Array.items c.as_slice-in-Array.result.now c.in-Array.is c.as_slice-in-Array.ensures.value)) c.helpers_in_all-in-Array.ensures

pub helpers_in-returns-in-Call : goal.helpers_in-returns-in-Call
unfolding helpers_in
helpers_in-returns-in-Call t c =
    one-count c.helpers_in_all-in-Call.result (helpers_in (exp_tree c.args.exp.now)) (helpers_in_all (exps_of c.as_slice-in-Call.result.now)) (ap helpers_in (call-now c.args.exp.now c.in-Call.field-0 c.in-Call.args c.as_slice-in-Call.result.now c.in-Call.is c.as_slice-in-Call.ensures.value)) c.helpers_in_all-in-Call.ensures

pub helpers_in-returns-in-Index : goal.helpers_in-returns-in-Index
unfolding helpers_in
helpers_in-returns-in-Index t c =
    two-counts c.sum-in-Index.result c.helpers_in-in-Index.result c.helpers_in_all-in-Index.result (helpers_in (exp_tree c.args.exp.now)) (helpers_in (exp_tree c.deref-in-Index.result.now)) (helpers_in_all (exps_of c.as_slice-in-Index.result.now)) (ap helpers_in (index-now c.args.exp.now c.in-Index.of c.in-Index.places c.as_slice-in-Index.result.now c.deref-in-Index.result.now c.in-Index.is c.as_slice-in-Index.ensures.value c.deref-in-Index.ensures)) c.helpers_in-in-Index.ensures c.helpers_in_all-in-Index.ensures c.sum-in-Index.ensures

pub helpers_in-returns-in-Some-step : goal.helpers_in-returns-in-Some-step
unfolding helpers_in
helpers_in-returns-in-Some-step t c =
    two-counts c.sum-in-Some-step-2.result c.helpers_in-in-Some-step.result c.sum-in-Some-step.result (helpers_in (exp_tree c.args.exp.now)) (helpers_in (exp_tree c.deref-in-Some-step.result.now)) ((helpers_in (exp_tree c.deref-in-Some-step-2.result.now)) + (helpers_in (exp_tree c.deref-in-Some-step-3.result.now))) (ap helpers_in (range_by-now c.args.exp.now c.in-Range.first c.in-Range.step c.in-Range.last c.in-Some-step.step c.deref-in-Some-step.result.now c.deref-in-Some-step-2.result.now c.deref-in-Some-step-3.result.now c.in-Range.is c.in-Some-step.is c.deref-in-Some-step.ensures c.deref-in-Some-step-2.ensures c.deref-in-Some-step-3.ensures)) c.helpers_in-in-Some-step.ensures
    (two-counts c.sum-in-Some-step.result c.helpers_in-in-Some-step-2.result c.helpers_in-in-Some-step-3.result ((helpers_in (exp_tree c.deref-in-Some-step-2.result.now)) + (helpers_in (exp_tree c.deref-in-Some-step-3.result.now))) (helpers_in (exp_tree c.deref-in-Some-step-2.result.now)) (helpers_in (exp_tree c.deref-in-Some-step-3.result.now)) refl c.helpers_in-in-Some-step-2.ensures c.helpers_in-in-Some-step-3.ensures c.sum-in-Some-step.ensures) c.sum-in-Some-step-2.ensures

pub helpers_in-returns-in-None-step : goal.helpers_in-returns-in-None-step
unfolding helpers_in
helpers_in-returns-in-None-step t c =
    two-counts c.sum-in-None-step.result c.helpers_in-in-None-step.result c.helpers_in-in-None-step-2.result (helpers_in (exp_tree c.args.exp.now)) (helpers_in (exp_tree c.deref-in-None-step.result.now)) (helpers_in (exp_tree c.deref-in-None-step-2.result.now)) (ap helpers_in (range-now c.args.exp.now c.in-Range.first c.in-Range.step c.in-Range.last c.deref-in-None-step.result.now c.deref-in-None-step-2.result.now c.in-Range.is c.in-None-step.is c.deref-in-None-step.ensures c.deref-in-None-step-2.ensures)) c.helpers_in-in-None-step.ensures c.helpers_in-in-None-step-2.ensures c.sum-in-None-step.ensures

pub helpers_in-returns-in-Collect : goal.helpers_in-returns-in-Collect
unfolding helpers_in
helpers_in-returns-in-Collect t c =
    more-counts c.with_start.result c.sum-in-Collect.result (helpers_in (exp_tree c.args.exp.now)) ((helpers_in_units (exps_of c.as_slice-in-Collect-2.result.now)) + (helpers_in (exp_tree c.deref-in-Collect.result.now))) (start_helpers (exps_of c.as_slice-in-Collect-2.result.now)) (start_helpers (exps_of c.as_slice-in-Collect.result.now)) (ap helpers_in (collect-now c.args.exp.now c.in-Collect.field-0 c.in-Collect.item c.in-Collect.units c.as_slice-in-Collect-2.result.now c.deref-in-Collect.result.now c.in-Collect.is c.as_slice-in-Collect-2.ensures.value c.deref-in-Collect.ensures)) (ap (λ (xs : List Exp). start_helpers (exps_of xs)) (c.as_slice-in-Collect.ensures.value ∙ sym c.as_slice-in-Collect-2.ensures.value))
    (two-counts c.sum-in-Collect.result c.helpers_in_units.result c.helpers_in-in-Collect.result ((helpers_in_units (exps_of c.as_slice-in-Collect-2.result.now)) + (helpers_in (exp_tree c.deref-in-Collect.result.now))) (helpers_in_units (exps_of c.as_slice-in-Collect-2.result.now)) (helpers_in (exp_tree c.deref-in-Collect.result.now)) refl c.helpers_in_units.ensures c.helpers_in-in-Collect.ensures c.sum-in-Collect.ensures) c.with_start.ensures

pub helpers_in-returns-in-And : goal.helpers_in-returns-in-And
unfolding helpers_in
helpers_in-returns-in-And t c =
    one-count c.helpers_in_all-in-And.result (helpers_in (exp_tree c.args.exp.now)) (helpers_in_all (exps_of c.as_slice-in-And.result.now)) (ap helpers_in (and-now c.args.exp.now c.in-And.parts c.as_slice-in-And.result.now c.in-And.is c.as_slice-in-And.ensures.value)) c.helpers_in_all-in-And.ensures

pub helpers_in-returns-in-Or : goal.helpers_in-returns-in-Or
unfolding helpers_in
helpers_in-returns-in-Or t c =
    one-count c.helpers_in_all-in-Or.result (helpers_in (exp_tree c.args.exp.now)) (helpers_in_all (exps_of c.as_slice-in-Or.result.now)) (ap helpers_in (or-now c.args.exp.now c.in-Or.parts c.as_slice-in-Or.result.now c.in-Or.is c.as_slice-in-Or.ensures.value)) c.helpers_in_all-in-Or.ensures

pub helpers_in-returns-in-Arrow : goal.helpers_in-returns-in-Arrow
unfolding helpers_in
helpers_in-returns-in-Arrow t c =
    two-counts c.sum-in-Arrow.result c.helpers_in-in-Arrow.result c.helpers_in-in-Arrow-2.result (helpers_in (exp_tree c.args.exp.now)) (helpers_in (exp_tree c.deref-in-Arrow.result.now)) (helpers_in (exp_tree c.deref-in-Arrow-2.result.now)) (ap helpers_in (arrow-now c.args.exp.now c.in-Arrow.test c.in-Arrow.body c.deref-in-Arrow.result.now c.deref-in-Arrow-2.result.now c.in-Arrow.is c.deref-in-Arrow.ensures c.deref-in-Arrow-2.ensures)) c.helpers_in-in-Arrow.ensures c.helpers_in-in-Arrow-2.ensures c.sum-in-Arrow.ensures

pub helpers_in-returns-in-Some-other : goal.helpers_in-returns-in-Some-other
unfolding helpers_in
helpers_in-returns-in-Some-other t c =
    two-counts c.sum-in-Some-other.result c.helpers_in_branches.result c.helpers_in-in-Some-other.result (helpers_in (exp_tree c.args.exp.now)) (helpers_in_branches (branches_in c.as_slice-in-Some-other.result.now)) (helpers_in (exp_tree c.deref-in-Some-other.result.now)) (ap helpers_in (if_else-now c.args.exp.now c.in-If.branches c.in-If.other c.in-Some-other.other c.as_slice-in-Some-other.result.now c.deref-in-Some-other.result.now c.in-If.is c.in-Some-other.is c.as_slice-in-Some-other.ensures.value c.deref-in-Some-other.ensures)) c.helpers_in_branches.ensures c.helpers_in-in-Some-other.ensures c.sum-in-Some-other.ensures

pub helpers_in-returns-in-None-other : goal.helpers_in-returns-in-None-other
unfolding helpers_in
helpers_in-returns-in-None-other t c =
    one-count c.helpers_in_branches-in-None-other.result (helpers_in (exp_tree c.args.exp.now)) (helpers_in_branches (branches_in c.as_slice-in-None-other.result.now)) (ap helpers_in (if_then-now c.args.exp.now c.in-If.branches c.in-If.other c.as_slice-in-None-other.result.now c.in-If.is c.in-None-other.is c.as_slice-in-None-other.ensures.value)) c.helpers_in_branches-in-None-other.ensures

pub helpers_in-returns-in-Foreach : goal.helpers_in-returns-in-Foreach
unfolding helpers_in
helpers_in-returns-in-Foreach t c =
    more-counts c.with_start-in-Foreach.result c.sum-in-Foreach.result (helpers_in (exp_tree c.args.exp.now)) ((helpers_in_units (exps_of c.as_slice-in-Foreach-2.result.now)) + (helpers_in (exp_tree c.deref-in-Foreach.result.now))) (start_helpers (exps_of c.as_slice-in-Foreach-2.result.now)) (start_helpers (exps_of c.as_slice-in-Foreach.result.now)) (ap helpers_in (foreach-now c.args.exp.now c.in-Foreach.units c.in-Foreach.body c.as_slice-in-Foreach-2.result.now c.deref-in-Foreach.result.now c.in-Foreach.is c.as_slice-in-Foreach-2.ensures.value c.deref-in-Foreach.ensures)) (ap (λ (xs : List Exp). start_helpers (exps_of xs)) (c.as_slice-in-Foreach.ensures.value ∙ sym c.as_slice-in-Foreach-2.ensures.value))
    (two-counts c.sum-in-Foreach.result c.helpers_in_units-in-Foreach.result c.helpers_in-in-Foreach.result ((helpers_in_units (exps_of c.as_slice-in-Foreach-2.result.now)) + (helpers_in (exp_tree c.deref-in-Foreach.result.now))) (helpers_in_units (exps_of c.as_slice-in-Foreach-2.result.now)) (helpers_in (exp_tree c.deref-in-Foreach.result.now)) refl c.helpers_in_units-in-Foreach.ensures c.helpers_in-in-Foreach.ensures c.sum-in-Foreach.ensures) c.with_start-in-Foreach.ensures

pub helpers_in-returns-in-While : goal.helpers_in-returns-in-While
unfolding helpers_in
helpers_in-returns-in-While t c =
    more-counts c.with_own.result c.sum-in-While.result (helpers_in (exp_tree c.args.exp.now)) ((helpers_in (exp_tree c.deref-in-While.result.now)) + (helpers_in (exp_tree c.deref-in-While-2.result.now))) 1 1 (ap helpers_in (while-now c.args.exp.now c.in-While.test c.in-While.body c.deref-in-While.result.now c.deref-in-While-2.result.now c.in-While.is c.deref-in-While.ensures c.deref-in-While-2.ensures) ∙ omega arith) refl
    (two-counts c.sum-in-While.result c.helpers_in-in-While.result c.helpers_in-in-While-2.result ((helpers_in (exp_tree c.deref-in-While.result.now)) + (helpers_in (exp_tree c.deref-in-While-2.result.now))) (helpers_in (exp_tree c.deref-in-While.result.now)) (helpers_in (exp_tree c.deref-in-While-2.result.now)) refl c.helpers_in-in-While.ensures c.helpers_in-in-While-2.ensures c.sum-in-While.ensures) c.with_own.ensures

pub helpers_in-returns-in-DoWhile : goal.helpers_in-returns-in-DoWhile
unfolding helpers_in
helpers_in-returns-in-DoWhile t c =
    more-counts c.with_own-in-DoWhile.result c.sum-in-DoWhile.result (helpers_in (exp_tree c.args.exp.now)) ((helpers_in (exp_tree c.deref-in-DoWhile.result.now)) + (helpers_in (exp_tree c.deref-in-DoWhile-2.result.now))) 1 1 (ap helpers_in (do-now c.args.exp.now c.in-DoWhile.body c.in-DoWhile.test c.deref-in-DoWhile.result.now c.deref-in-DoWhile-2.result.now c.in-DoWhile.is c.deref-in-DoWhile.ensures c.deref-in-DoWhile-2.ensures) ∙ omega arith) refl
    (two-counts c.sum-in-DoWhile.result c.helpers_in-in-DoWhile.result c.helpers_in-in-DoWhile-2.result ((helpers_in (exp_tree c.deref-in-DoWhile.result.now)) + (helpers_in (exp_tree c.deref-in-DoWhile-2.result.now))) (helpers_in (exp_tree c.deref-in-DoWhile.result.now)) (helpers_in (exp_tree c.deref-in-DoWhile-2.result.now)) refl c.helpers_in-in-DoWhile.ensures c.helpers_in-in-DoWhile-2.ensures c.sum-in-DoWhile.ensures) c.with_own-in-DoWhile.ensures

pub helpers_in_all-loop-exp-preserved : goal.helpers_in_all-loop-exp-preserved
helpers_in_all-loop-exp-preserved t c =
    all-more c.args.exps.now c.loop-exp.exp-index c.exp-item.result c.loop-exp.count c.in_ok-more.more c.in_ok-count.count c.loop-exp-test.true c.exp-item.is c.in_ok-more.ensures c.in_ok-count.ensures c.loop-exp.invariant

pub helpers_in_all-returns : goal.helpers_in_all-returns
helpers_in_all-returns t c = all-end c.args.exps.now c.loop-exp.exp-index c.loop-exp.count c.loop-exp-test.false c.loop-exp.invariant

pub helpers_in_branches-loop-branch-preserved : goal.helpers_in_branches-loop-branch-preserved
helpers_in_branches-loop-branch-preserved t c =
    branches-more c.args.branches.now c.loop-branch.branch-index c.branch-item.result c.loop-branch.count c.in_ok-test.test c.in_ok-body.body c.in_ok-both.both c.in_ok-count.count c.loop-branch-test.true c.branch-item.is
    c.in_ok-test.ensures c.in_ok-body.ensures c.in_ok-both.ensures c.in_ok-count.ensures c.loop-branch.invariant

pub helpers_in_branches-returns : goal.helpers_in_branches-returns
helpers_in_branches-returns t c = branches-end c.args.branches.now c.loop-branch.branch-index c.loop-branch.count c.loop-branch-test.false c.loop-branch.invariant

pub helpers_in_units-loop-unit-preserved : goal.helpers_in_units-loop-unit-preserved
helpers_in_units-loop-unit-preserved t c =
    units-more c.args.units.now c.loop-unit.unit-index c.unit-item.result c.loop-unit.count c.in_ok-inner.inner c.iterator_helpers.result c.in_ok-all.all c.in_ok-count.count c.loop-unit-test.true c.unit-item.is
    c.in_ok-inner.ensures c.iterator_helpers.ensures c.in_ok-all.ensures c.in_ok-count.ensures c.loop-unit.invariant

pub helpers_in_units-returns : goal.helpers_in_units-returns
helpers_in_units-returns t c = units-end c.args.units.now c.loop-unit.unit-index c.loop-unit.count c.loop-unit-test.false c.loop-unit.invariant
