-- Each kind of expression by its lemma.
use Rattle.std.proofs.Common.{ℕ, List, [], ◌∷◌, ◌++◌, sym, ◌∙◌, ap}
use Rattle.std.proofs.lemmas.Result.{IfOk-weaker}
use Rattle.pi_syntax.specs.ExpTree.{exp_tree}
use Rattle.pi_syntax.specs.ExpLists.{exps_of}
use Rattle.pi_rewrite_slots.specs.Branches.{branches_in}
use Rattle.pi_rewrite_slots.specs.Indexed.{names_in}
use Rattle.pi_rewrite_slots.proofs.StepLemmas.{did}
use Rattle.pi_rewrite_sites.specs.TextNames.{names_of, names_of_all, names_of_branches}
use Rattle.pi_rewrite_sites.proofs.NowTrees.{list-now, onto-now, array-now, call-now, quote-now, index-now, range-now, range_by-now, at-now, collect-now, and-now, or-now, arrow-now, if_then-now, if_else-now, foreach-now, while-now, do-now}
use Rattle.pi_rewrite_sites.proofs.NameLemmas.{put-first, put-both, put-three}
use Rattle.pi_rewrite_sites.proofs.PlaceLemmas.{of-list, of-onto, of-array, of-call, of-quote, of-index, of-range, of-range_by, of-at, of-collect, of-and, of-or, of-arrow, of-if_then, of-if_else, of-foreach, of-while, of-do, all-more, all-end, branches-more, branches-end}
use Rattle.pi_rewrite_sites.proofs.places.+places.Goals as goal

pub push_names-returns-in-Some : goal.push_names-returns-in-Some
push_names-returns-in-Some t c =
    IfOk-weaker c.both.result _ _ (λ _ w. put-both (names_in c.args.names.now.items) (names_in c.push_names_of_all.new.names.items) (names_in c.push_names.new.names.items) (names_of c.args.in_loops (exp_tree c.args.exp.now)) (names_of_all c.args.in_loops (exps_of c.as_slice.result.now)) (names_of c.args.in_loops (exp_tree c.deref.result.now))
    (ap (names_of c.args.in_loops) (onto-now c.args.exp.now c.in-List.items c.in-List.tail c.in-Some.tail c.as_slice.result.now c.deref.result.now c.in-List.is c.in-Some.is c.as_slice.ensures.value c.deref.ensures) ∙ of-onto c.args.in_loops (exps_of c.as_slice.result.now) (exp_tree c.deref.result.now)) (did c.push_names_of_all.result _ w.0 c.push_names_of_all.ensures) (did c.push_names.result _ w.1 c.push_names.ensures)) c.both.ensures

pub push_names-returns-in-None : goal.push_names-returns-in-None
push_names-returns-in-None t c =
    IfOk-weaker c.push_names_of_all-in-None.result _ _ (λ _ so. put-first (names_in c.args.names.now.items) (names_in c.push_names_of_all-in-None.new.names.items) (names_of c.args.in_loops (exp_tree c.args.exp.now)) (names_of_all c.args.in_loops (exps_of c.as_slice-in-None.result.now)) (ap (names_of c.args.in_loops) (list-now c.args.exp.now c.in-List.items c.in-List.tail c.as_slice-in-None.result.now c.in-List.is c.in-None.is c.as_slice-in-None.ensures.value) ∙ of-list c.args.in_loops (exps_of c.as_slice-in-None.result.now)) so) c.push_names_of_all-in-None.ensures

pub push_names-returns-in-Array : goal.push_names-returns-in-Array
push_names-returns-in-Array t c =
    IfOk-weaker c.push_names_of_all-in-Array.result _ _ (λ _ so. put-first (names_in c.args.names.now.items) (names_in c.push_names_of_all-in-Array.new.names.items) (names_of c.args.in_loops (exp_tree c.args.exp.now)) (names_of_all c.args.in_loops (exps_of c.as_slice-in-Array.result.now)) (ap (names_of c.args.in_loops) (array-now c.args.exp.now c.in-Array.items c.as_slice-in-Array.result.now c.in-Array.is c.as_slice-in-Array.ensures.value) ∙ of-array c.args.in_loops (exps_of c.as_slice-in-Array.result.now)) so) c.push_names_of_all-in-Array.ensures

pub push_names-returns-in-Call : goal.push_names-returns-in-Call
push_names-returns-in-Call t c =
    IfOk-weaker c.push_names_of_all-in-Call.result _ _ (λ _ so. put-first (names_in c.args.names.now.items) (names_in c.push_names_of_all-in-Call.new.names.items) (names_of c.args.in_loops (exp_tree c.args.exp.now)) (names_of_all c.args.in_loops (exps_of c.as_slice-in-Call.result.now)) (ap (names_of c.args.in_loops) (call-now c.args.exp.now c.in-Call.field-0 c.in-Call.args c.as_slice-in-Call.result.now c.in-Call.is c.as_slice-in-Call.ensures.value) ∙ of-call c.args.in_loops c.in-Call.field-0 (exps_of c.as_slice-in-Call.result.now)) so) c.push_names_of_all-in-Call.ensures

pub push_names-returns-in-Index : goal.push_names-returns-in-Index
push_names-returns-in-Index t c =
    IfOk-weaker c.both-in-Index.result _ _ (λ _ w. put-both (names_in c.args.names.now.items) (names_in c.push_names-in-Index.new.names.items) (names_in c.push_names_of_all-in-Index.new.names.items) (names_of c.args.in_loops (exp_tree c.args.exp.now)) (names_of c.args.in_loops (exp_tree c.deref-in-Index.result.now)) (names_of_all c.args.in_loops (exps_of c.as_slice-in-Index.result.now))
    (ap (names_of c.args.in_loops) (index-now c.args.exp.now c.in-Index.of c.in-Index.places c.as_slice-in-Index.result.now c.deref-in-Index.result.now c.in-Index.is c.as_slice-in-Index.ensures.value c.deref-in-Index.ensures) ∙ of-index c.args.in_loops (exp_tree c.deref-in-Index.result.now) (exps_of c.as_slice-in-Index.result.now)) (did c.push_names-in-Index.result _ w.0 c.push_names-in-Index.ensures) (did c.push_names_of_all-in-Index.result _ w.1 c.push_names_of_all-in-Index.ensures)) c.both-in-Index.ensures

pub push_names-returns-else-not-in_loops : goal.push_names-returns-else-not-in_loops
push_names-returns-else-not-in_loops t c =
    IfOk-weaker c.both-in-Collect.result _ _ (λ _ w. put-both (names_in c.args.names.now.items) (names_in c.push_names_of_all-in-Collect.new.names.items) (names_in c.push_names-in-Collect.new.names.items) (names_of c.args.in_loops (exp_tree c.args.exp.now)) (names_of_all c.args.in_loops (exps_of c.as_slice-in-Collect.result.now)) (names_of c.args.in_loops (exp_tree c.deref-in-Collect.result.now))
    (ap (names_of c.args.in_loops) (collect-now c.args.exp.now c.in-Collect.field-0 c.in-Collect.item c.in-Collect.units c.as_slice-in-Collect.result.now c.deref-in-Collect.result.now c.in-Collect.is c.as_slice-in-Collect.ensures.value c.deref-in-Collect.ensures) ∙ of-collect c.args.in_loops c.in-Collect.field-0 (exp_tree c.deref-in-Collect.result.now) (exps_of c.as_slice-in-Collect.result.now) c.if-not-in_loops.false) (did c.push_names_of_all-in-Collect.result _ w.0 c.push_names_of_all-in-Collect.ensures) (did c.push_names-in-Collect.result _ w.1 c.push_names-in-Collect.ensures)) c.both-in-Collect.ensures

pub push_names-returns-in-And : goal.push_names-returns-in-And
push_names-returns-in-And t c =
    IfOk-weaker c.push_names_of_all-in-And.result _ _ (λ _ so. put-first (names_in c.args.names.now.items) (names_in c.push_names_of_all-in-And.new.names.items) (names_of c.args.in_loops (exp_tree c.args.exp.now)) (names_of_all c.args.in_loops (exps_of c.as_slice-in-And.result.now)) (ap (names_of c.args.in_loops) (and-now c.args.exp.now c.in-And.parts c.as_slice-in-And.result.now c.in-And.is c.as_slice-in-And.ensures.value) ∙ of-and c.args.in_loops (exps_of c.as_slice-in-And.result.now)) so) c.push_names_of_all-in-And.ensures

pub push_names-returns-in-Or : goal.push_names-returns-in-Or
push_names-returns-in-Or t c =
    IfOk-weaker c.push_names_of_all-in-Or.result _ _ (λ _ so. put-first (names_in c.args.names.now.items) (names_in c.push_names_of_all-in-Or.new.names.items) (names_of c.args.in_loops (exp_tree c.args.exp.now)) (names_of_all c.args.in_loops (exps_of c.as_slice-in-Or.result.now)) (ap (names_of c.args.in_loops) (or-now c.args.exp.now c.in-Or.parts c.as_slice-in-Or.result.now c.in-Or.is c.as_slice-in-Or.ensures.value) ∙ of-or c.args.in_loops (exps_of c.as_slice-in-Or.result.now)) so) c.push_names_of_all-in-Or.ensures

pub push_names-returns-in-Some-other : goal.push_names-returns-in-Some-other
push_names-returns-in-Some-other t c =
    IfOk-weaker c.both-in-Some-other.result _ _ (λ _ w. put-both (names_in c.args.names.now.items) (names_in c.push_names_of_branches.new.names.items) (names_in c.push_names-in-Some-other.new.names.items) (names_of c.args.in_loops (exp_tree c.args.exp.now)) (names_of_branches c.args.in_loops (branches_in c.as_slice-in-Some-other.result.now)) (names_of c.args.in_loops (exp_tree c.deref-in-Some-other.result.now))
    (ap (names_of c.args.in_loops) (if_else-now c.args.exp.now c.in-If.branches c.in-If.other c.in-Some-other.other c.as_slice-in-Some-other.result.now c.deref-in-Some-other.result.now c.in-If.is c.in-Some-other.is c.as_slice-in-Some-other.ensures.value c.deref-in-Some-other.ensures) ∙ of-if_else c.args.in_loops (branches_in c.as_slice-in-Some-other.result.now) (exp_tree c.deref-in-Some-other.result.now)) (did c.push_names_of_branches.result _ w.0 c.push_names_of_branches.ensures) (did c.push_names-in-Some-other.result _ w.1 c.push_names-in-Some-other.ensures)) c.both-in-Some-other.ensures

pub push_names-returns-in-None-other : goal.push_names-returns-in-None-other
push_names-returns-in-None-other t c =
    IfOk-weaker c.push_names_of_branches-in-None-other.result _ _ (λ _ so. put-first (names_in c.args.names.now.items) (names_in c.push_names_of_branches-in-None-other.new.names.items) (names_of c.args.in_loops (exp_tree c.args.exp.now)) (names_of_branches c.args.in_loops (branches_in c.as_slice-in-None-other.result.now)) (ap (names_of c.args.in_loops) (if_then-now c.args.exp.now c.in-If.branches c.in-If.other c.as_slice-in-None-other.result.now c.in-If.is c.in-None-other.is c.as_slice-in-None-other.ensures.value) ∙ of-if_then c.args.in_loops (branches_in c.as_slice-in-None-other.result.now)) so) c.push_names_of_branches-in-None-other.ensures

pub push_names-returns-else-not-in_loops-2 : goal.push_names-returns-else-not-in_loops-2
push_names-returns-else-not-in_loops-2 t c =
    IfOk-weaker c.both-in-Foreach.result _ _ (λ _ w. put-both (names_in c.args.names.now.items) (names_in c.push_names_of_all-in-Foreach.new.names.items) (names_in c.push_names-in-Foreach.new.names.items) (names_of c.args.in_loops (exp_tree c.args.exp.now)) (names_of_all c.args.in_loops (exps_of c.as_slice-in-Foreach.result.now)) (names_of c.args.in_loops (exp_tree c.deref-in-Foreach.result.now))
    (ap (names_of c.args.in_loops) (foreach-now c.args.exp.now c.in-Foreach.units c.in-Foreach.body c.as_slice-in-Foreach.result.now c.deref-in-Foreach.result.now c.in-Foreach.is c.as_slice-in-Foreach.ensures.value c.deref-in-Foreach.ensures) ∙ of-foreach c.args.in_loops (exps_of c.as_slice-in-Foreach.result.now) (exp_tree c.deref-in-Foreach.result.now) c.if-not-in_loops-2.false) (did c.push_names_of_all-in-Foreach.result _ w.0 c.push_names_of_all-in-Foreach.ensures) (did c.push_names-in-Foreach.result _ w.1 c.push_names-in-Foreach.ensures)) c.both-in-Foreach.ensures

pub push_names-returns-in-Quote : goal.push_names-returns-in-Quote
push_names-returns-in-Quote t c =
    IfOk-weaker c.push_names-in-Quote.result _ _ (λ _ so. put-first (names_in c.args.names.now.items) (names_in c.push_names-in-Quote.new.names.items) (names_of c.args.in_loops (exp_tree c.args.exp.now)) (names_of c.args.in_loops (exp_tree c.deref-in-Quote.result.now)) (ap (names_of c.args.in_loops) (quote-now c.args.exp.now c.in-Quote.inner c.deref-in-Quote.result.now c.in-Quote.is c.deref-in-Quote.ensures) ∙ of-quote c.args.in_loops (exp_tree c.deref-in-Quote.result.now)) so) c.push_names-in-Quote.ensures

pub push_names-returns-in-Some-step : goal.push_names-returns-in-Some-step
push_names-returns-in-Some-step t c =
    IfOk-weaker c.both-in-Some-step-2.result _ _ (λ _ w. let v = did c.both-in-Some-step.result _ w.1 c.both-in-Some-step.ensures in put-three (names_in c.args.names.now.items) (names_in c.push_names-in-Some-step.new.names.items) (names_in c.push_names-in-Some-step-2.new.names.items) (names_in c.push_names-in-Some-step-3.new.names.items) (names_of c.args.in_loops (exp_tree c.args.exp.now)) (names_of c.args.in_loops (exp_tree c.deref-in-Some-step.result.now)) (names_of c.args.in_loops (exp_tree c.deref-in-Some-step-2.result.now)) (names_of c.args.in_loops (exp_tree c.deref-in-Some-step-3.result.now)) (ap (names_of c.args.in_loops) (range_by-now c.args.exp.now c.in-Range.first c.in-Range.step c.in-Range.last c.in-Some-step.step c.deref-in-Some-step.result.now c.deref-in-Some-step-2.result.now c.deref-in-Some-step-3.result.now c.in-Range.is c.in-Some-step.is c.deref-in-Some-step.ensures c.deref-in-Some-step-2.ensures c.deref-in-Some-step-3.ensures) ∙ of-range_by c.args.in_loops (exp_tree c.deref-in-Some-step.result.now) (exp_tree c.deref-in-Some-step-2.result.now) (exp_tree c.deref-in-Some-step-3.result.now)) (did c.push_names-in-Some-step.result _ w.0 c.push_names-in-Some-step.ensures) (did c.push_names-in-Some-step-2.result _ v.0 c.push_names-in-Some-step-2.ensures) (did c.push_names-in-Some-step-3.result _ v.1 c.push_names-in-Some-step-3.ensures)) c.both-in-Some-step-2.ensures

pub push_names-returns-in-None-step : goal.push_names-returns-in-None-step
push_names-returns-in-None-step t c =
    IfOk-weaker c.both-in-None-step.result _ _ (λ _ w. put-both (names_in c.args.names.now.items) (names_in c.push_names-in-None-step.new.names.items) (names_in c.push_names-in-None-step-2.new.names.items) (names_of c.args.in_loops (exp_tree c.args.exp.now)) (names_of c.args.in_loops (exp_tree c.deref-in-None-step.result.now)) (names_of c.args.in_loops (exp_tree c.deref-in-None-step-2.result.now)) (ap (names_of c.args.in_loops) (range-now c.args.exp.now c.in-Range.first c.in-Range.step c.in-Range.last c.deref-in-None-step.result.now c.deref-in-None-step-2.result.now c.in-Range.is c.in-None-step.is c.deref-in-None-step.ensures c.deref-in-None-step-2.ensures) ∙ of-range c.args.in_loops (exp_tree c.deref-in-None-step.result.now) (exp_tree c.deref-in-None-step-2.result.now)) (did c.push_names-in-None-step.result _ w.0 c.push_names-in-None-step.ensures) (did c.push_names-in-None-step-2.result _ w.1 c.push_names-in-None-step-2.ensures)) c.both-in-None-step.ensures

pub push_names-returns-in-Arrow : goal.push_names-returns-in-Arrow
push_names-returns-in-Arrow t c =
    IfOk-weaker c.both-in-Arrow.result _ _ (λ _ w. put-both (names_in c.args.names.now.items) (names_in c.push_names-in-Arrow.new.names.items) (names_in c.push_names-in-Arrow-2.new.names.items) (names_of c.args.in_loops (exp_tree c.args.exp.now)) (names_of c.args.in_loops (exp_tree c.deref-in-Arrow.result.now)) (names_of c.args.in_loops (exp_tree c.deref-in-Arrow-2.result.now)) (ap (names_of c.args.in_loops) (arrow-now c.args.exp.now c.in-Arrow.test c.in-Arrow.body c.deref-in-Arrow.result.now c.deref-in-Arrow-2.result.now c.in-Arrow.is c.deref-in-Arrow.ensures c.deref-in-Arrow-2.ensures) ∙ of-arrow c.args.in_loops (exp_tree c.deref-in-Arrow.result.now) (exp_tree c.deref-in-Arrow-2.result.now)) (did c.push_names-in-Arrow.result _ w.0 c.push_names-in-Arrow.ensures) (did c.push_names-in-Arrow-2.result _ w.1 c.push_names-in-Arrow-2.ensures)) c.both-in-Arrow.ensures

pub push_names-returns-else-not-in_loops-3 : goal.push_names-returns-else-not-in_loops-3
push_names-returns-else-not-in_loops-3 t c =
    IfOk-weaker c.both-in-While.result _ _ (λ _ w. put-both (names_in c.args.names.now.items) (names_in c.push_names-in-While.new.names.items) (names_in c.push_names-in-While-2.new.names.items) (names_of c.args.in_loops (exp_tree c.args.exp.now)) (names_of c.args.in_loops (exp_tree c.deref-in-While.result.now)) (names_of c.args.in_loops (exp_tree c.deref-in-While-2.result.now)) (ap (names_of c.args.in_loops) (while-now c.args.exp.now c.in-While.test c.in-While.body c.deref-in-While.result.now c.deref-in-While-2.result.now c.in-While.is c.deref-in-While.ensures c.deref-in-While-2.ensures) ∙ of-while c.args.in_loops (exp_tree c.deref-in-While.result.now) (exp_tree c.deref-in-While-2.result.now) c.if-not-in_loops-3.false) (did c.push_names-in-While.result _ w.0 c.push_names-in-While.ensures) (did c.push_names-in-While-2.result _ w.1 c.push_names-in-While-2.ensures)) c.both-in-While.ensures

pub push_names-returns-else-not-in_loops-4 : goal.push_names-returns-else-not-in_loops-4
push_names-returns-else-not-in_loops-4 t c =
    IfOk-weaker c.both-in-DoWhile.result _ _ (λ _ w. put-both (names_in c.args.names.now.items) (names_in c.push_names-in-DoWhile.new.names.items) (names_in c.push_names-in-DoWhile-2.new.names.items) (names_of c.args.in_loops (exp_tree c.args.exp.now)) (names_of c.args.in_loops (exp_tree c.deref-in-DoWhile.result.now)) (names_of c.args.in_loops (exp_tree c.deref-in-DoWhile-2.result.now)) (ap (names_of c.args.in_loops) (do-now c.args.exp.now c.in-DoWhile.body c.in-DoWhile.test c.deref-in-DoWhile.result.now c.deref-in-DoWhile-2.result.now c.in-DoWhile.is c.deref-in-DoWhile.ensures c.deref-in-DoWhile-2.ensures) ∙ of-do c.args.in_loops (exp_tree c.deref-in-DoWhile.result.now) (exp_tree c.deref-in-DoWhile-2.result.now) c.if-not-in_loops-4.false) (did c.push_names-in-DoWhile.result _ w.0 c.push_names-in-DoWhile.ensures) (did c.push_names-in-DoWhile-2.result _ w.1 c.push_names-in-DoWhile-2.ensures)) c.both-in-DoWhile.ensures

pub push_names-returns-in-At : goal.push_names-returns-in-At
push_names-returns-in-At t c =
    IfOk-weaker c.both-in-At.result _ _ (λ _ w. put-both (names_in c.args.names.now.items) (names_in c.push_name-in-At.new.names.items) (names_in c.push_names-in-At.new.names.items) (names_of c.args.in_loops (exp_tree c.args.exp.now)) (c.as_str-in-At.result.now ∷ []) (names_of c.args.in_loops (exp_tree c.deref-in-At.result.now))
    (ap (names_of c.args.in_loops) (at-now c.args.exp.now c.in-At.name c.in-At.part c.deref-in-At.result.now c.in-At.is c.deref-in-At.ensures) ∙ (of-at c.args.in_loops c.in-At.name (exp_tree c.deref-in-At.result.now) ∙ ap (λ (n : List ℕ). (n ∷ []) ++ names_of c.args.in_loops (exp_tree c.deref-in-At.result.now)) (sym c.as_str-in-At.ensures)))
    (did c.push_name-in-At.result _ w.0 c.push_name-in-At.ensures) (did c.push_names-in-At.result _ w.1 c.push_names-in-At.ensures)) c.both-in-At.ensures

pub push_names_of_all-loop-exp-preserved : goal.push_names_of_all-loop-exp-preserved
push_names_of_all-loop-exp-preserved t c =
    all-more c.args.in_loops (names_in c.args.names.now.items) c.args.exps.now c.loop-exp.exp-index c.exp-item.result (names_in c.loop-exp.names.items) (names_in c.push_names.new.names.items) c.loop-exp-test.true c.exp-item.is c.in_ok-push_names.ensures c.loop-exp.invariant

pub push_names_of_all-returns : goal.push_names_of_all-returns
push_names_of_all-returns t c = all-end c.args.in_loops (names_in c.args.names.now.items) c.args.exps.now c.loop-exp.exp-index (names_in c.loop-exp.names.items) c.loop-exp-test.false c.loop-exp.invariant

pub push_names_of_branches-loop-branch-preserved : goal.push_names_of_branches-loop-branch-preserved
push_names_of_branches-loop-branch-preserved t c =
    branches-more c.args.in_loops (names_in c.args.names.now.items) c.args.branches.now c.loop-branch.branch-index c.branch-item.result (names_in c.loop-branch.names.items) (names_in c.push_names.new.names.items) (names_in c.push_names-in-loop-branch.new.names.items)
    c.loop-branch-test.true c.branch-item.is c.in_ok-push_names.ensures c.in_ok-push_names-2.ensures c.loop-branch.invariant

pub push_names_of_branches-returns : goal.push_names_of_branches-returns
push_names_of_branches-returns t c = branches-end c.args.in_loops (names_in c.args.names.now.items) c.args.branches.now c.loop-branch.branch-index (names_in c.loop-branch.names.items) c.loop-branch-test.false c.loop-branch.invariant
