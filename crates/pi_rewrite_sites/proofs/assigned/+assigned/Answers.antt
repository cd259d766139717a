-- Each kind of goal by its lemma.
use Rattle.std.proofs.Common.{◌++◌, refl, sym, ◌∙◌, ap}
use Rattle.std.proofs.lemmas.Result.{IfOk-weaker}
use Rattle.pi_syntax.specs.ExpTree.{call, exp_tree}
use Rattle.pi_syntax.specs.ExpLists.{exps_of}
use Rattle.pi_meaning.specs.OverNames.Texts.{assigned, assigned_all, assigned_in_branches, without, patterns_of}
use Rattle.pi_rewrite_slots.specs.Branches.{branches_in}
use Rattle.pi_rewrite_slots.specs.Indexed.{names_in}
use Rattle.pi_rewrite_sites.proofs.NowTrees.{call-now, and-now, or-now, arrow-now, if_then-now, if_else-now, foreach-now, while-now, do-now}
use Rattle.pi_rewrite_sites.proofs.NameLemmas.{put-first, put-both}
use Rattle.pi_rewrite_sites.proofs.AssignedLemmas.{all-more, all-end, branches-more, branches-end}
use Rattle.pi_rewrite_sites.proofs.assigned.+assigned.Goals as goal

pub push_assigned-returns-in-Call : goal.push_assigned-returns-in-Call
push_assigned-returns-in-Call t c =
    IfOk-weaker c.push_first.result _ _ (λ _ so. put-first (names_in c.args.names.now.items) (names_in c.push_first.new.names.items) (assigned (exp_tree c.args.exp.now)) (assigned (call c.as_str.result.now (exps_of c.as_slice.result.now)))
    (ap assigned (call-now c.args.exp.now c.in-Call.name c.in-Call.args c.as_slice.result.now c.in-Call.is c.as_slice.ensures.value ∙ ap (λ n. call n (exps_of c.as_slice.result.now)) (sym c.as_str.ensures))) so) c.push_first.ensures

pub push_assigned-returns-in-And : goal.push_assigned-returns-in-And
unfolding assigned
push_assigned-returns-in-And t c =
    IfOk-weaker c.push_assigned_in_all.result _ _ (λ _ so. put-first (names_in c.args.names.now.items) (names_in c.push_assigned_in_all.new.names.items) (assigned (exp_tree c.args.exp.now)) (assigned_all (exps_of c.as_slice-in-And.result.now)) (ap assigned (and-now c.args.exp.now c.in-And.parts c.as_slice-in-And.result.now c.in-And.is c.as_slice-in-And.ensures.value)) so) c.push_assigned_in_all.ensures

pub push_assigned-returns-in-Or : goal.push_assigned-returns-in-Or
unfolding assigned
push_assigned-returns-in-Or t c =
    IfOk-weaker c.push_assigned_in_all-in-Or.result _ _ (λ _ so. put-first (names_in c.args.names.now.items) (names_in c.push_assigned_in_all-in-Or.new.names.items) (assigned (exp_tree c.args.exp.now)) (assigned_all (exps_of c.as_slice-in-Or.result.now)) (ap assigned (or-now c.args.exp.now c.in-Or.parts c.as_slice-in-Or.result.now c.in-Or.is c.as_slice-in-Or.ensures.value)) so) c.push_assigned_in_all-in-Or.ensures

pub push_assigned-returns-in_ok-push_assigned_in_branches-in-Some : goal.push_assigned-returns-in_ok-push_assigned_in_branches-in-Some
unfolding assigned
push_assigned-returns-in_ok-push_assigned_in_branches-in-Some t c =
    IfOk-weaker c.push_assigned-in-Some.result _ _ (λ _ so. put-both (names_in c.args.names.now.items) (names_in c.push_assigned_in_branches.new.names.items) (names_in c.push_assigned-in-Some.new.names.items) (assigned (exp_tree c.args.exp.now)) (assigned_in_branches (branches_in c.as_slice-in-Some.result.now)) (assigned (exp_tree c.deref-in-Some.result.now)) (ap assigned (if_else-now c.args.exp.now c.in-If.branches c.in-If.other c.in-Some.other c.as_slice-in-Some.result.now c.deref-in-Some.result.now c.in-If.is c.in-Some.is c.as_slice-in-Some.ensures.value c.deref-in-Some.ensures)) c.in_ok-push_assigned_in_branches-in-Some.ensures so) c.push_assigned-in-Some.ensures

pub push_assigned-returns-in-None : goal.push_assigned-returns-in-None
unfolding assigned
push_assigned-returns-in-None t c =
    IfOk-weaker c.push_assigned_in_branches-in-None.result _ _ (λ _ so. put-first (names_in c.args.names.now.items) (names_in c.push_assigned_in_branches-in-None.new.names.items) (assigned (exp_tree c.args.exp.now)) (assigned_in_branches (branches_in c.as_slice-in-None.result.now)) (ap assigned (if_then-now c.args.exp.now c.in-If.branches c.in-If.other c.as_slice-in-None.result.now c.in-If.is c.in-None.is c.as_slice-in-None.ensures.value)) so) c.push_assigned_in_branches-in-None.ensures

pub push_assigned-returns-in_ok-push_assigned-in-Foreach : goal.push_assigned-returns-in_ok-push_assigned-in-Foreach
unfolding assigned
push_assigned-returns-in_ok-push_assigned-in-Foreach t c =
    IfOk-weaker c.push_outer.result _ _ (λ _ so. put-first (names_in c.args.names.now.items) (names_in c.push_outer.new.names.items) (assigned (exp_tree c.args.exp.now)) (without (names_in c.as_slice-in-Foreach-2.result.now) (patterns_of (exps_of c.as_slice-in-Foreach.result.now)))
    (ap assigned (foreach-now c.args.exp.now c.in-Foreach.units c.in-Foreach.body c.as_slice-in-Foreach.result.now c.deref-in-Foreach.result.now c.in-Foreach.is c.as_slice-in-Foreach.ensures.value c.deref-in-Foreach.ensures)
    ∙ ap (λ ns. without ns (patterns_of (exps_of c.as_slice-in-Foreach.result.now))) (sym (ap names_in c.as_slice-in-Foreach-2.ensures.value ∙ (c.in_ok-push_assigned-in-Foreach.ensures ∙ ap (λ ns. ns ++ assigned (exp_tree c.deref-in-Foreach.result.now)) (ap names_in c.new-inner.ensures.items))))) so) c.push_outer.ensures

pub push_assigned-returns-in-Arrow : goal.push_assigned-returns-in-Arrow
unfolding assigned
push_assigned-returns-in-Arrow t c =
    IfOk-weaker c.push_assigned.result _ _ (λ _ so. put-first (names_in c.args.names.now.items) (names_in c.push_assigned.new.names.items) (assigned (exp_tree c.args.exp.now)) (assigned (exp_tree c.deref.result.now)) (ap assigned (arrow-now c.args.exp.now c.in-Arrow.field-0 c.in-Arrow.body c.in-Arrow.field-0.value c.deref.result.now c.in-Arrow.is refl c.deref.ensures)) so) c.push_assigned.ensures

pub push_assigned-returns-in-While : goal.push_assigned-returns-in-While
unfolding assigned
push_assigned-returns-in-While t c =
    IfOk-weaker c.push_assigned-in-While.result _ _ (λ _ so. put-first (names_in c.args.names.now.items) (names_in c.push_assigned-in-While.new.names.items) (assigned (exp_tree c.args.exp.now)) (assigned (exp_tree c.deref-in-While.result.now)) (ap assigned (while-now c.args.exp.now c.in-While.field-0 c.in-While.body c.in-While.field-0.value c.deref-in-While.result.now c.in-While.is refl c.deref-in-While.ensures)) so) c.push_assigned-in-While.ensures

pub push_assigned-returns-in-DoWhile : goal.push_assigned-returns-in-DoWhile
unfolding assigned
push_assigned-returns-in-DoWhile t c =
    IfOk-weaker c.push_assigned-in-DoWhile.result _ _ (λ _ so. put-first (names_in c.args.names.now.items) (names_in c.push_assigned-in-DoWhile.new.names.items) (assigned (exp_tree c.args.exp.now)) (assigned (exp_tree c.deref-in-DoWhile.result.now)) (ap assigned (do-now c.args.exp.now c.in-DoWhile.body c.in-DoWhile.field-1 c.deref-in-DoWhile.result.now c.in-DoWhile.field-1.value c.in-DoWhile.is c.deref-in-DoWhile.ensures refl)) so) c.push_assigned-in-DoWhile.ensures

pub push_assigned_in_all-loop-exp-preserved : goal.push_assigned_in_all-loop-exp-preserved
push_assigned_in_all-loop-exp-preserved t c =
    all-more (names_in c.args.names.now.items) c.args.exps.now c.loop-exp.exp-index c.exp-item.result (names_in c.loop-exp.names.items) (names_in c.push_assigned.new.names.items) c.loop-exp-test.true c.exp-item.is c.in_ok-push_assigned.ensures c.loop-exp.invariant

pub push_assigned_in_all-returns : goal.push_assigned_in_all-returns
push_assigned_in_all-returns t c = all-end (names_in c.args.names.now.items) c.args.exps.now c.loop-exp.exp-index (names_in c.loop-exp.names.items) c.loop-exp-test.false c.loop-exp.invariant

pub push_assigned_in_branches-loop-branch-preserved : goal.push_assigned_in_branches-loop-branch-preserved
push_assigned_in_branches-loop-branch-preserved t c =
    branches-more (names_in c.args.names.now.items) c.args.branches.now c.loop-branch.branch-index c.branch-item.result (names_in c.loop-branch.names.items) (names_in c.push_assigned.new.names.items) c.loop-branch-test.true c.branch-item.is c.in_ok-push_assigned.ensures c.loop-branch.invariant

pub push_assigned_in_branches-returns : goal.push_assigned_in_branches-returns
push_assigned_in_branches-returns t c = branches-end (names_in c.args.names.now.items) c.args.branches.now c.loop-branch.branch-index (names_in c.loop-branch.names.items) c.loop-branch-test.false c.loop-branch.invariant
