use Rattle.std.proofs.Common.{false, ◌==◌, ◌&&◌, length, refl, sym, ap, ◌∙◌, arith}
use Rattle.pi_syntax.specs.ExpTree.{list, list_onto, array, call, index, range, range_by, collect, and, or, if_then, if_else, foreach, while_do, do_while}
use Rattle.pi_syntax.specs.ExpLists.{exps_of}
use Rattle.pi_rewrite_slots.specs.Branches.{branches_in}
use Rattle.pi_rewrite_slots.proofs.ExpTrees.{list-is, list_onto-is, array-is, call-is, index-is, range-is, range_by-is, and-is, or-is, if_then-is, if_else-is}
use Rattle.pi_rewrite_sound.specs.Built.{is_built_value, are_built_values, is_built_value_at, are_some, is_built_goal, is_built_goal_at, are_built_goals, is_built_branch, are_built_branches, have_built_goals, is_built_collection, are_built_units}
use Rattle.pi_rewrite_sound.specs.declared.forms.Form.{Form}
use Rattle.pi_rewrite_sound.proofs.EachLemmas.{is_built_loop_unit, each-value, each-goal, each-branch, each-unit, each-pair, goes-on, stops, ends, condition-stops, body-stops, pair-goes-on, both}
use Rattle.pi_rewrite_sound.proofs.NodeLemmas.{of-list, of-list-and, of-and-list, of-call, of-two, of-three}
use Rattle.pi_rewrite_sound.proofs.UnitLemmas.{unit_called, iterator-built, test-built}
use Rattle.pi_rewrite_sound.proofs.LoopTrees.{collect-is, foreach-is, while-is, do_while-is}
use Rattle.pi_rewrite_sound.proofs.BuiltCallLemmas.{value_called, goal_called, value-counted, goal-of, goal-assigns, goal-of-none, finds, counts, applies, at-value, at-goal, there, past}
use Rattle.pi_rewrite_sound.proofs.goals.+goal.Goals as goal

pub is_built_value-returns-in-Some : goal.is_built_value-returns-in-Some
unfolding is_built_value
is_built_value-returns-in-Some t c =
    of-list-and exps_of is_built_value are_built_values is_built_value list_onto (λ ts u. refl) c.args.exp.now c.in-Some.tail.value c.deref.result.now c.in-List.items.items c.as_slice.result.now c.are_built_values.result c.is_built_value.result
    (list_onto-is c.args.exp.now c.in-List.items c.in-List.tail c.in-Some.tail c.in-List.is c.in-Some.is) c.as_slice.ensures.value c.deref.ensures c.are_built_values.ensures c.is_built_value.ensures

pub is_built_value-returns-in-None : goal.is_built_value-returns-in-None
unfolding is_built_value
is_built_value-returns-in-None t c =
    of-list exps_of is_built_value are_built_values list (λ ts. refl) c.args.exp.now c.in-List.items.items c.as_slice-in-None.result.now c.are_built_values-in-None.result
    (list-is c.args.exp.now c.in-List.items c.in-List.tail c.in-List.is c.in-None.is) c.as_slice-in-None.ensures.value c.are_built_values-in-None.ensures

pub is_built_value-returns-in-Array : goal.is_built_value-returns-in-Array
unfolding is_built_value
is_built_value-returns-in-Array t c =
    of-list exps_of is_built_value are_built_values array (λ ts. refl) c.args.exp.now c.in-Array.items.items c.as_slice-in-Array.result.now c.are_built_values-in-Array.result
    (array-is c.args.exp.now c.in-Array.items c.in-Array.is) c.as_slice-in-Array.ensures.value c.are_built_values-in-Array.ensures

pub is_built_value-returns-in-Call : goal.is_built_value-returns-in-Call
unfolding is_built_value
is_built_value-returns-in-Call t c =
    of-call is_built_value value_called call (λ n ts. refl) c.args.exp.now c.in-Call.name c.as_str.result.now c.in-Call.args.items c.as_slice-in-Call.result.now c.is_built_value_call.result
    (call-is c.args.exp.now c.in-Call.name c.in-Call.args c.in-Call.is) c.as_str.ensures c.as_slice-in-Call.ensures.value c.is_built_value_call.ensures

pub is_built_value-returns-in-Index : goal.is_built_value-returns-in-Index
unfolding is_built_value
is_built_value-returns-in-Index t c =
    of-and-list is_built_value is_built_value are_built_values are_some index (λ u ts. refl) c.args.exp.now c.in-Index.of.value c.deref-in-Index.result.now c.in-Index.places.items c.as_slice-in-Index.result.now c.as_slice-in-Index-2.result.now c.is_built_value-in-Index.result c.are_built_values-in-Index.result c.are_some.result
    (index-is c.args.exp.now c.in-Index.of c.in-Index.places c.in-Index.is) c.deref-in-Index.ensures c.as_slice-in-Index.ensures.value c.as_slice-in-Index-2.ensures.value c.is_built_value-in-Index.ensures c.are_built_values-in-Index.ensures c.are_some.ensures

pub is_built_value-returns-in-Some-step : goal.is_built_value-returns-in-Some-step
unfolding is_built_value
is_built_value-returns-in-Some-step t c =
    of-three is_built_value is_built_value range_by (λ u v w. refl) c.args.exp.now c.in-Range.first.value c.in-Some-step.step.value c.in-Range.last.value c.deref-in-Some-step.result.now c.deref-in-Some-step-2.result.now c.deref-in-Some-step-3.result.now c.is_built_value-in-Some-step.result c.is_built_value-in-Some-step-2.result c.is_built_value-in-Some-step-3.result
    (range_by-is c.args.exp.now c.in-Range.first c.in-Range.step c.in-Range.last c.in-Some-step.step c.in-Range.is c.in-Some-step.is) c.deref-in-Some-step.ensures c.deref-in-Some-step-2.ensures c.deref-in-Some-step-3.ensures c.is_built_value-in-Some-step.ensures c.is_built_value-in-Some-step-2.ensures c.is_built_value-in-Some-step-3.ensures

pub is_built_value-returns-in-None-step : goal.is_built_value-returns-in-None-step
unfolding is_built_value
is_built_value-returns-in-None-step t c =
    of-two is_built_value is_built_value range (λ u v. refl) c.args.exp.now c.in-Range.first.value c.in-Range.last.value c.deref-in-None-step.result.now c.deref-in-None-step-2.result.now c.is_built_value-in-None-step.result c.is_built_value-in-None-step-2.result
    (range-is c.args.exp.now c.in-Range.first c.in-Range.step c.in-Range.last c.in-Range.is c.in-None-step.is) c.deref-in-None-step.ensures c.deref-in-None-step-2.ensures c.is_built_value-in-None-step.ensures c.is_built_value-in-None-step-2.ensures

pub is_built_goal-returns-in-Call : goal.is_built_goal-returns-in-Call
unfolding is_built_goal
is_built_goal-returns-in-Call t c =
    of-call is_built_goal goal_called call (λ n ts. refl) c.args.exp.now c.in-Call.name c.as_str-in-Call.result.now c.in-Call.args.items c.as_slice.result.now c.is_built_call.result
    (call-is c.args.exp.now c.in-Call.name c.in-Call.args c.in-Call.is) c.as_str-in-Call.ensures c.as_slice.ensures.value c.is_built_call.ensures

pub is_built_goal-returns-in-And : goal.is_built_goal-returns-in-And
unfolding is_built_goal
is_built_goal-returns-in-And t c =
    of-list exps_of is_built_goal are_built_goals and (λ ts. refl) c.args.exp.now c.in-And.goals.items c.as_slice-in-And.result.now c.are_built_goals.result
    (and-is c.args.exp.now c.in-And.goals c.in-And.is) c.as_slice-in-And.ensures.value c.are_built_goals.ensures

pub is_built_goal-returns-in-Or : goal.is_built_goal-returns-in-Or
unfolding is_built_goal
is_built_goal-returns-in-Or t c =
    of-list exps_of is_built_goal are_built_branches or (λ ts. refl) c.args.exp.now c.in-Or.branches.items c.as_slice-in-Or.result.now c.are_built_branches.result
    (or-is c.args.exp.now c.in-Or.branches c.in-Or.is) c.as_slice-in-Or.ensures.value c.are_built_branches.ensures

pub is_built_goal-returns-in-Some : goal.is_built_goal-returns-in-Some
unfolding is_built_goal
is_built_goal-returns-in-Some t c =
    of-list-and branches_in is_built_goal have_built_goals is_built_goal if_else (λ ts u. refl) c.args.exp.now c.in-Some.last.value c.deref.result.now c.in-If.branches.items c.as_slice-in-Some.result.now c.have_built_goals.result c.is_built_goal.result
    (if_else-is c.args.exp.now c.in-If.branches c.in-If.last c.in-Some.last c.in-If.is c.in-Some.is) c.as_slice-in-Some.ensures.value c.deref.ensures c.have_built_goals.ensures c.is_built_goal.ensures

pub is_built_goal-returns-in-None : goal.is_built_goal-returns-in-None
unfolding is_built_goal
is_built_goal-returns-in-None t c =
    of-list branches_in is_built_goal have_built_goals if_then (λ ts. refl) c.args.exp.now c.in-If.branches.items c.as_slice-in-None.result.now c.have_built_goals-in-None.result
    (if_then-is c.args.exp.now c.in-If.branches c.in-If.last c.in-If.is c.in-None.is) c.as_slice-in-None.ensures.value c.have_built_goals-in-None.ensures

pub is_built_branch-returns-in-Call : goal.is_built_branch-returns-in-Call
unfolding is_built_branch
is_built_branch-returns-in-Call t c =
    of-call is_built_branch goal_called call (λ n ts. refl) c.args.exp.now c.in-Call.name c.as_str-in-Call.result.now c.in-Call.args.items c.as_slice.result.now c.is_built_call.result
    (call-is c.args.exp.now c.in-Call.name c.in-Call.args c.in-Call.is) c.as_str-in-Call.ensures c.as_slice.ensures.value c.is_built_call.ensures

pub is_built_branch-returns-in-And : goal.is_built_branch-returns-in-And
unfolding is_built_branch
is_built_branch-returns-in-And t c =
    of-list exps_of is_built_branch are_built_goals and (λ ts. refl) c.args.exp.now c.in-And.goals.items c.as_slice-in-And.result.now c.are_built_goals.result
    (and-is c.args.exp.now c.in-And.goals c.in-And.is) c.as_slice-in-And.ensures.value c.are_built_goals.ensures

pub is_built_branch-returns-in-Or : goal.is_built_branch-returns-in-Or
unfolding is_built_branch
is_built_branch-returns-in-Or t c =
    of-list exps_of is_built_branch are_built_branches or (λ ts. refl) c.args.exp.now c.in-Or.branches.items c.as_slice-in-Or.result.now c.are_built_branches.result
    (or-is c.args.exp.now c.in-Or.branches c.in-Or.is) c.as_slice-in-Or.ensures.value c.are_built_branches.ensures

pub is_built_branch-returns-in-Some : goal.is_built_branch-returns-in-Some
unfolding is_built_branch
is_built_branch-returns-in-Some t c =
    of-list-and branches_in is_built_branch have_built_goals is_built_goal if_else (λ ts u. refl) c.args.exp.now c.in-Some.last.value c.deref-in-Some.result.now c.in-If.branches.items c.as_slice-in-Some.result.now c.have_built_goals.result c.is_built_goal-in-Some.result
    (if_else-is c.args.exp.now c.in-If.branches c.in-If.last c.in-Some.last c.in-If.is c.in-Some.is) c.as_slice-in-Some.ensures.value c.deref-in-Some.ensures c.have_built_goals.ensures c.is_built_goal-in-Some.ensures

pub is_built_branch-returns-in-None : goal.is_built_branch-returns-in-None
unfolding is_built_branch
is_built_branch-returns-in-None t c =
    of-list branches_in is_built_branch have_built_goals if_then (λ ts. refl) c.args.exp.now c.in-If.branches.items c.as_slice-in-None.result.now c.have_built_goals-in-None.result
    (if_then-is c.args.exp.now c.in-If.branches c.in-If.last c.in-If.is c.in-None.is) c.as_slice-in-None.ensures.value c.have_built_goals-in-None.ensures

pub are_built_values-returns-then-not-is_built_value : goal.are_built_values-returns-then-not-is_built_value
are_built_values-returns-then-not-is_built_value t c = stops each-value c.args.exps.now c.loop-exp.exp-index c.exp-item.result c.is_built_value.result c.loop-exp-test.true c.exp-item.is c.is_built_value.ensures c.if-not-is_built_value.true c.loop-exp.invariant

pub are_built_values-loop-exp-preserved : goal.are_built_values-loop-exp-preserved
are_built_values-loop-exp-preserved t c = goes-on each-value c.args.exps.now c.loop-exp.exp-index c.exp-item.result c.is_built_value.result c.loop-exp-test.true c.exp-item.is c.is_built_value.ensures c.if-not-is_built_value.false c.loop-exp.invariant

pub are_built_values-returns : goal.are_built_values-returns
are_built_values-returns t c = ends each-value c.args.exps.now c.loop-exp.exp-index c.loop-exp-test.false c.loop-exp.invariant

pub are_built_goals-returns-then-not-is_built_goal : goal.are_built_goals-returns-then-not-is_built_goal
are_built_goals-returns-then-not-is_built_goal t c = stops each-goal c.args.exps.now c.loop-exp.exp-index c.exp-item.result c.is_built_goal.result c.loop-exp-test.true c.exp-item.is c.is_built_goal.ensures c.if-not-is_built_goal.true c.loop-exp.invariant

pub are_built_goals-loop-exp-preserved : goal.are_built_goals-loop-exp-preserved
are_built_goals-loop-exp-preserved t c = goes-on each-goal c.args.exps.now c.loop-exp.exp-index c.exp-item.result c.is_built_goal.result c.loop-exp-test.true c.exp-item.is c.is_built_goal.ensures c.if-not-is_built_goal.false c.loop-exp.invariant

pub are_built_goals-returns : goal.are_built_goals-returns
are_built_goals-returns t c = ends each-goal c.args.exps.now c.loop-exp.exp-index c.loop-exp-test.false c.loop-exp.invariant

pub are_built_branches-returns-then-not-is_built_branch : goal.are_built_branches-returns-then-not-is_built_branch
are_built_branches-returns-then-not-is_built_branch t c = stops each-branch c.args.exps.now c.loop-exp.exp-index c.exp-item.result c.is_built_branch.result c.loop-exp-test.true c.exp-item.is c.is_built_branch.ensures c.if-not-is_built_branch.true c.loop-exp.invariant

pub are_built_branches-loop-exp-preserved : goal.are_built_branches-loop-exp-preserved
are_built_branches-loop-exp-preserved t c = goes-on each-branch c.args.exps.now c.loop-exp.exp-index c.exp-item.result c.is_built_branch.result c.loop-exp-test.true c.exp-item.is c.is_built_branch.ensures c.if-not-is_built_branch.false c.loop-exp.invariant

pub are_built_branches-returns : goal.are_built_branches-returns
are_built_branches-returns t c = ends each-branch c.args.exps.now c.loop-exp.exp-index c.loop-exp-test.false c.loop-exp.invariant

pub have_built_goals-returns-then-not-is_built_goal : goal.have_built_goals-returns-then-not-is_built_goal
have_built_goals-returns-then-not-is_built_goal t c =
    condition-stops c.args.branches.now c.loop-branch.branch-index c.branch-item.result c.is_built_goal.result c.loop-branch-test.true c.branch-item.is c.is_built_goal.ensures c.if-not-is_built_goal.true c.loop-branch.invariant

pub have_built_goals-returns-then-not-is_built_goal-2 : goal.have_built_goals-returns-then-not-is_built_goal-2
have_built_goals-returns-then-not-is_built_goal-2 t c =
    body-stops c.args.branches.now c.loop-branch.branch-index c.branch-item.result c.is_built_goal.result c.is_built_goal-in-loop-branch.result c.loop-branch-test.true c.branch-item.is c.is_built_goal.ensures c.if-not-is_built_goal.false c.is_built_goal-in-loop-branch.ensures c.if-not-is_built_goal-2.true c.loop-branch.invariant

pub have_built_goals-loop-branch-preserved : goal.have_built_goals-loop-branch-preserved
have_built_goals-loop-branch-preserved t c =
    pair-goes-on c.args.branches.now c.loop-branch.branch-index c.branch-item.result c.is_built_goal.result c.is_built_goal-in-loop-branch.result c.loop-branch-test.true c.branch-item.is c.is_built_goal.ensures c.if-not-is_built_goal.false c.is_built_goal-in-loop-branch.ensures c.if-not-is_built_goal-2.false c.loop-branch.invariant

pub have_built_goals-returns : goal.have_built_goals-returns
have_built_goals-returns t c =
    ends each-pair c.args.branches.now c.loop-branch.branch-index c.loop-branch-test.false c.loop-branch.invariant

pub is_built_call-returns-in-Negation : goal.is_built_call-returns-in-Negation
is_built_call-returns-in-Negation t c =
    goal-of c.args.name.now c.args.args.now (length c.args.args.now) c.form_of.result c.in-Some.form Form.Negation c.is_built_goal_at.result refl c.form_of.ensures c.in-Some.is c.in-Negation.is refl c.is_built_goal_at.ensures

pub is_built_call-returns-in-Once : goal.is_built_call-returns-in-Once
is_built_call-returns-in-Once t c =
    goal-of c.args.name.now c.args.args.now (length c.args.args.now) c.form_of.result c.in-Some.form Form.Once c.is_built_goal_at-in-Once.result refl c.form_of.ensures c.in-Some.is c.in-Once.is refl c.is_built_goal_at-in-Once.ensures

pub is_built_call-returns-in-Assignment : goal.is_built_call-returns-in-Assignment
is_built_call-returns-in-Assignment t c =
    goal-assigns c.args.name.now c.args.args.now (length c.args.args.now) c.form_of.result c.in-Some.form Form.Assignment _ refl c.form_of.ensures c.in-Some.is c.in-Assignment.is (both _ _ _ _ c.is_built_value_at.ensures c.is_assigned.ensures)

pub is_built_call-returns-in-Catch : goal.is_built_call-returns-in-Catch
is_built_call-returns-in-Catch t c =
    goal-of c.args.name.now c.args.args.now (length c.args.args.now) c.form_of.result c.in-Some.form Form.Catch _ refl c.form_of.ensures c.in-Some.is c.in-Catch.is refl (both _ _ _ _ c.is_built_goal_at-in-Catch.ensures (both _ _ _ _ c.is_built_value_at-in-Catch.ensures c.is_built_goal_at-in-Catch-2.ensures))

pub is_built_call-returns-in-ByTerm : goal.is_built_call-returns-in-ByTerm
is_built_call-returns-in-ByTerm t c =
    goal-of c.args.name.now c.args.args.now (length c.args.args.now) c.form_of.result c.in-Some.form Form.ByTerm c.are_built_values.result refl c.form_of.ensures c.in-Some.is c.in-ByTerm.is refl c.are_built_values.ensures

pub is_built_call-returns-in-Membership : goal.is_built_call-returns-in-Membership
is_built_call-returns-in-Membership t c =
    goal-of c.args.name.now c.args.args.now (length c.args.args.now) c.form_of.result c.in-Some.form Form.Membership false refl c.form_of.ensures c.in-Some.is c.in-Membership.is refl refl

pub is_built_call-returns-in-None : goal.is_built_call-returns-in-None
is_built_call-returns-in-None t c =
    goal-of-none c.args.name.now c.args.args.now (length c.args.args.now) c.form_of.result _ refl c.form_of.ensures c.in-None.is (both _ _ _ _ c.are_built_values-in-None.ensures c.is_built_predicate.ensures)

pub is_built_value_call-returns-then-is_find_all : goal.is_built_value_call-returns-then-is_find_all
is_built_value_call-returns-then-is_find_all t c =
    value-counted c.args.name.now c.args.args.now (length c.args.args.now) _ refl
    (finds c.args.name.now (length c.args.args.now) (are_built_values (exps_of c.args.args.now)) (is_built_value_at (exps_of c.args.args.now)) (is_built_goal_at (exps_of c.args.args.now)) c.is_find_all.result c.is_built_value_at.result c.is_built_goal_at.result c.is_find_all.ensures c.if-is_find_all.true c.is_built_value_at.ensures c.is_built_goal_at.ensures)

pub is_built_value_call-returns-then-is_count_all : goal.is_built_value_call-returns-then-is_count_all
is_built_value_call-returns-then-is_count_all t c =
    value-counted c.args.name.now c.args.args.now (length c.args.args.now) c.is_built_goal_at-then-is_count_all.result refl
    (counts c.args.name.now (length c.args.args.now) (are_built_values (exps_of c.args.args.now)) (is_built_value_at (exps_of c.args.args.now)) (is_built_goal_at (exps_of c.args.args.now)) c.is_find_all.result c.is_count_all.result c.is_built_goal_at-then-is_count_all.result c.is_find_all.ensures c.if-is_find_all.false c.is_count_all.ensures c.if-is_count_all.true c.is_built_goal_at-then-is_count_all.ensures)

pub is_built_value_call-returns : goal.is_built_value_call-returns
is_built_value_call-returns t c =
    value-counted c.args.name.now c.args.args.now (length c.args.args.now) _ refl
    (applies c.args.name.now (length c.args.args.now) (are_built_values (exps_of c.args.args.now)) (is_built_value_at (exps_of c.args.args.now)) (is_built_goal_at (exps_of c.args.args.now)) c.is_find_all.result c.is_count_all.result c.are_built_values.result c.is_built_function.result c.is_find_all.ensures c.if-is_find_all.false c.is_count_all.ensures c.if-is_count_all.false c.are_built_values.ensures c.is_built_function.ensures)

pub is_built_value_at-returns-then-i-exps : goal.is_built_value_at-returns-then-i-exps
is_built_value_at-returns-then-i-exps t c =
    there is_built_value is_built_value_at at-value c.args.exps.now c.args.i c.index-exps-i.result c.is_built_value.result (omega arith) c.index-exps-i.is c.is_built_value.ensures

pub is_built_value_at-returns-else-i-exps : goal.is_built_value_at-returns-else-i-exps
is_built_value_at-returns-else-i-exps t c =
    past is_built_value is_built_value_at at-value c.args.exps.now c.args.i (omega arith)

pub is_built_goal_at-returns-then-i-exps : goal.is_built_goal_at-returns-then-i-exps
is_built_goal_at-returns-then-i-exps t c =
    there is_built_goal is_built_goal_at at-goal c.args.exps.now c.args.i c.index-exps-i.result c.is_built_goal.result (omega arith) c.index-exps-i.is c.is_built_goal.ensures

pub is_built_goal_at-returns-else-i-exps : goal.is_built_goal_at-returns-else-i-exps
is_built_goal_at-returns-else-i-exps t c =
    past is_built_goal is_built_goal_at at-goal c.args.exps.now c.args.i (omega arith)

pub is_built_value-returns-in-Collect : goal.is_built_value-returns-in-Collect
unfolding is_built_value
is_built_value-returns-in-Collect t c =
    of-list-and exps_of is_built_value are_built_units is_built_value (λ ts u. collect c.in-Collect.field-0 u ts) (λ ts u. refl) c.args.exp.now c.in-Collect.item.value c.deref-in-Collect.result.now c.in-Collect.units.items c.as_slice-in-Collect.result.now c.are_built_units.result c.is_built_value-in-Collect.result
    (collect-is c.args.exp.now c.in-Collect.field-0 c.in-Collect.item c.in-Collect.units c.in-Collect.is) c.as_slice-in-Collect.ensures.value c.deref-in-Collect.ensures c.are_built_units.ensures c.is_built_value-in-Collect.ensures

pub is_built_goal-returns-in-Foreach : goal.is_built_goal-returns-in-Foreach
unfolding is_built_goal
is_built_goal-returns-in-Foreach t c =
    of-list-and exps_of is_built_goal are_built_units is_built_goal foreach (λ ts u. refl) c.args.exp.now c.in-Foreach.body.value c.deref-in-Foreach.result.now c.in-Foreach.units.items c.as_slice-in-Foreach.result.now c.are_built_units.result c.is_built_goal-in-Foreach.result
    (foreach-is c.args.exp.now c.in-Foreach.units c.in-Foreach.body c.in-Foreach.is) c.as_slice-in-Foreach.ensures.value c.deref-in-Foreach.ensures c.are_built_units.ensures c.is_built_goal-in-Foreach.ensures

pub is_built_goal-returns-in-While : goal.is_built_goal-returns-in-While
unfolding is_built_goal
is_built_goal-returns-in-While t c =
    of-two is_built_goal is_built_goal while_do (λ u v. refl) c.args.exp.now c.in-While.test.value c.in-While.body.value c.deref-in-While.result.now c.deref-in-While-2.result.now c.is_built_goal-in-While.result c.is_built_goal-in-While-2.result
    (while-is c.args.exp.now c.in-While.test c.in-While.body c.in-While.is) c.deref-in-While.ensures c.deref-in-While-2.ensures c.is_built_goal-in-While.ensures c.is_built_goal-in-While-2.ensures

pub is_built_goal-returns-in-DoWhile : goal.is_built_goal-returns-in-DoWhile
unfolding is_built_goal
is_built_goal-returns-in-DoWhile t c =
    of-two is_built_goal is_built_goal do_while (λ u v. refl) c.args.exp.now c.in-DoWhile.body.value c.in-DoWhile.test.value c.deref-in-DoWhile.result.now c.deref-in-DoWhile-2.result.now c.is_built_goal-in-DoWhile.result c.is_built_goal-in-DoWhile-2.result
    (do_while-is c.args.exp.now c.in-DoWhile.body c.in-DoWhile.test c.in-DoWhile.is) c.deref-in-DoWhile.ensures c.deref-in-DoWhile-2.ensures c.is_built_goal-in-DoWhile.ensures c.is_built_goal-in-DoWhile-2.ensures

pub is_built_branch-returns-in-Foreach : goal.is_built_branch-returns-in-Foreach
unfolding is_built_branch
is_built_branch-returns-in-Foreach t c =
    of-list-and exps_of is_built_branch are_built_units is_built_goal foreach (λ ts u. refl) c.args.exp.now c.in-Foreach.body.value c.deref-in-Foreach.result.now c.in-Foreach.units.items c.as_slice-in-Foreach.result.now c.are_built_units.result c.is_built_goal-in-Foreach.result
    (foreach-is c.args.exp.now c.in-Foreach.units c.in-Foreach.body c.in-Foreach.is) c.as_slice-in-Foreach.ensures.value c.deref-in-Foreach.ensures c.are_built_units.ensures c.is_built_goal-in-Foreach.ensures

pub is_built_branch-returns-in-While : goal.is_built_branch-returns-in-While
unfolding is_built_branch
is_built_branch-returns-in-While t c =
    of-two is_built_branch is_built_goal while_do (λ u v. refl) c.args.exp.now c.in-While.test.value c.in-While.body.value c.deref-in-While.result.now c.deref-in-While-2.result.now c.is_built_goal-in-While.result c.is_built_goal-in-While-2.result
    (while-is c.args.exp.now c.in-While.test c.in-While.body c.in-While.is) c.deref-in-While.ensures c.deref-in-While-2.ensures c.is_built_goal-in-While.ensures c.is_built_goal-in-While-2.ensures

pub is_built_branch-returns-in-DoWhile : goal.is_built_branch-returns-in-DoWhile
unfolding is_built_branch
is_built_branch-returns-in-DoWhile t c =
    of-two is_built_branch is_built_goal do_while (λ u v. refl) c.args.exp.now c.in-DoWhile.body.value c.in-DoWhile.test.value c.deref-in-DoWhile.result.now c.deref-in-DoWhile-2.result.now c.is_built_goal-in-DoWhile.result c.is_built_goal-in-DoWhile-2.result
    (do_while-is c.args.exp.now c.in-DoWhile.body c.in-DoWhile.test c.in-DoWhile.is) c.deref-in-DoWhile.ensures c.deref-in-DoWhile-2.ensures c.is_built_goal-in-DoWhile.ensures c.is_built_goal-in-DoWhile-2.ensures

pub are_built_units-returns-then-not-is_built_unit : goal.are_built_units-returns-then-not-is_built_unit
are_built_units-returns-then-not-is_built_unit t c = stops each-unit c.args.units.now c.loop-unit.unit-index c.unit-item.result c.is_built_unit.result c.loop-unit-test.true c.unit-item.is c.is_built_unit.ensures c.if-not-is_built_unit.true c.loop-unit.invariant

pub are_built_units-loop-unit-preserved : goal.are_built_units-loop-unit-preserved
are_built_units-loop-unit-preserved t c = goes-on each-unit c.args.units.now c.loop-unit.unit-index c.unit-item.result c.is_built_unit.result c.loop-unit-test.true c.unit-item.is c.is_built_unit.ensures c.if-not-is_built_unit.false c.loop-unit.invariant

pub are_built_units-returns : goal.are_built_units-returns
are_built_units-returns t c = ends each-unit c.args.units.now c.loop-unit.unit-index c.loop-unit-test.false c.loop-unit.invariant

pub is_built_unit-returns-in-Call : goal.is_built_unit-returns-in-Call
unfolding is_built_collection
is_built_unit-returns-in-Call t c =
    of-call is_built_loop_unit unit_called call (λ n ts. refl) c.args.unit.now c.in-Call.name c.as_str.result.now c.in-Call.args.items c.as_slice.result.now c.is_built_unit_call.result
    (call-is c.args.unit.now c.in-Call.name c.in-Call.args c.in-Call.is) c.as_str.ensures c.as_slice.ensures.value c.is_built_unit_call.ensures

pub is_built_unit_call-returns-then-args-eq : goal.is_built_unit_call-returns-then-args-eq
is_built_unit_call-returns-then-args-eq t c =
    iterator-built c.args.name.now c.args.args.now c.index-args-0.result c.is_built_pattern.result c.is_built_value_at.result _ _ (sym (ap (λ b. (length c.args.args.now == 2) && b) c.eq.ensures) ∙ c.if-args-eq.true) c.index-args-0.is
    c.is_built_pattern.ensures c.is_built_value_at.ensures

pub is_built_unit_call-returns : goal.is_built_unit_call-returns
unfolding is_built_goal
is_built_unit_call-returns t c =
    test-built c.args.name.now c.args.args.now c.is_built_call.result _ _ (sym (ap (λ b. (length c.args.args.now == 2) && b) c.eq.ensures) ∙ c.if-args-eq.false) c.is_built_call.ensures
