-- Each kind of goal and expression by its lemma.
use Rattle.std.specs.Prelude.{true, ◌&&◌, Some, map}
use Rattle.std.proofs.Common.{◌≡◌, ◌+◌, [], ◌++◌, length, drop, refl, sym, ◌∙◌, ap, arith, rules}
use Rattle.std.proofs.lemmas.Result.{IfOk-weaker}
use Rattle.pi_core.specs.GoalTree.{GoalTree}
use Rattle.pi_core.specs.CoreTree.{pred_tree}
use Rattle.pi_syntax.specs.ExpTree.{exp_tree}
use Rattle.pi_syntax.specs.ExpLists.{exps_of}
use Rattle.pi_syntax.specs.declared.exp.Exp as e
use Rattle.pi_meaning.specs.OverNames.Texts.{places, places_all, places_of_branches}
use Rattle.pi_rewrite_spec.specs.Values.{stays, is_flat}
use Rattle.pi_meaning.specs.OverNames.Forms.{plain, ranged, form_of}
use Rattle.pi_rewrite_slots.specs.ReadAs.{reading_of, readings_of}
use Rattle.pi_rewrite_spec.specs.Goals.{begins_flat, either_of, indexed_by}
use Rattle.pi_rewrite_spec.specs.Sites.{helpers_in_all, helpers_in_branches, behind_site, behind_exp, inside}
use Rattle.pi_rewrite_spec.specs.Written.{made_as, goal_of, all_of}
use Rattle.pi_rewrite_spec.specs.Helpers.{value_helpers, all_helpers, goal_helpers, conjunct_helpers, branch_helpers}
use Rattle.pi_rewrite_slots.specs.Branches.{branches_in}
use Rattle.pi_rewrite_sites.specs.SiteOf.{site_of}
use Rattle.pi_rewrite_slots.specs.Indexed.{names_in}
use Rattle.pi_rewrite_loops.specs.Helpers.{loop_of, ending_of, lowered}
use Rattle.pi_rewrite_goals.proofs.LoopLemmas.{while-whole, do-whole}
use Rattle.pi_rewrite_sites.proofs.NowTrees.{foreach-now, collect-now, while-now, do-now, atom-now, onto-now, list-now, array-now, call-now, index-now, range-now, range_by-now, and-now, or-now, arrow-now, if_then-now, if_else-now}
use Rattle.pi_rewrite_goals.specs.Lowering.{value_of, call_as_goal, call_as_value, call_goal_helpers, call_value_helpers, values_as}
use Rattle.pi_rewrite_goals.specs.Calls.{HasCount, IsForm, assigned_to, atom_tree}
use Rattle.pi_rewrite_goals.specs.Joined.{closed}
use Rattle.pi_rewrite_goals.specs.declared.calls.CallForm.TheVariants.{Catch}
use Rattle.pi_rewrite_slots.proofs.StepLemmas.{did}
use Rattle.pi_rewrite_goals.proofs.ShapeLemmas.{put-as, gives-as, not-stepped, has-begun, begun-of, is-gathering, gathers-of}
use Rattle.pi_rewrite_goals.proofs.ValueLemmas.{value-as, goals-as}
use Rattle.pi_rewrite_goals.proofs.PartLemmas.{places_in, goals-none, all-more, all-end, place-flat, place-made, values-none, values-step, values-last, indexed-none, indexed-more, indexed-end}
use Rattle.pi_rewrite_goals.proofs.HelperLemmas.{no-helpers, same-helpers, two-helpers, three-helpers, going-more, going-end, all-start, all-next, all-none, conjunct-start, conjunct-next, conjunct-none, branch-start, branch-next, branch-none, flat-helpers, helpers-onto, helpers-list, helpers-array, helpers-index, helpers-range, helpers-range_by, helpers-and, helpers-or, helpers-atom, helpers-arrow, helpers-if_then, helpers-if_else}
use Rattle.pi_rewrite_goals.proofs.CallLemmas.{Found, helpers-not, helpers-once, helpers-assigned, helpers-catch, caught-helpers, helpers-never, helpers-plain, helpers-collected, helpers-count, helpers-apply, goal-call-helpers, value-call-helpers}
use Rattle.pi_rewrite_goals.proofs.GoalLemmas.{is-alone, put-atom, goal-call, goal-and, put-or, put-if_else, put-if_then, put-not, put-once, put-no-call, put-plain, put-caught, put-never, never-as}
use Rattle.pi_rewrite_goals.proofs.PutLemmas.{put-as-made}
use Rattle.pi_rewrite_goals.proofs.NeverLemmas.{never-var, never-int, never-str, never-list, never-array, never-quote, never-index, never-range, never-at, never-collect, never-arrow, idle-var, idle-int, idle-str, idle-list, idle-array, idle-quote, idle-index, idle-range, idle-at, idle-collect}
use Rattle.pi_rewrite_goals.proofs.AssignLemmas.{assigned-call, assigned-value}
use Rattle.pi_rewrite_goals.proofs.BranchLemmas.{no-arrow, arrow-branch, goal-branch, branches-none, branches-more, branches-end, conditions-none, conditions-more, conditions-end}
use Rattle.pi_rewrite_goals.proofs.MadeLemmas.{put-made_onto, put-made_list, put-made_array, put-made_index, put-made_range, put-made_range_by, flip-and, gives-read, read-array, read-list, read-index, read-collect, read-kept, read-built, read-function, put-structure, put-kept_range, put-kept_steps, helpers-structure, no_value-as, none-var, none-int, none-atom, none-str, none-quote, none-at, none-and, none-or, none-arrow, none-if, none-foreach, none-while, none-do_while, bare-var, bare-int, bare-atom, bare-str, bare-quote, bare-at, bare-and, bare-or, bare-arrow, bare-if, bare-foreach, bare-while, bare-do_while, put-call_found, put-call_counted, put-call_applied}
use Rattle.pi_rewrite_goals.specs.Planned.{inner_in}
use Rattle.pi_rewrite_goals.proofs.OpenLemmas.{none-open}
use Rattle.pi_rewrite_goals.proofs.UnitLemmas.{opens-test, opens-iterator, units-more, units-end, foreach-whole, collect-whole}
use Rattle.std.proofs.Common.{get_or, subst}
use Rattle.pi_syntax.specs.ExpTree.{ExpTree, ExpTrees, call, exp}
use Rattle.pi_rewrite_spec.specs.Helpers.{collection_helpers}
use Rattle.pi_rewrite_goals.specs.Lowering.{With}
use Rattle.pi_rewrite_goals.specs.Planned.{IsOver}
use Rattle.pi_rewrite_goals.specs.declared.gone_over.Over.{Over}
use Rattle.pi_rewrite_goals.proofs.OverLemmas.{not-range, over-collection, over-range, collection-found, two-found, three-found, collection-helped}
use Rattle.pi_rewrite_goals.proofs.ArgumentLemmas.{GoesOverNone, none-found, no-call, not-call, few-arguments, two-first}
use Rattle.pi_rewrite_goals.proofs.+lowering.Goals as goal

pub values::value_as-returns-then-is_flat : goal.values::value_as-returns-then-is_flat
values::value_as-returns-then-is_flat t c = IfOk-weaker c.flat_value.result _ _ (λ term so.
    record {
      is = place-flat (reading_of c.args.reading) c.args.is_last (site_of c.args.site.now) (exp_tree c.args.exp.now) c.args.slots.now c.args.goals.now.items c.flat_value.new.goals.items term c.flat_value.new.slots (sym c.is_flat.ensures ∙ c.if-is_flat.true) so;
      helpers = no-helpers (map pred_tree c.args.helpers.now.items) (value_helpers (site_of c.args.site.now) (exp_tree c.args.exp.now)) (flat-helpers (site_of c.args.site.now) (reading_of c.args.reading) (exp_tree c.args.exp.now) (sym c.is_flat.ensures ∙ c.if-is_flat.true));
    }) c.flat_value.ensures

pub values::value_as-returns : goal.values::value_as-returns
values::value_as-returns t c = IfOk-weaker c.made.result _ _ (λ term so.
    record {
      is = place-made (reading_of c.args.reading) c.args.is_last (site_of c.args.site.now) (exp_tree c.args.exp.now) c.args.slots.now c.args.goals.now.items c.made.new.goals.items term c.made.new.slots (sym c.is_flat.ensures ∙ c.if-is_flat.false) so.is;
      helpers = so.helpers;
    }) c.made.ensures

pub values::values_as-loop-i-init : goal.values::values_as-loop-i-init
values::values_as-loop-i-init t c = record {
  is = values-none c.args.are_parts (site_of c.args.site.now) (site_of c.in_ok-here.here) (readings_of c.args.readings) c.args.exps.now c.args.slots.now c.args.goals.now.items c.new-terms.result.items c.in_ok-here.ensures c.new-terms.ensures.items;
  helpers = all-start (site_of c.args.site.now) (site_of c.in_ok-here.here) c.args.exps.now (map pred_tree c.args.helpers.now.items) c.in_ok-here.ensures;
}

pub values::values_as-loop-i-preserved : goal.values::values_as-loop-i-preserved
values::values_as-loop-i-preserved t c = record {
  is = values-step c.args.are_parts (site_of c.loop-i.here) (site_of c.pass.new.self) (readings_of c.args.readings) c.args.exps.now c.loop-i.i c.index-exps-i.result (reading_of c.at-reading.result) c.is_behind-is_last.result (values_as c.args.are_parts (site_of c.args.site.now) (readings_of c.args.readings) (exps_of c.args.exps.now) c.args.slots.now) c.loop-i.slots c.value_as.new.slots c.args.goals.now.items c.loop-i.goals.items c.value_as.new.goals.items c.loop-i.terms.items c.push.new.self.items c.in_ok-term.term
      c.loop-i-test.true c.index-exps-i.is c.at-reading.ensures c.in_ok-pass.ensures (c.is_behind-is_last.ensures (readings_of c.args.readings) c.args.exps.now c.calls_end-end.ensures) c.in_ok-term.ensures.is c.in_ok-push.ensures.items c.loop-i.invariant.is;
  helpers = going-more (map pred_tree c.args.helpers.now.items) (map pred_tree c.loop-i.helpers.items) (map pred_tree c.value_as.new.helpers.items) (all_helpers (site_of c.args.site.now) (exps_of c.args.exps.now)) (all_helpers (site_of c.loop-i.here) (exps_of (drop c.loop-i.i c.args.exps.now))) (value_helpers (site_of c.loop-i.here) (exp_tree c.index-exps-i.result)) (all_helpers (site_of c.pass.new.self) (exps_of (drop (c.loop-i.i + 1) c.args.exps.now)))
      (all-next (site_of c.loop-i.here) (site_of c.pass.new.self) c.args.exps.now c.loop-i.i c.index-exps-i.result c.loop-i-test.true c.index-exps-i.is c.in_ok-pass.ensures) c.in_ok-term.ensures.helpers c.loop-i.invariant.helpers;
}

pub values::values_as-returns : goal.values::values_as-returns
values::values_as-returns t c = record {
  is = values-last c.args.are_parts (site_of c.loop-i.here) (readings_of c.args.readings) c.args.exps.now c.loop-i.i (values_as c.args.are_parts (site_of c.args.site.now) (readings_of c.args.readings) (exps_of c.args.exps.now) c.args.slots.now) c.loop-i.slots c.args.goals.now.items c.loop-i.goals.items c.loop-i.terms.items c.loop-i-test.false c.loop-i.invariant.is;
  helpers = going-end (map pred_tree c.args.helpers.now.items) (map pred_tree c.loop-i.helpers.items) (all_helpers (site_of c.args.site.now) (exps_of c.args.exps.now)) (all_helpers (site_of c.loop-i.here) (exps_of (drop c.loop-i.i c.args.exps.now))) (all-none (site_of c.loop-i.here) c.args.exps.now c.loop-i.i c.loop-i-test.false) c.loop-i.invariant.helpers;
}

pub structures::indexed_by-loop-exp-init : goal.structures::indexed_by-loop-exp-init
structures::indexed_by-loop-exp-init t c = record {
  is = λ v before is. indexed-none (site_of c.args.site.now) (site_of c.args.site.now) c.args.places.now v before c.args.goals.now.items c.args.whole c.args.slots.now refl is;
  helpers = refl;
}

pub structures::indexed_by-loop-exp-preserved : goal.structures::indexed_by-loop-exp-preserved
structures::indexed_by-loop-exp-preserved t c = record {
  is = λ v before is.
      indexed-more (site_of c.loop-exp.site) (site_of c.pass.new.self) c.args.places.now c.loop-exp.exp-index c.exp-item.result (indexed_by v (places_in (site_of c.args.site.now) (exps_of c.args.places.now))) before c.loop-exp.goals.items c.value.new.goals.items c.applied_to_two.new.goals.items c.loop-exp.item c.in_ok-place.place c.in_ok-item.item c.loop-exp.slots c.value.new.slots c.applied_to_two.new.slots
      c.loop-exp-test.true c.exp-item.is c.in_ok-pass.ensures c.in_ok-place.ensures.is c.in_ok-item.ensures (c.loop-exp.invariant.is v before is);
  helpers = going-more (map pred_tree c.args.helpers.now.items) (map pred_tree c.loop-exp.helpers.items) (map pred_tree c.value.new.helpers.items) (all_helpers (site_of c.args.site.now) (exps_of c.args.places.now)) (all_helpers (site_of c.loop-exp.site) (exps_of (drop c.loop-exp.exp-index c.args.places.now))) (value_helpers (site_of c.loop-exp.site) (exp_tree c.exp-item.result)) (all_helpers (site_of c.pass.new.self) (exps_of (drop (c.loop-exp.exp-index + 1) c.args.places.now)))
      (all-next (site_of c.loop-exp.site) (site_of c.pass.new.self) c.args.places.now c.loop-exp.exp-index c.exp-item.result c.loop-exp-test.true c.exp-item.is c.in_ok-pass.ensures) c.in_ok-place.ensures.helpers c.loop-exp.invariant.helpers;
}

pub structures::indexed_by-returns : goal.structures::indexed_by-returns
structures::indexed_by-returns t c = record {
  is = λ v before is. indexed-end (site_of c.loop-exp.site) c.args.places.now c.loop-exp.exp-index (indexed_by v (places_in (site_of c.args.site.now) (exps_of c.args.places.now))) before c.loop-exp.goals.items c.loop-exp.item c.loop-exp.slots c.loop-exp-test.false (c.loop-exp.invariant.is v before is);
  helpers = going-end (map pred_tree c.args.helpers.now.items) (map pred_tree c.loop-exp.helpers.items) (all_helpers (site_of c.args.site.now) (exps_of c.args.places.now)) (all_helpers (site_of c.loop-exp.site) (exps_of (drop c.loop-exp.exp-index c.args.places.now))) (all-none (site_of c.loop-exp.site) c.args.places.now c.loop-exp.exp-index c.loop-exp-test.false) c.loop-exp.invariant.helpers;
}

pub calls::call_value-returns-then-is_call_of : goal.calls::call_value-returns-then-is_call_of
calls::call_value-returns-then-is_call_of t c = IfOk-weaker c.collected.result _ _ (λ list so.
    record {
      is = put-call_found (site_of c.args.site.now) (site_of c.in_ok-first.first) (site_of c.in_ok-behind.behind) c.args.name.now c.args.args.now c.index-args-0.result c.index-args-1.result c.args.slots.now c.push_goal.new.slots c.value.new.slots c.collected.new.slots c.new-inner.result.items c.push_goal.new.goals.items c.value.new.goals.items c.args.goals.now.items c.collected.new.goals.items c.in_ok-term.term list
          (sym c.is_call_of.ensures ∙ c.if-is_call_of.true) c.index-args-0.is c.index-args-1.is c.in_ok-first.ensures c.in_ok-behind.ensures c.new-inner.ensures.items c.in_ok-push_goal.ensures.is c.in_ok-term.ensures.is so;
      helpers = two-helpers (map pred_tree c.args.helpers.now.items) (map pred_tree c.push_goal.new.helpers.items) (map pred_tree c.value.new.helpers.items) (goal_helpers (site_of c.in_ok-first.first) (exp_tree c.index-args-1.result)) (value_helpers (site_of c.in_ok-behind.behind) (exp_tree c.index-args-0.result)) (call_value_helpers (site_of c.args.site.now) c.args.name.now (exps_of c.args.args.now))
          (helpers-collected (site_of c.args.site.now) c.args.name.now c.args.args.now c.index-args-0.result c.index-args-1.result (sym c.is_call_of.ensures ∙ c.if-is_call_of.true) c.index-args-0.is c.index-args-1.is ∙ (ap (λ z. goal_helpers z (exp_tree c.index-args-1.result) ++ value_helpers (behind_exp (site_of c.args.site.now) (exp_tree c.index-args-1.result)) (exp_tree c.index-args-0.result)) (sym c.in_ok-first.ensures) ∙ ap (λ z. goal_helpers (site_of c.in_ok-first.first) (exp_tree c.index-args-1.result) ++ value_helpers z (exp_tree c.index-args-0.result)) (sym c.in_ok-behind.ensures)))
          c.in_ok-push_goal.ensures.helpers c.in_ok-term.ensures.helpers;
    }) c.collected.ensures

pub calls::call_value-returns-then-is_call_of-2 : goal.calls::call_value-returns-then-is_call_of-2
calls::call_value-returns-then-is_call_of-2 t c = IfOk-weaker c.counted.result _ _ (λ number so.
    record {
      is = put-call_counted (site_of c.args.site.now) c.args.name.now c.args.args.now c.index-args-0-then-is_call_of-2.result c.args.slots.now c.alone.new.slots c.counted.new.slots c.in_ok-goal.goal c.args.goals.now.items c.counted.new.goals.items number
          (sym c.is_call_of.ensures ∙ c.if-is_call_of.false) (sym c.is_call_of-2.ensures ∙ c.if-is_call_of-2.true) c.index-args-0-then-is_call_of-2.is c.in_ok-goal.ensures.is so;
      helpers = same-helpers (map pred_tree c.args.helpers.now.items) (map pred_tree c.alone.new.helpers.items) (goal_helpers (site_of c.args.site.now) (exp_tree c.index-args-0-then-is_call_of-2.result)) (call_value_helpers (site_of c.args.site.now) c.args.name.now (exps_of c.args.args.now)) (helpers-count (site_of c.args.site.now) c.args.name.now c.args.args.now c.index-args-0-then-is_call_of-2.result (sym c.is_call_of.ensures ∙ c.if-is_call_of.false) (sym c.is_call_of-2.ensures ∙ c.if-is_call_of-2.true) c.index-args-0-then-is_call_of-2.is) c.in_ok-goal.ensures.helpers;
    }) c.counted.ensures

pub calls::call_value-returns : goal.calls::call_value-returns
calls::call_value-returns t c = IfOk-weaker c.applied.result _ _ (λ made so.
    record {
      is = put-call_applied (site_of c.args.site.now) c.args.name.now c.args.args.now c.args.slots.now c.values.new.slots c.applied.new.slots c.args.goals.now.items c.values.new.goals.items c.applied.new.goals.items c.in_ok-terms.terms.items c.deref.result.now made
          (sym c.is_call_of.ensures ∙ c.if-is_call_of.false) (sym c.is_call_of-2.ensures ∙ c.if-is_call_of-2.false) c.in_ok-terms.ensures.is c.deref.ensures.value so;
      helpers = same-helpers (map pred_tree c.args.helpers.now.items) (map pred_tree c.values.new.helpers.items) (all_helpers (site_of c.args.site.now) (exps_of c.args.args.now)) (call_value_helpers (site_of c.args.site.now) c.args.name.now (exps_of c.args.args.now)) (helpers-apply (site_of c.args.site.now) c.args.name.now c.args.args.now (sym c.is_call_of.ensures ∙ c.if-is_call_of.false) (sym c.is_call_of-2.ensures ∙ c.if-is_call_of-2.false)) c.in_ok-terms.ensures.helpers;
    }) c.applied.ensures

pub structures::listed-returns-in_ok-rest-in-Some : goal.structures::listed-returns-in_ok-rest-in-Some
structures::listed-returns-in_ok-rest-in-Some t c = IfOk-weaker c.list_onto.result _ _ (λ list so f.
    record {
      is = put-made_onto (site_of c.args.site.now) (site_of c.in_ok-behind-in-Some.behind) (exp_tree c.args.exp.now) (exps_of c.as_slice.result.now) (exp_tree c.deref.result.now) c.args.slots.now c.values.new.slots c.value.new.slots c.args.goals.now.items c.values.new.goals.items c.value.new.goals.items c.in_ok-parts-in-Some.parts.items c.deref-in-Some.result.now c.in_ok-rest-in-Some.rest list
          (onto-now c.args.exp.now c.in-List.items c.in-List.tail c.in-Some.tail c.as_slice.result.now c.deref.result.now c.in-List.is c.in-Some.is c.as_slice.ensures.value c.deref.ensures) c.in_ok-parts-in-Some.ensures.is (c.in_ok-behind-in-Some.ensures ∙ ap (λ xs. behind_site (site_of c.args.site.now) (places_all (exps_of xs)) (helpers_in_all (exps_of xs))) (c.as_slice-in-Some.ensures.value ∙ sym c.as_slice.ensures.value)) c.in_ok-rest-in-Some.ensures.is c.deref-in-Some.ensures.value so;
      helpers = two-helpers (map pred_tree c.args.helpers.now.items) (map pred_tree c.values.new.helpers.items) (map pred_tree c.value.new.helpers.items) (all_helpers (site_of c.args.site.now) (exps_of c.as_slice.result.now)) (value_helpers (site_of c.in_ok-behind-in-Some.behind) (exp_tree c.deref.result.now)) (value_helpers (site_of c.args.site.now) (exp_tree c.args.exp.now)) (helpers-onto (site_of c.args.site.now) (site_of c.in_ok-behind-in-Some.behind) (exp_tree c.args.exp.now) (exps_of c.as_slice.result.now) (exp_tree c.deref.result.now) (onto-now c.args.exp.now c.in-List.items c.in-List.tail c.in-Some.tail c.as_slice.result.now c.deref.result.now c.in-List.is c.in-Some.is c.as_slice.ensures.value c.deref.ensures) (c.in_ok-behind-in-Some.ensures ∙ ap (λ xs. behind_site (site_of c.args.site.now) (places_all (exps_of xs)) (helpers_in_all (exps_of xs))) (c.as_slice-in-Some.ensures.value ∙ sym c.as_slice.ensures.value))) c.in_ok-parts-in-Some.ensures.helpers c.in_ok-rest-in-Some.ensures.helpers;
    }) c.list_onto.ensures

pub structures::listed-returns-in-None : goal.structures::listed-returns-in-None
structures::listed-returns-in-None t c = IfOk-weaker c.list_of.result _ _ (λ list so f.
    gives-as plain (site_of c.args.site.now) (exp_tree c.args.exp.now) (ExpTree.list (exps_of c.as_slice-in-None.result.now)) c.args.slots.now c.list_of.new.slots c.args.goals.now.items c.list_of.new.goals.items list c.args.helpers.now.items c.list_of.new.helpers.items
    (list-now c.args.exp.now c.in-List.items c.in-List.tail c.as_slice-in-None.result.now c.in-List.is c.in-None.is c.as_slice-in-None.ensures.value) so) c.list_of.ensures

pub structures::listed-returns-in_default : goal.structures::listed-returns-in_default
structures::listed-returns-in_default t c = IfOk-weaker c.no_value.result _ _ (λ _ so f. absurd (c.in_default.not-List f.items f.tail f.is)) c.no_value.ensures.is

pub structures::list_of-returns : goal.structures::list_of-returns
structures::list_of-returns t c = IfOk-weaker c.list_onto.result _ _ (λ list so.
    record {
      is = put-made_list (site_of c.args.site.now) (ExpTree.list (exps_of c.args.exps.now)) (exps_of c.args.exps.now) c.args.slots.now c.values.new.slots c.args.goals.now.items c.values.new.goals.items c.in_ok-parts.parts.items c.deref.result.now c.in_ok-rest.rest list refl c.in_ok-parts.ensures.is c.deref.ensures.value c.in_ok-rest.ensures.ok so;
      helpers = same-helpers (map pred_tree c.args.helpers.now.items) (map pred_tree c.values.new.helpers.items) (all_helpers (site_of c.args.site.now) (exps_of c.args.exps.now)) (value_helpers (site_of c.args.site.now) (ExpTree.list (exps_of c.args.exps.now))) (helpers-list (site_of c.args.site.now) (ExpTree.list (exps_of c.args.exps.now)) (exps_of c.args.exps.now) refl) c.in_ok-parts.ensures.helpers;
    }) c.list_onto.ensures

pub values::made-returns-in-Array : goal.values::made-returns-in-Array
values::made-returns-in-Array t c = IfOk-weaker c.array_of.result _ _ (λ array so.
    let is : exp_tree c.args.exp.now ≡ ExpTree.array (exps_of c.as_slice.result.now) = array-now c.args.exp.now c.in-Array.items c.as_slice.result.now c.in-Array.is c.as_slice.ensures.value in
    gives-read (reading_of c.args.reading) plain (site_of c.args.site.now) (exp_tree c.args.exp.now) c.args.slots.now c.array_of.new.slots c.args.goals.now.items c.array_of.new.goals.items array c.args.helpers.now.items c.array_of.new.helpers.items
    (read-array (reading_of c.args.reading) (site_of c.args.site.now) (exp_tree c.args.exp.now) (exps_of c.as_slice.result.now) c.args.slots.now is)
    (gives-as plain (site_of c.args.site.now) (exp_tree c.args.exp.now) (ExpTree.array (exps_of c.as_slice.result.now)) c.args.slots.now c.array_of.new.slots c.args.goals.now.items c.array_of.new.goals.items array c.args.helpers.now.items c.array_of.new.helpers.items is so)) c.array_of.ensures

pub values::made-returns-in-List : goal.values::made-returns-in-List
values::made-returns-in-List t c = IfOk-weaker c.listed.result _ _ (λ list so.
    gives-read (reading_of c.args.reading) plain (site_of c.args.site.now) (exp_tree c.args.exp.now) c.args.slots.now c.listed.new.slots c.args.goals.now.items c.listed.new.goals.items list c.args.helpers.now.items c.listed.new.helpers.items
    (read-list (reading_of c.args.reading) (site_of c.args.site.now) c.args.exp.now c.in-List.field-0 c.in-List.field-1 c.args.slots.now c.in-List.is)
    (so (record { items = c.in-List.field-0; tail = c.in-List.field-1; is = c.in-List.is }))) c.listed.ensures

pub values::made-returns-in-Index : goal.values::made-returns-in-Index
values::made-returns-in-Index t c = IfOk-weaker c.indexed.result _ _ (λ item so.
    gives-read (reading_of c.args.reading) plain (site_of c.args.site.now) (exp_tree c.args.exp.now) c.args.slots.now c.indexed.new.slots c.args.goals.now.items c.indexed.new.goals.items item c.args.helpers.now.items c.indexed.new.helpers.items
    (read-index (reading_of c.args.reading) (site_of c.args.site.now) c.args.exp.now c.in-Index.field-0 c.in-Index.field-1 c.args.slots.now c.in-Index.is)
    (so (record { whole = c.in-Index.field-0; places = c.in-Index.field-1; is = c.in-Index.is }))) c.indexed.ensures

pub values::made-returns-in-Range : goal.values::made-returns-in-Range
values::made-returns-in-Range t c = IfOk-weaker c.read_range.result _ _ (λ range so. so (record { low = c.in-Range.field-0; step = c.in-Range.field-1; high = c.in-Range.field-2; is = c.in-Range.is })) c.read_range.ensures

pub values::made-returns-in-Collect : goal.values::made-returns-in-Collect
values::made-returns-in-Collect t c = IfOk-weaker c.collected.result _ _ (λ list so.
    gives-read (reading_of c.args.reading) plain (site_of c.args.site.now) (exp_tree c.args.exp.now) c.args.slots.now c.collected.new.slots c.args.goals.now.items c.collected.new.goals.items list c.args.helpers.now.items c.collected.new.helpers.items
    (read-collect (reading_of c.args.reading) (site_of c.args.site.now) c.args.exp.now c.in-Collect.field-0 c.in-Collect.field-1 c.in-Collect.field-2 c.args.slots.now c.in-Collect.is)
    (so (record { is_array = c.in-Collect.field-0; item = c.in-Collect.field-1; units = c.in-Collect.field-2; is = c.in-Collect.is }))) c.collected.ensures

-- a range, by whether it stays
pub structures::read_range-returns-then-is_ranged : goal.structures::read_range-returns-then-is_ranged
structures::read_range-returns-then-is_ranged t c = IfOk-weaker c.kept_range.result _ _ (λ range so f.
    gives-read (reading_of c.args.reading) ranged (site_of c.args.site.now) (exp_tree c.args.exp.now) c.args.slots.now c.kept_range.new.slots c.args.goals.now.items c.kept_range.new.goals.items range c.args.helpers.now.items c.kept_range.new.helpers.items
    (read-kept (reading_of c.args.reading) (site_of c.args.site.now) c.args.exp.now c.args.slots.now (sym c.is_ranged.ensures ∙ c.if-is_ranged.true)) (so f)) c.kept_range.ensures

pub structures::read_range-returns : goal.structures::read_range-returns
structures::read_range-returns t c = IfOk-weaker c.ranged.result _ _ (λ range so f.
    gives-read (reading_of c.args.reading) plain (site_of c.args.site.now) (exp_tree c.args.exp.now) c.args.slots.now c.ranged.new.slots c.args.goals.now.items c.ranged.new.goals.items range c.args.helpers.now.items c.ranged.new.helpers.items
    (read-built (reading_of c.args.reading) (site_of c.args.site.now) c.args.exp.now c.args.slots.now (sym c.is_ranged.ensures ∙ c.if-is_ranged.false) f) (so f)) c.ranged.ensures

pub structures::kept_steps-returns-in_ok-three-in-Some : goal.structures::kept_steps-returns-in_ok-three-in-Some
structures::kept_steps-returns-in_ok-three-in-Some t c = IfOk-weaker c.of_three.result _ _ (λ range so f.
    let is : exp_tree c.args.exp.now ≡ ExpTree.range_by (exp_tree c.deref.result.now) (exp_tree c.deref-in-Some-2.result.now) (exp_tree c.deref-in-Some-4.result.now) =
    range_by-now c.args.exp.now c.in-Range.first c.in-Range.step c.in-Range.last c.in-Some.step c.deref.result.now c.deref-in-Some-2.result.now c.deref-in-Some-4.result.now c.in-Range.is c.in-Some.is c.deref.ensures c.deref-in-Some-2.ensures c.deref-in-Some-4.ensures in
    let first : site_of c.in_ok-second-in-Some.second ≡ behind_exp (site_of c.args.site.now) (exp_tree c.deref.result.now) = c.in_ok-second-in-Some.ensures ∙ ap (λ z. behind_exp (site_of c.args.site.now) (exp_tree z)) (c.deref-in-Some.ensures ∙ sym c.deref.ensures) in
    let second : site_of c.in_ok-third-in-Some.third ≡ behind_exp (site_of c.in_ok-second-in-Some.second) (exp_tree c.deref-in-Some-2.result.now) =
    c.in_ok-third-in-Some.ensures ∙ ap (λ z. behind_exp (site_of c.in_ok-second-in-Some.second) (exp_tree z)) (c.deref-in-Some-3.ensures ∙ sym c.deref-in-Some-2.ensures) in
    record {
      is = put-kept_steps (site_of c.args.site.now) (site_of c.in_ok-second-in-Some.second) (site_of c.in_ok-third-in-Some.third) (exp_tree c.args.exp.now) (exp_tree c.deref.result.now) (exp_tree c.deref-in-Some-2.result.now) (exp_tree c.deref-in-Some-4.result.now) c.args.slots.now c.value.new.slots c.value-in-Some.new.slots c.value-in-Some-2.new.slots
          c.args.goals.now.items c.value.new.goals.items c.value-in-Some.new.goals.items c.value-in-Some-2.new.goals.items c.in_ok-one-in-Some.one c.in_ok-two-in-Some.two c.in_ok-three-in-Some.three range is first second c.in_ok-one-in-Some.ensures.is c.in_ok-two-in-Some.ensures.is c.in_ok-three-in-Some.ensures.is so;
      helpers = three-helpers (map pred_tree c.args.helpers.now.items) (map pred_tree c.value.new.helpers.items) (map pred_tree c.value-in-Some.new.helpers.items) (map pred_tree c.value-in-Some-2.new.helpers.items) (value_helpers (site_of c.args.site.now) (exp_tree c.deref.result.now))
          (value_helpers (site_of c.in_ok-second-in-Some.second) (exp_tree c.deref-in-Some-2.result.now)) (value_helpers (site_of c.in_ok-third-in-Some.third) (exp_tree c.deref-in-Some-4.result.now)) (value_helpers (site_of c.args.site.now) (exp_tree c.args.exp.now))
          (helpers-range_by (site_of c.args.site.now) (site_of c.in_ok-second-in-Some.second) (site_of c.in_ok-third-in-Some.third) (exp_tree c.args.exp.now) (exp_tree c.deref.result.now) (exp_tree c.deref-in-Some-2.result.now) (exp_tree c.deref-in-Some-4.result.now) is first second)
          c.in_ok-one-in-Some.ensures.helpers c.in_ok-two-in-Some.ensures.helpers c.in_ok-three-in-Some.ensures.helpers;
    }) c.of_three.ensures

pub structures::kept_steps-returns-in-None : goal.structures::kept_steps-returns-in-None
structures::kept_steps-returns-in-None t c = IfOk-weaker c.no_value.result _ _ (λ _ so f. absurd (not-stepped c.args.exp.now c.in-Range.first c.in-Range.step c.in-Range.last c.in-Range.is c.in-None.is f)) c.no_value.ensures.is

pub structures::kept_steps-returns-in_default : goal.structures::kept_steps-returns-in_default
structures::kept_steps-returns-in_default t c = IfOk-weaker c.no_value-in_default.result _ _ (λ _ so f. absurd (c.in_default.not-Range f.low (Some f.step) f.high f.is)) c.no_value-in_default.ensures.is

pub structures::kept_range-returns-in_ok-two-in-None : goal.structures::kept_range-returns-in_ok-two-in-None
structures::kept_range-returns-in_ok-two-in-None t c = IfOk-weaker c.of_two.result _ _ (λ range so f.
    let is : exp_tree c.args.exp.now ≡ ExpTree.range (exp_tree c.deref.result.now) (exp_tree c.deref-in-None-2.result.now) =
    range-now c.args.exp.now c.in-Range.first c.in-Range.step c.in-Range.last c.deref.result.now c.deref-in-None-2.result.now c.in-Range.is c.in-None.is c.deref.ensures c.deref-in-None-2.ensures in
    let go : site_of c.in_ok-behind-in-None.behind ≡ behind_exp (site_of c.args.site.now) (exp_tree c.deref.result.now) = c.in_ok-behind-in-None.ensures ∙ ap (λ z. behind_exp (site_of c.args.site.now) (exp_tree z)) (c.deref-in-None.ensures ∙ sym c.deref.ensures) in
    record {
      is = put-kept_range (site_of c.args.site.now) (site_of c.in_ok-behind-in-None.behind) (exp_tree c.args.exp.now) (exp_tree c.deref.result.now) (exp_tree c.deref-in-None-2.result.now) c.args.slots.now c.value.new.slots c.value-in-None.new.slots c.args.goals.now.items c.value.new.goals.items c.value-in-None.new.goals.items
          c.in_ok-one-in-None.one c.in_ok-two-in-None.two range is go c.in_ok-one-in-None.ensures.is c.in_ok-two-in-None.ensures.is so;
      helpers = two-helpers (map pred_tree c.args.helpers.now.items) (map pred_tree c.value.new.helpers.items) (map pred_tree c.value-in-None.new.helpers.items) (value_helpers (site_of c.args.site.now) (exp_tree c.deref.result.now))
          (value_helpers (site_of c.in_ok-behind-in-None.behind) (exp_tree c.deref-in-None-2.result.now)) (value_helpers (site_of c.args.site.now) (exp_tree c.args.exp.now))
          (helpers-range (site_of c.args.site.now) (site_of c.in_ok-behind-in-None.behind) (exp_tree c.args.exp.now) (exp_tree c.deref.result.now) (exp_tree c.deref-in-None-2.result.now) is go) c.in_ok-one-in-None.ensures.helpers c.in_ok-two-in-None.ensures.helpers;
    }) c.of_two.ensures

pub structures::kept_range-returns-in-Some : goal.structures::kept_range-returns-in-Some
structures::kept_range-returns-in-Some t c = IfOk-weaker c.kept_steps.result _ _ (λ range so f. so (record { low = c.in-Range.first; step = c.in-Some.field-0; high = c.in-Range.last; is = c.in-Range.is ∙ ap (λ o. e.Range c.in-Range.first o c.in-Range.last) c.in-Some.is })) c.kept_steps.ensures

pub structures::kept_range-returns-in_default : goal.structures::kept_range-returns-in_default
structures::kept_range-returns-in_default t c = IfOk-weaker c.no_value.result _ _ (λ _ so f. absurd (c.in_default.not-Range f.low f.step f.high f.is)) c.no_value.ensures.is

-- a call, by whether it stays
pub calls::read_call-returns-then-not-stays : goal.calls::read_call-returns-then-not-stays
calls::read_call-returns-then-not-stays t c = IfOk-weaker c.call_value.result _ _ (λ value so.
    record {
      is = value-as (made_as (site_of c.args.site.now) (reading_of c.args.reading) (ExpTree.call c.args.name.now (exps_of c.args.args.now)) c.args.slots.now) (call_as_value (site_of c.args.site.now) c.args.name.now (exps_of c.args.args.now) c.args.slots.now) c.args.goals.now.items c.call_value.new.goals.items value c.call_value.new.slots
          (read-function (reading_of c.args.reading) (site_of c.args.site.now) c.args.name.now c.args.args.now c.args.slots.now (sym c.stays.ensures ∙ c.if-not-stays.true)) so.is;
      helpers = same-helpers (map pred_tree c.args.helpers.now.items) (map pred_tree c.call_value.new.helpers.items) (call_value_helpers (site_of c.args.site.now) c.args.name.now (exps_of c.args.args.now)) (value_helpers (site_of c.args.site.now) (ExpTree.call c.args.name.now (exps_of c.args.args.now)))
          (value-call-helpers (site_of c.args.site.now) (ExpTree.call c.args.name.now (exps_of c.args.args.now)) c.args.name.now c.args.name.now (exps_of c.args.args.now) refl refl) so.helpers;
    }) c.call_value.ensures

pub calls::read_call-returns : goal.calls::read_call-returns
calls::read_call-returns t c = IfOk-weaker c.comp.result _ _ (λ term so.
    let stay : stays (reading_of c.args.reading) c.args.name.now (length c.args.args.now) ≡ true = sym c.stays.ensures ∙ c.if-not-stays.false in
    record {
      is = put-structure (reading_of c.args.reading) (site_of c.args.site.now) c.args.name.now c.args.args.now (readings_of c.of_parts-readings.result) c.args.slots.now c.values_as.new.slots c.args.goals.now.items c.values_as.new.goals.items c.in_ok-parts.parts.items c.deref.result.now term stay c.of_parts-readings.ensures c.in_ok-parts.ensures.is c.deref.ensures.value so;
      helpers = same-helpers (map pred_tree c.args.helpers.now.items) (map pred_tree c.values_as.new.helpers.items) (all_helpers (site_of c.args.site.now) (exps_of c.args.args.now)) (value_helpers (site_of c.args.site.now) (ExpTree.call c.args.name.now (exps_of c.args.args.now)))
          (helpers-structure (reading_of c.args.reading) (site_of c.args.site.now) c.args.name.now c.args.args.now stay) c.in_ok-parts.ensures.helpers;
    }) c.comp.ensures.ok

pub structures::array_of-returns : goal.structures::array_of-returns
structures::array_of-returns t c = IfOk-weaker c.comp.result _ _ (λ array so.
    record {
      is = put-made_array (site_of c.args.site.now) (ExpTree.array (exps_of c.args.exps.now)) (exps_of c.args.exps.now) c.args.slots.now c.values.new.slots c.args.goals.now.items c.values.new.goals.items c.in_ok-parts.parts.items c.deref.result.now array refl c.in_ok-parts.ensures.is c.deref.ensures.value so;
      helpers = same-helpers (map pred_tree c.args.helpers.now.items) (map pred_tree c.values.new.helpers.items) (all_helpers (site_of c.args.site.now) (exps_of c.args.exps.now)) (value_helpers (site_of c.args.site.now) (ExpTree.array (exps_of c.args.exps.now))) (helpers-array (site_of c.args.site.now) (ExpTree.array (exps_of c.args.exps.now)) (exps_of c.args.exps.now) refl) c.in_ok-parts.ensures.helpers;
    }) c.comp.ensures.ok

pub values::made-returns-in-Call : goal.values::made-returns-in-Call
values::made-returns-in-Call t c = IfOk-weaker c.read_call.result _ _ (λ value so.
    let is : exp_tree c.args.exp.now ≡ ExpTree.call c.as_str.result.now (exps_of c.as_slice-in-Call.result.now) =
    call-now c.args.exp.now c.in-Call.name c.in-Call.args c.as_slice-in-Call.result.now c.in-Call.is c.as_slice-in-Call.ensures.value ∙ ap (λ n. ExpTree.call n (exps_of c.as_slice-in-Call.result.now)) (sym c.as_str.ensures) in
    gives-as (reading_of c.args.reading) (site_of c.args.site.now) (exp_tree c.args.exp.now) (ExpTree.call c.as_str.result.now (exps_of c.as_slice-in-Call.result.now)) c.args.slots.now c.read_call.new.slots c.args.goals.now.items c.read_call.new.goals.items value c.args.helpers.now.items c.read_call.new.helpers.items is so) c.read_call.ensures

pub structures::indexed-returns-in_ok-behind-in-Index : goal.structures::indexed-returns-in_ok-behind-in-Index
structures::indexed-returns-in_ok-behind-in-Index t c = IfOk-weaker c.indexed_by.result _ _ (λ item so f.
    record {
      is = put-made_index (site_of c.args.site.now) (site_of c.in_ok-behind-in-Index.behind) (exp_tree c.args.exp.now) (exp_tree c.deref.result.now) (exps_of c.as_slice-in-Index.result.now) c.begins_flat-is_last.result c.args.slots.now c.value.new.slots c.indexed_by.new.slots c.args.goals.now.items c.value.new.goals.items c.indexed_by.new.goals.items c.in_ok-whole-in-Index.whole item
          (index-now c.args.exp.now c.in-Index.of c.in-Index.places c.as_slice-in-Index.result.now c.deref.result.now c.in-Index.is c.as_slice-in-Index.ensures.value c.deref.ensures) (c.begins_flat-is_last.ensures ∙ ap (λ xs. begins_flat (exps_of xs)) (c.as_slice.ensures.value ∙ sym c.as_slice-in-Index.ensures.value)) c.in_ok-whole-in-Index.ensures.is (c.in_ok-behind-in-Index.ensures ∙ ap (λ z. behind_exp (site_of c.args.site.now) (exp_tree z)) (c.deref-in-Index.ensures ∙ sym c.deref.ensures)) so.is;
      helpers = two-helpers (map pred_tree c.args.helpers.now.items) (map pred_tree c.value.new.helpers.items) (map pred_tree c.indexed_by.new.helpers.items) (value_helpers (site_of c.args.site.now) (exp_tree c.deref.result.now)) (all_helpers (site_of c.in_ok-behind-in-Index.behind) (exps_of c.as_slice-in-Index.result.now)) (value_helpers (site_of c.args.site.now) (exp_tree c.args.exp.now)) (helpers-index (site_of c.args.site.now) (site_of c.in_ok-behind-in-Index.behind) (exp_tree c.args.exp.now) (exp_tree c.deref.result.now) (exps_of c.as_slice-in-Index.result.now) (index-now c.args.exp.now c.in-Index.of c.in-Index.places c.as_slice-in-Index.result.now c.deref.result.now c.in-Index.is c.as_slice-in-Index.ensures.value c.deref.ensures) (c.in_ok-behind-in-Index.ensures ∙ ap (λ z. behind_exp (site_of c.args.site.now) (exp_tree z)) (c.deref-in-Index.ensures ∙ sym c.deref.ensures))) c.in_ok-whole-in-Index.ensures.helpers so.helpers;
    }) c.indexed_by.ensures

pub structures::indexed-returns-in_default : goal.structures::indexed-returns-in_default
structures::indexed-returns-in_default t c = IfOk-weaker c.no_value.result _ _ (λ _ so f. absurd (c.in_default.not-Index f.whole f.places f.is)) c.no_value.ensures.is

pub structures::stepped-returns-in_ok-three-in-Some : goal.structures::stepped-returns-in_ok-three-in-Some
structures::stepped-returns-in_ok-three-in-Some t c = IfOk-weaker c.applied_to_three.result _ _ (λ range so f.
    record {
      is = put-made_range_by (site_of c.args.site.now) (site_of c.in_ok-second-in-Some.second) (site_of c.in_ok-third-in-Some.third) (exp_tree c.args.exp.now) (exp_tree c.deref-in-Some-2.result.now) (exp_tree c.deref-in-Some-4.result.now) (exp_tree c.deref-in-Some-6.result.now) c.is_flat-is_last.result (c.is_flat-is_last.result && c.is_flat.result) c.args.slots.now c.value.new.slots c.value-in-Some.new.slots c.value-in-Some-2.new.slots c.applied_to_three.new.slots c.args.goals.now.items c.value.new.goals.items c.value-in-Some.new.goals.items c.value-in-Some-2.new.goals.items c.applied_to_three.new.goals.items
          c.in_ok-one-in-Some.one c.in_ok-two-in-Some.two c.in_ok-three-in-Some.three range (range_by-now c.args.exp.now c.in-Range.first c.in-Range.step c.in-Range.last c.in-Some.step c.deref-in-Some-2.result.now c.deref-in-Some-4.result.now c.deref-in-Some-6.result.now c.in-Range.is c.in-Some.is c.deref-in-Some-2.ensures c.deref-in-Some-4.ensures c.deref-in-Some-6.ensures)
          (c.is_flat-is_last.ensures ∙ ap (λ z. is_flat (exp_tree z)) (c.deref.ensures ∙ sym c.deref-in-Some-6.ensures))
          (flip-and c.is_flat-is_last.result c.is_flat.result (is_flat (exp_tree c.deref-in-Some-4.result.now)) (c.is_flat.ensures ∙ ap (λ z. is_flat (exp_tree z)) (c.deref-in-Some.ensures ∙ sym c.deref-in-Some-4.ensures)))
          (c.in_ok-second-in-Some.ensures ∙ ap (λ z. behind_exp (site_of c.args.site.now) (exp_tree z)) (c.deref-in-Some-3.ensures ∙ sym c.deref-in-Some-2.ensures)) (c.in_ok-third-in-Some.ensures ∙ ap (λ z. behind_exp (site_of c.in_ok-second-in-Some.second) (exp_tree z)) (c.deref-in-Some-5.ensures ∙ sym c.deref-in-Some-4.ensures)) c.in_ok-one-in-Some.ensures.is c.in_ok-two-in-Some.ensures.is c.in_ok-three-in-Some.ensures.is so;
      helpers = three-helpers (map pred_tree c.args.helpers.now.items) (map pred_tree c.value.new.helpers.items) (map pred_tree c.value-in-Some.new.helpers.items) (map pred_tree c.value-in-Some-2.new.helpers.items) (value_helpers (site_of c.args.site.now) (exp_tree c.deref-in-Some-2.result.now)) (value_helpers (site_of c.in_ok-second-in-Some.second) (exp_tree c.deref-in-Some-4.result.now)) (value_helpers (site_of c.in_ok-third-in-Some.third) (exp_tree c.deref-in-Some-6.result.now)) (value_helpers (site_of c.args.site.now) (exp_tree c.args.exp.now)) (helpers-range_by (site_of c.args.site.now) (site_of c.in_ok-second-in-Some.second) (site_of c.in_ok-third-in-Some.third) (exp_tree c.args.exp.now) (exp_tree c.deref-in-Some-2.result.now) (exp_tree c.deref-in-Some-4.result.now) (exp_tree c.deref-in-Some-6.result.now) (range_by-now c.args.exp.now c.in-Range.first c.in-Range.step c.in-Range.last c.in-Some.step c.deref-in-Some-2.result.now c.deref-in-Some-4.result.now c.deref-in-Some-6.result.now c.in-Range.is c.in-Some.is c.deref-in-Some-2.ensures c.deref-in-Some-4.ensures c.deref-in-Some-6.ensures) (c.in_ok-second-in-Some.ensures ∙ ap (λ z. behind_exp (site_of c.args.site.now) (exp_tree z)) (c.deref-in-Some-3.ensures ∙ sym c.deref-in-Some-2.ensures)) (c.in_ok-third-in-Some.ensures ∙ ap (λ z. behind_exp (site_of c.in_ok-second-in-Some.second) (exp_tree z)) (c.deref-in-Some-5.ensures ∙ sym c.deref-in-Some-4.ensures))) c.in_ok-one-in-Some.ensures.helpers c.in_ok-two-in-Some.ensures.helpers c.in_ok-three-in-Some.ensures.helpers;
    }) c.applied_to_three.ensures

pub structures::stepped-returns-in-None : goal.structures::stepped-returns-in-None
structures::stepped-returns-in-None t c = IfOk-weaker c.no_value.result _ _ (λ _ so f. absurd (not-stepped c.args.exp.now c.in-Range.first c.in-Range.step c.in-Range.last c.in-Range.is c.in-None.is f)) c.no_value.ensures.is

pub structures::stepped-returns-in_default : goal.structures::stepped-returns-in_default
structures::stepped-returns-in_default t c = IfOk-weaker c.no_value-in_default.result _ _ (λ _ so f. absurd (c.in_default.not-Range f.low (Some f.step) f.high f.is)) c.no_value-in_default.ensures.is

pub structures::ranged-returns-in_ok-two-in-None : goal.structures::ranged-returns-in_ok-two-in-None
structures::ranged-returns-in_ok-two-in-None t c = IfOk-weaker c.applied_to_two.result _ _ (λ range so f.
    record {
      is = put-made_range (site_of c.args.site.now) (site_of c.in_ok-behind-in-None.behind) (exp_tree c.args.exp.now) (exp_tree c.deref-in-None.result.now) (exp_tree c.deref-in-None-3.result.now) c.is_flat-is_last.result c.args.slots.now c.value.new.slots c.value-in-None.new.slots c.applied_to_two.new.slots c.args.goals.now.items c.value.new.goals.items c.value-in-None.new.goals.items c.applied_to_two.new.goals.items c.in_ok-one-in-None.one c.in_ok-two-in-None.two range
          (range-now c.args.exp.now c.in-Range.first c.in-Range.step c.in-Range.last c.deref-in-None.result.now c.deref-in-None-3.result.now c.in-Range.is c.in-None.is c.deref-in-None.ensures c.deref-in-None-3.ensures) (c.is_flat-is_last.ensures ∙ ap (λ z. is_flat (exp_tree z)) (c.deref.ensures ∙ sym c.deref-in-None-3.ensures)) (c.in_ok-behind-in-None.ensures ∙ ap (λ z. behind_exp (site_of c.args.site.now) (exp_tree z)) (c.deref-in-None-2.ensures ∙ sym c.deref-in-None.ensures)) c.in_ok-one-in-None.ensures.is c.in_ok-two-in-None.ensures.is so;
      helpers = two-helpers (map pred_tree c.args.helpers.now.items) (map pred_tree c.value.new.helpers.items) (map pred_tree c.value-in-None.new.helpers.items) (value_helpers (site_of c.args.site.now) (exp_tree c.deref-in-None.result.now)) (value_helpers (site_of c.in_ok-behind-in-None.behind) (exp_tree c.deref-in-None-3.result.now)) (value_helpers (site_of c.args.site.now) (exp_tree c.args.exp.now)) (helpers-range (site_of c.args.site.now) (site_of c.in_ok-behind-in-None.behind) (exp_tree c.args.exp.now) (exp_tree c.deref-in-None.result.now) (exp_tree c.deref-in-None-3.result.now) (range-now c.args.exp.now c.in-Range.first c.in-Range.step c.in-Range.last c.deref-in-None.result.now c.deref-in-None-3.result.now c.in-Range.is c.in-None.is c.deref-in-None.ensures c.deref-in-None-3.ensures) (c.in_ok-behind-in-None.ensures ∙ ap (λ z. behind_exp (site_of c.args.site.now) (exp_tree z)) (c.deref-in-None-2.ensures ∙ sym c.deref-in-None.ensures))) c.in_ok-one-in-None.ensures.helpers c.in_ok-two-in-None.ensures.helpers;
    }) c.applied_to_two.ensures

pub structures::ranged-returns-in-Some : goal.structures::ranged-returns-in-Some
structures::ranged-returns-in-Some t c = IfOk-weaker c.stepped.result _ _ (λ range so f. so (record { low = c.in-Range.first; step = c.in-Some.field-0; high = c.in-Range.last; is = c.in-Range.is ∙ ap (λ o. e.Range c.in-Range.first o c.in-Range.last) c.in-Some.is })) c.stepped.ensures

pub structures::ranged-returns-in_default : goal.structures::ranged-returns-in_default
structures::ranged-returns-in_default t c = IfOk-weaker c.no_value.result _ _ (λ _ so f. absurd (c.in_default.not-Range f.low f.step f.high f.is)) c.no_value.ensures.is

pub values::made-returns-in-Var : goal.values::made-returns-in-Var
values::made-returns-in-Var t c = no_value-as (reading_of c.args.reading) (site_of c.args.site.now) c.args.exp.now (e.Var c.in-Var.field-0) c.args.slots.now c.args.goals.now.items c.no_value.new.goals.items c.args.helpers.now.items c.no_value.result c.in-Var.is (none-var (reading_of c.args.reading) (site_of c.args.site.now) c.in-Var.field-0 c.args.slots.now) (bare-var (site_of c.args.site.now) c.in-Var.field-0) c.no_value.ensures.goals c.no_value.ensures.is

pub values::made-returns-in-Int : goal.values::made-returns-in-Int
values::made-returns-in-Int t c = no_value-as (reading_of c.args.reading) (site_of c.args.site.now) c.args.exp.now (e.Int c.in-Int.field-0) c.args.slots.now c.args.goals.now.items c.no_value-in-Int.new.goals.items c.args.helpers.now.items c.no_value-in-Int.result c.in-Int.is (none-int (reading_of c.args.reading) (site_of c.args.site.now) c.in-Int.field-0 c.args.slots.now) (bare-int (site_of c.args.site.now) c.in-Int.field-0) c.no_value-in-Int.ensures.goals c.no_value-in-Int.ensures.is

pub values::made-returns-in-Atom : goal.values::made-returns-in-Atom
values::made-returns-in-Atom t c = no_value-as (reading_of c.args.reading) (site_of c.args.site.now) c.args.exp.now (e.Atom c.in-Atom.field-0) c.args.slots.now c.args.goals.now.items c.no_value-in-Atom.new.goals.items c.args.helpers.now.items c.no_value-in-Atom.result c.in-Atom.is (none-atom (reading_of c.args.reading) (site_of c.args.site.now) c.in-Atom.field-0 c.args.slots.now) (bare-atom (site_of c.args.site.now) c.in-Atom.field-0) c.no_value-in-Atom.ensures.goals c.no_value-in-Atom.ensures.is

pub values::made-returns-in-Str : goal.values::made-returns-in-Str
values::made-returns-in-Str t c = no_value-as (reading_of c.args.reading) (site_of c.args.site.now) c.args.exp.now (e.Str c.in-Str.field-0) c.args.slots.now c.args.goals.now.items c.no_value-in-Str.new.goals.items c.args.helpers.now.items c.no_value-in-Str.result c.in-Str.is (none-str (reading_of c.args.reading) (site_of c.args.site.now) c.in-Str.field-0 c.args.slots.now) (bare-str (site_of c.args.site.now) c.in-Str.field-0) c.no_value-in-Str.ensures.goals c.no_value-in-Str.ensures.is

pub values::made-returns-in-Quote : goal.values::made-returns-in-Quote
values::made-returns-in-Quote t c = no_value-as (reading_of c.args.reading) (site_of c.args.site.now) c.args.exp.now (e.Quote c.in-Quote.field-0) c.args.slots.now c.args.goals.now.items c.no_value-in-Quote.new.goals.items c.args.helpers.now.items c.no_value-in-Quote.result c.in-Quote.is (none-quote (reading_of c.args.reading) (site_of c.args.site.now) c.in-Quote.field-0 c.args.slots.now) (bare-quote (site_of c.args.site.now) c.in-Quote.field-0) c.no_value-in-Quote.ensures.goals c.no_value-in-Quote.ensures.is

pub values::made-returns-in-At : goal.values::made-returns-in-At
values::made-returns-in-At t c = no_value-as (reading_of c.args.reading) (site_of c.args.site.now) c.args.exp.now (e.At c.in-At.field-0 c.in-At.field-1) c.args.slots.now c.args.goals.now.items c.no_value-in-At.new.goals.items c.args.helpers.now.items c.no_value-in-At.result c.in-At.is (none-at (reading_of c.args.reading) (site_of c.args.site.now) c.in-At.field-0 c.in-At.field-1 c.args.slots.now) (bare-at (site_of c.args.site.now) c.in-At.field-0 c.in-At.field-1) c.no_value-in-At.ensures.goals c.no_value-in-At.ensures.is

pub values::made-returns-in-And : goal.values::made-returns-in-And
values::made-returns-in-And t c = no_value-as (reading_of c.args.reading) (site_of c.args.site.now) c.args.exp.now (e.And c.in-And.field-0) c.args.slots.now c.args.goals.now.items c.no_value-in-And.new.goals.items c.args.helpers.now.items c.no_value-in-And.result c.in-And.is (none-and (reading_of c.args.reading) (site_of c.args.site.now) c.in-And.field-0 c.args.slots.now) (bare-and (site_of c.args.site.now) c.in-And.field-0) c.no_value-in-And.ensures.goals c.no_value-in-And.ensures.is

pub values::made-returns-in-Or : goal.values::made-returns-in-Or
values::made-returns-in-Or t c = no_value-as (reading_of c.args.reading) (site_of c.args.site.now) c.args.exp.now (e.Or c.in-Or.field-0) c.args.slots.now c.args.goals.now.items c.no_value-in-Or.new.goals.items c.args.helpers.now.items c.no_value-in-Or.result c.in-Or.is (none-or (reading_of c.args.reading) (site_of c.args.site.now) c.in-Or.field-0 c.args.slots.now) (bare-or (site_of c.args.site.now) c.in-Or.field-0) c.no_value-in-Or.ensures.goals c.no_value-in-Or.ensures.is

pub values::made-returns-in-Arrow : goal.values::made-returns-in-Arrow
values::made-returns-in-Arrow t c = no_value-as (reading_of c.args.reading) (site_of c.args.site.now) c.args.exp.now (e.Arrow c.in-Arrow.field-0 c.in-Arrow.field-1) c.args.slots.now c.args.goals.now.items c.no_value-in-Arrow.new.goals.items c.args.helpers.now.items c.no_value-in-Arrow.result c.in-Arrow.is (none-arrow (reading_of c.args.reading) (site_of c.args.site.now) c.in-Arrow.field-0 c.in-Arrow.field-1 c.args.slots.now) (bare-arrow (site_of c.args.site.now) c.in-Arrow.field-0 c.in-Arrow.field-1) c.no_value-in-Arrow.ensures.goals c.no_value-in-Arrow.ensures.is

pub values::made-returns-in-If : goal.values::made-returns-in-If
values::made-returns-in-If t c = no_value-as (reading_of c.args.reading) (site_of c.args.site.now) c.args.exp.now (e.If c.in-If.field-0 c.in-If.field-1) c.args.slots.now c.args.goals.now.items c.no_value-in-If.new.goals.items c.args.helpers.now.items c.no_value-in-If.result c.in-If.is (none-if (reading_of c.args.reading) (site_of c.args.site.now) c.in-If.field-0 c.in-If.field-1 c.args.slots.now) (bare-if (site_of c.args.site.now) c.in-If.field-0 c.in-If.field-1) c.no_value-in-If.ensures.goals c.no_value-in-If.ensures.is

pub values::made-returns-in-Foreach : goal.values::made-returns-in-Foreach
values::made-returns-in-Foreach t c = no_value-as (reading_of c.args.reading) (site_of c.args.site.now) c.args.exp.now (e.Foreach c.in-Foreach.field-0 c.in-Foreach.field-1) c.args.slots.now c.args.goals.now.items c.no_value-in-Foreach.new.goals.items c.args.helpers.now.items c.no_value-in-Foreach.result c.in-Foreach.is (none-foreach (reading_of c.args.reading) (site_of c.args.site.now) c.in-Foreach.field-0 c.in-Foreach.field-1 c.args.slots.now) (bare-foreach (site_of c.args.site.now) c.in-Foreach.field-0 c.in-Foreach.field-1) c.no_value-in-Foreach.ensures.goals c.no_value-in-Foreach.ensures.is

pub values::made-returns-in-While : goal.values::made-returns-in-While
values::made-returns-in-While t c = no_value-as (reading_of c.args.reading) (site_of c.args.site.now) c.args.exp.now (e.While c.in-While.field-0 c.in-While.field-1) c.args.slots.now c.args.goals.now.items c.no_value-in-While.new.goals.items c.args.helpers.now.items c.no_value-in-While.result c.in-While.is (none-while (reading_of c.args.reading) (site_of c.args.site.now) c.in-While.field-0 c.in-While.field-1 c.args.slots.now) (bare-while (site_of c.args.site.now) c.in-While.field-0 c.in-While.field-1) c.no_value-in-While.ensures.goals c.no_value-in-While.ensures.is

pub values::made-returns-in-DoWhile : goal.values::made-returns-in-DoWhile
values::made-returns-in-DoWhile t c = no_value-as (reading_of c.args.reading) (site_of c.args.site.now) c.args.exp.now (e.DoWhile c.in-DoWhile.field-0 c.in-DoWhile.field-1) c.args.slots.now c.args.goals.now.items c.no_value-in-DoWhile.new.goals.items c.args.helpers.now.items c.no_value-in-DoWhile.result c.in-DoWhile.is (none-do_while (reading_of c.args.reading) (site_of c.args.site.now) c.in-DoWhile.field-0 c.in-DoWhile.field-1 c.args.slots.now) (bare-do_while (site_of c.args.site.now) c.in-DoWhile.field-0 c.in-DoWhile.field-1) c.no_value-in-DoWhile.ensures.goals c.no_value-in-DoWhile.ensures.is

pub goals::alone-returns : goal.goals::alone-returns
goals::alone-returns t c = IfOk-weaker c.in_turn.result _ _ (λ goal so.
    record {
      is = is-alone (goal_of (site_of c.args.site.now) (exp_tree c.args.exp.now) c.args.slots.now) c.new-goals.result.items c.push_goal.new.goals.items goal c.push_goal.new.slots c.new-goals.ensures.items c.in_ok-push_goal.ensures.is so;
      helpers = c.in_ok-push_goal.ensures.helpers;
    }) c.in_turn.ensures

pub goals::push_all-loop-exp-init : goal.goals::push_all-loop-exp-init
goals::push_all-loop-exp-init t c = record {
  is = goals-none (site_of c.args.site.now) (site_of c.in_ok-here.here) c.args.exps.now c.args.slots.now c.args.goals.now.items c.in_ok-here.ensures;
  helpers = conjunct-start (site_of c.args.site.now) (site_of c.in_ok-here.here) c.args.exps.now (map pred_tree c.args.helpers.now.items) c.in_ok-here.ensures;
}

pub goals::push_all-loop-exp-preserved : goal.goals::push_all-loop-exp-preserved
goals::push_all-loop-exp-preserved t c = record {
  is = all-more (site_of c.loop-exp.here) (site_of c.pass.new.self) c.args.exps.now c.loop-exp.exp-index c.exp-item.result (all_of (site_of c.args.site.now) (exps_of c.args.exps.now) c.args.slots.now) c.loop-exp.slots c.push_goal.new.slots c.args.goals.now.items c.loop-exp.goals.items c.push_goal.new.goals.items c.loop-exp-test.true c.exp-item.is c.in_ok-pass.ensures c.in_ok-push_goal.ensures.is c.loop-exp.invariant.is;
  helpers = going-more (map pred_tree c.args.helpers.now.items) (map pred_tree c.loop-exp.helpers.items) (map pred_tree c.push_goal.new.helpers.items) (conjunct_helpers (site_of c.args.site.now) (exps_of c.args.exps.now)) (conjunct_helpers (site_of c.loop-exp.here) (exps_of (drop c.loop-exp.exp-index c.args.exps.now))) (goal_helpers (site_of c.loop-exp.here) (exp_tree c.exp-item.result)) (conjunct_helpers (site_of c.pass.new.self) (exps_of (drop (c.loop-exp.exp-index + 1) c.args.exps.now)))
      (conjunct-next (site_of c.loop-exp.here) (site_of c.pass.new.self) c.args.exps.now c.loop-exp.exp-index c.exp-item.result c.loop-exp-test.true c.exp-item.is c.in_ok-pass.ensures) c.in_ok-push_goal.ensures.helpers c.loop-exp.invariant.helpers;
}

pub goals::push_all-returns : goal.goals::push_all-returns
goals::push_all-returns t c = record {
  is = all-end (site_of c.loop-exp.here) c.args.exps.now c.loop-exp.exp-index (all_of (site_of c.args.site.now) (exps_of c.args.exps.now) c.args.slots.now) c.loop-exp.slots c.args.goals.now.items c.loop-exp.goals.items c.loop-exp-test.false c.loop-exp.invariant.is;
  helpers = going-end (map pred_tree c.args.helpers.now.items) (map pred_tree c.loop-exp.helpers.items) (conjunct_helpers (site_of c.args.site.now) (exps_of c.args.exps.now)) (conjunct_helpers (site_of c.loop-exp.here) (exps_of (drop c.loop-exp.exp-index c.args.exps.now))) (conjunct-none (site_of c.loop-exp.here) c.args.exps.now c.loop-exp.exp-index c.loop-exp-test.false) c.loop-exp.invariant.helpers;
}

pub goals::branches-loop-exp-init : goal.goals::branches-loop-exp-init
goals::branches-loop-exp-init t c = record {
  is = branches-none (site_of c.args.site.now) (site_of c.in_ok-here.here) c.args.exps.now c.args.slots.now c.new-made.result.items c.in_ok-here.ensures c.new-made.ensures.items;
  helpers = conjunct-start (site_of c.args.site.now) (site_of c.in_ok-here.here) c.args.exps.now (map pred_tree c.args.helpers.now.items) c.in_ok-here.ensures;
}

pub goals::branches-loop-exp-preserved : goal.goals::branches-loop-exp-preserved
goals::branches-loop-exp-preserved t c = record {
  is = branches-more (site_of c.args.site.now) (site_of c.loop-exp.here) (site_of c.pass.new.self) c.args.exps.now c.loop-exp.exp-index c.exp-item.result c.args.slots.now c.loop-exp.slots c.branch_of.new.slots c.loop-exp.made.items c.push.new.self.items c.in_ok-branch.branch c.loop-exp-test.true c.exp-item.is c.in_ok-pass.ensures c.in_ok-branch.ensures.is c.in_ok-push.ensures.items c.loop-exp.invariant.is;
  helpers = going-more (map pred_tree c.args.helpers.now.items) (map pred_tree c.loop-exp.helpers.items) (map pred_tree c.branch_of.new.helpers.items) (conjunct_helpers (site_of c.args.site.now) (exps_of c.args.exps.now)) (conjunct_helpers (site_of c.loop-exp.here) (exps_of (drop c.loop-exp.exp-index c.args.exps.now))) (goal_helpers (site_of c.loop-exp.here) (exp_tree c.exp-item.result)) (conjunct_helpers (site_of c.pass.new.self) (exps_of (drop (c.loop-exp.exp-index + 1) c.args.exps.now)))
      (conjunct-next (site_of c.loop-exp.here) (site_of c.pass.new.self) c.args.exps.now c.loop-exp.exp-index c.exp-item.result c.loop-exp-test.true c.exp-item.is c.in_ok-pass.ensures) c.in_ok-branch.ensures.helpers c.loop-exp.invariant.helpers;
}

pub goals::branches-returns : goal.goals::branches-returns
goals::branches-returns t c = record {
  is = branches-end (site_of c.args.site.now) (site_of c.loop-exp.here) c.args.exps.now c.loop-exp.exp-index c.args.slots.now c.loop-exp.slots c.loop-exp.made.items c.loop-exp-test.false c.loop-exp.invariant.is;
  helpers = going-end (map pred_tree c.args.helpers.now.items) (map pred_tree c.loop-exp.helpers.items) (conjunct_helpers (site_of c.args.site.now) (exps_of c.args.exps.now)) (conjunct_helpers (site_of c.loop-exp.here) (exps_of (drop c.loop-exp.exp-index c.args.exps.now))) (conjunct-none (site_of c.loop-exp.here) c.args.exps.now c.loop-exp.exp-index c.loop-exp-test.false) c.loop-exp.invariant.helpers;
}

pub goals::conditions-loop-branch-init : goal.goals::conditions-loop-branch-init
goals::conditions-loop-branch-init t c = record {
  is = conditions-none (site_of c.args.site.now) (site_of c.in_ok-here.here) c.args.branches.now c.args.slots.now c.new-made.result.items c.in_ok-here.ensures c.new-made.ensures.items;
  helpers = branch-start (site_of c.args.site.now) (site_of c.in_ok-here.here) c.args.branches.now (map pred_tree c.args.helpers.now.items) c.in_ok-here.ensures;
}

pub goals::conditions-loop-branch-preserved : goal.goals::conditions-loop-branch-preserved
goals::conditions-loop-branch-preserved t c = record {
  is = conditions-more (site_of c.args.site.now) (site_of c.loop-branch.here) (site_of c.pass.new.self) (site_of c.pass-in-loop-branch.new.self) c.args.branches.now c.loop-branch.branch-index c.branch-item.result c.args.slots.now c.loop-branch.slots c.alone.new.slots c.alone-in-loop-branch.new.slots c.loop-branch.made.items c.push.new.self.items c.in_ok-test.test c.in_ok-body.body _ c.loop-branch-test.true c.branch-item.is
      c.in_ok-pass.ensures c.in_ok-pass-2.ensures c.in_ok-test.ensures.is c.in_ok-body.ensures.is refl c.in_ok-push.ensures.items c.loop-branch.invariant.is;
  helpers = going-more (map pred_tree c.args.helpers.now.items) (map pred_tree c.loop-branch.helpers.items) (map pred_tree c.alone-in-loop-branch.new.helpers.items) (branch_helpers (site_of c.args.site.now) (branches_in c.args.branches.now)) (branch_helpers (site_of c.loop-branch.here) (branches_in (drop c.loop-branch.branch-index c.args.branches.now))) (goal_helpers (site_of c.loop-branch.here) (exp_tree c.branch-item.result.0) ++ goal_helpers (site_of c.pass.new.self) (exp_tree c.branch-item.result.1)) (branch_helpers (site_of c.pass-in-loop-branch.new.self) (branches_in (drop (c.loop-branch.branch-index + 1) c.args.branches.now)))
      (branch-next (site_of c.loop-branch.here) (site_of c.pass.new.self) (site_of c.pass-in-loop-branch.new.self) c.args.branches.now c.loop-branch.branch-index c.branch-item.result c.loop-branch-test.true c.branch-item.is c.in_ok-pass.ensures c.in_ok-pass-2.ensures)
      (two-helpers (map pred_tree c.loop-branch.helpers.items) (map pred_tree c.alone.new.helpers.items) (map pred_tree c.alone-in-loop-branch.new.helpers.items) (goal_helpers (site_of c.loop-branch.here) (exp_tree c.branch-item.result.0)) (goal_helpers (site_of c.pass.new.self) (exp_tree c.branch-item.result.1)) (goal_helpers (site_of c.loop-branch.here) (exp_tree c.branch-item.result.0) ++ goal_helpers (site_of c.pass.new.self) (exp_tree c.branch-item.result.1)) refl c.in_ok-test.ensures.helpers c.in_ok-body.ensures.helpers) c.loop-branch.invariant.helpers;
}

pub goals::conditions-returns : goal.goals::conditions-returns
goals::conditions-returns t c = record {
  is = conditions-end (site_of c.args.site.now) (site_of c.loop-branch.here) c.args.branches.now c.loop-branch.branch-index c.args.slots.now c.loop-branch.slots c.loop-branch.made.items c.loop-branch-test.false c.loop-branch.invariant.is;
  helpers = going-end (map pred_tree c.args.helpers.now.items) (map pred_tree c.loop-branch.helpers.items) (branch_helpers (site_of c.args.site.now) (branches_in c.args.branches.now)) (branch_helpers (site_of c.loop-branch.here) (branches_in (drop c.loop-branch.branch-index c.args.branches.now))) (branch-none (site_of c.loop-branch.here) c.args.branches.now c.loop-branch.branch-index c.loop-branch-test.false) c.loop-branch.invariant.helpers;
}

pub goals::branch_of-returns-in_ok-body-in-Arrow : goal.goals::branch_of-returns-in_ok-body-in-Arrow
goals::branch_of-returns-in_ok-body-in-Arrow t c = record {
  is = arrow-branch (site_of c.args.site.now) (site_of c.in_ok-behind-in-Arrow.behind) (exp_tree c.args.exp.now) (exp_tree c.deref-in-Arrow.result.now) (exp_tree c.deref-in-Arrow-2.result.now) c.args.slots.now c.in_ok-test-in-Arrow.test c.in_ok-body-in-Arrow.body c.alone.new.slots c.alone-in-Arrow.new.slots (arrow-now c.args.exp.now c.in-Arrow.test c.in-Arrow.body c.deref-in-Arrow.result.now c.deref-in-Arrow-2.result.now c.in-Arrow.is c.deref-in-Arrow.ensures c.deref-in-Arrow-2.ensures) (c.in_ok-behind-in-Arrow.ensures ∙ ap (λ z. behind_exp (site_of c.args.site.now) (exp_tree z)) (c.deref.ensures ∙ sym c.deref-in-Arrow.ensures)) c.in_ok-test-in-Arrow.ensures.is c.in_ok-body-in-Arrow.ensures.is;
  helpers = two-helpers (map pred_tree c.args.helpers.now.items) (map pred_tree c.alone.new.helpers.items) (map pred_tree c.alone-in-Arrow.new.helpers.items) (goal_helpers (site_of c.args.site.now) (exp_tree c.deref-in-Arrow.result.now)) (goal_helpers (site_of c.in_ok-behind-in-Arrow.behind) (exp_tree c.deref-in-Arrow-2.result.now)) (goal_helpers (site_of c.args.site.now) (exp_tree c.args.exp.now)) (helpers-arrow (site_of c.args.site.now) (site_of c.in_ok-behind-in-Arrow.behind) (exp_tree c.args.exp.now) (exp_tree c.deref-in-Arrow.result.now) (exp_tree c.deref-in-Arrow-2.result.now) (arrow-now c.args.exp.now c.in-Arrow.test c.in-Arrow.body c.deref-in-Arrow.result.now c.deref-in-Arrow-2.result.now c.in-Arrow.is c.deref-in-Arrow.ensures c.deref-in-Arrow-2.ensures) (c.in_ok-behind-in-Arrow.ensures ∙ ap (λ z. behind_exp (site_of c.args.site.now) (exp_tree z)) (c.deref.ensures ∙ sym c.deref-in-Arrow.ensures))) c.in_ok-test-in-Arrow.ensures.helpers c.in_ok-body-in-Arrow.ensures.helpers;
}

pub goals::branch_of-returns-in_ok-goal-in_default : goal.goals::branch_of-returns-in_ok-goal-in_default
goals::branch_of-returns-in_ok-goal-in_default t c = record {
  is = goal-branch (site_of c.args.site.now) (exp_tree c.args.exp.now) c.args.slots.now c.in_ok-goal-in_default.goal c.alone-in_default.new.slots (no-arrow (site_of c.args.site.now) c.args.exp.now c.in_default.not-Arrow) c.in_ok-goal-in_default.ensures.is;
  helpers = c.in_ok-goal-in_default.ensures.helpers;
}

pub goals::push_goal-returns-in-Atom : goal.goals::push_goal-returns-in-Atom
goals::push_goal-returns-in-Atom t c = IfOk-weaker c.push_made.result _ _ (λ _ so.
    record {
      is = put-atom (site_of c.args.site.now) (exp_tree c.args.exp.now) c.in-Atom.name c.as_str.result.now c.args.slots.now c.args.slots.now c.args.goals.now.items c.push_made.new.goals.items (atom_tree c.as_str.result.now) (atom-now c.args.exp.now c.in-Atom.name c.in-Atom.is) c.as_str.ensures refl (put-as-made c.atom_goal.result (atom_tree c.as_str.result.now) c.args.goals.now.items c.push_made.new.goals.items so c.atom_goal.ensures) refl;
      helpers = no-helpers (map pred_tree c.args.helpers.now.items) (goal_helpers (site_of c.args.site.now) (exp_tree c.args.exp.now)) (helpers-atom (site_of c.args.site.now) (exp_tree c.args.exp.now) c.in-Atom.name (atom-now c.args.exp.now c.in-Atom.name c.in-Atom.is));
    }) c.push_made.ensures

pub goals::push_goal-returns-in-Call : goal.goals::push_goal-returns-in-Call
goals::push_goal-returns-in-Call t c = IfOk-weaker c.push_call.result _ _ (λ _ so.
    record {
      is = goals-as (goal_of (site_of c.args.site.now) (exp_tree c.args.exp.now) c.args.slots.now) (call_as_goal (site_of c.args.site.now) c.as_str-in-Call.result.now (exps_of c.as_slice.result.now) c.args.slots.now) c.args.goals.now.items c.push_call.new.goals.items c.push_call.new.slots (goal-call (site_of c.args.site.now) (exp_tree c.args.exp.now) c.in-Call.name c.as_str-in-Call.result.now (exps_of c.as_slice.result.now) c.args.slots.now (call-now c.args.exp.now c.in-Call.name c.in-Call.args c.as_slice.result.now c.in-Call.is c.as_slice.ensures.value) c.as_str-in-Call.ensures) so.is;
      helpers = same-helpers (map pred_tree c.args.helpers.now.items) (map pred_tree c.push_call.new.helpers.items) (call_goal_helpers (site_of c.args.site.now) c.as_str-in-Call.result.now (exps_of c.as_slice.result.now)) (goal_helpers (site_of c.args.site.now) (exp_tree c.args.exp.now)) (goal-call-helpers (site_of c.args.site.now) (exp_tree c.args.exp.now) c.in-Call.name c.as_str-in-Call.result.now (exps_of c.as_slice.result.now) (call-now c.args.exp.now c.in-Call.name c.in-Call.args c.as_slice.result.now c.in-Call.is c.as_slice.ensures.value) c.as_str-in-Call.ensures) so.helpers;
    }) c.push_call.ensures

pub goals::push_goal-returns-in-And : goal.goals::push_goal-returns-in-And
goals::push_goal-returns-in-And t c = IfOk-weaker c.push_all.result _ _ (λ _ so.
    record {
      is = goals-as (goal_of (site_of c.args.site.now) (exp_tree c.args.exp.now) c.args.slots.now) (all_of (site_of c.args.site.now) (exps_of c.as_slice-in-And.result.now) c.args.slots.now) c.args.goals.now.items c.push_all.new.goals.items c.push_all.new.slots (goal-and (site_of c.args.site.now) (exp_tree c.args.exp.now) (exps_of c.as_slice-in-And.result.now) c.args.slots.now (and-now c.args.exp.now c.in-And.parts c.as_slice-in-And.result.now c.in-And.is c.as_slice-in-And.ensures.value)) so.is;
      helpers = same-helpers (map pred_tree c.args.helpers.now.items) (map pred_tree c.push_all.new.helpers.items) (conjunct_helpers (site_of c.args.site.now) (exps_of c.as_slice-in-And.result.now)) (goal_helpers (site_of c.args.site.now) (exp_tree c.args.exp.now)) (helpers-and (site_of c.args.site.now) (exp_tree c.args.exp.now) (exps_of c.as_slice-in-And.result.now) (and-now c.args.exp.now c.in-And.parts c.as_slice-in-And.result.now c.in-And.is c.as_slice-in-And.ensures.value)) so.helpers;
    }) c.push_all.ensures

pub goals::push_goal-returns-in-Or : goal.goals::push_goal-returns-in-Or
goals::push_goal-returns-in-Or t c = IfOk-weaker c.push_any.result _ _ (λ _ so.
    put-as (site_of c.args.site.now) (exp_tree c.args.exp.now) (ExpTree.or (exps_of c.as_slice-in-Or.result.now)) c.args.slots.now c.push_any.new.slots c.args.goals.now.items c.push_any.new.goals.items c.args.helpers.now.items c.push_any.new.helpers.items
    (or-now c.args.exp.now c.in-Or.parts c.as_slice-in-Or.result.now c.in-Or.is c.as_slice-in-Or.ensures.value) so) c.push_any.ensures

pub goals::push_any-returns : goal.goals::push_any-returns
goals::push_any-returns t c = IfOk-weaker c.push_made.result _ _ (λ _ so.
    record {
      is = put-or (site_of c.args.site.now) (ExpTree.or (exps_of c.args.exps.now)) (exps_of c.args.exps.now) c.args.slots.now c.branches.new.slots c.in_ok-branches.branches.items c.args.goals.now.items c.push_made.new.goals.items (either_of (closed c.in_ok-branches.branches.items [])) refl c.in_ok-branches.ensures.is refl (put-as-made c.closed.result (either_of (closed c.in_ok-branches.branches.items [])) c.args.goals.now.items c.push_made.new.goals.items so c.closed.ensures);
      helpers = same-helpers (map pred_tree c.args.helpers.now.items) (map pred_tree c.branches.new.helpers.items) (conjunct_helpers (site_of c.args.site.now) (exps_of c.args.exps.now)) (goal_helpers (site_of c.args.site.now) (ExpTree.or (exps_of c.args.exps.now))) (helpers-or (site_of c.args.site.now) (ExpTree.or (exps_of c.args.exps.now)) (exps_of c.args.exps.now) refl) c.in_ok-branches.ensures.helpers;
    }) c.push_made.ensures

pub goals::push_goal-returns-in-If : goal.goals::push_goal-returns-in-If
goals::push_goal-returns-in-If t c = IfOk-weaker c.push_if.result _ _ (λ _ so. so (record { parts = c.in-If.field-0; other = c.in-If.field-1; is = c.in-If.is })) c.push_if.ensures

pub goals::push_goal-returns-in-Arrow : goal.goals::push_goal-returns-in-Arrow
goals::push_goal-returns-in-Arrow t c = IfOk-weaker c.push_aside.result _ _ (λ _ so. so (record { test = c.in-Arrow.field-0; body = c.in-Arrow.field-1; is = c.in-Arrow.is })) c.push_aside.ensures

pub goals::push_goal-returns-in-Foreach : goal.goals::push_goal-returns-in-Foreach
goals::push_goal-returns-in-Foreach t c = IfOk-weaker c.push_foreach.result _ _ (λ _ so. so (record { units = c.in-Foreach.field-0; body = c.in-Foreach.field-1; is = c.in-Foreach.is })) c.push_foreach.ensures

pub goals::push_goal-returns-in-While : goal.goals::push_goal-returns-in-While
goals::push_goal-returns-in-While t c = IfOk-weaker c.push_while.result _ _ (λ _ so. so (record { test = c.in-While.field-0; body = c.in-While.field-1; is = c.in-While.is })) c.push_while.ensures

pub goals::push_goal-returns-in-DoWhile : goal.goals::push_goal-returns-in-DoWhile
goals::push_goal-returns-in-DoWhile t c = IfOk-weaker c.push_do.result _ _ (λ _ so. so (record { body = c.in-DoWhile.field-0; test = c.in-DoWhile.field-1; is = c.in-DoWhile.is })) c.push_do.ensures

pub goals::push_if-returns-in_ok-push_goal-in-Some : goal.goals::push_if-returns-in_ok-push_goal-in-Some
goals::push_if-returns-in_ok-push_goal-in-Some t c = IfOk-weaker c.push_chosen.result _ _ (λ _ so f.
    record {
      is = put-if_else (site_of c.args.site.now) (site_of c.in_ok-behind-in-Some.behind) (exp_tree c.args.exp.now) (branches_in c.as_slice.result.now) (exp_tree c.deref.result.now) c.args.slots.now c.conditions.new.slots c.push_goal.new.slots c.in_ok-conditions-in-Some.conditions.items c.new-last.result.items c.push_goal.new.goals.items c.args.goals.now.items c.push_chosen.new.goals.items
          (if_else-now c.args.exp.now c.in-If.parts c.in-If.other c.in-Some.other c.as_slice.result.now c.deref.result.now c.in-If.is c.in-Some.is c.as_slice.ensures.value c.deref.ensures) c.in_ok-conditions-in-Some.ensures.is (c.in_ok-behind-in-Some.ensures ∙ ap (λ xs. behind_site (site_of c.args.site.now) (places_of_branches (branches_in xs)) (helpers_in_branches (branches_in xs))) (c.as_slice-in-Some.ensures.value ∙ sym c.as_slice.ensures.value)) c.new-last.ensures.items c.in_ok-push_goal-in-Some.ensures.is so;
      helpers = two-helpers (map pred_tree c.args.helpers.now.items) (map pred_tree c.conditions.new.helpers.items) (map pred_tree c.push_goal.new.helpers.items) (branch_helpers (site_of c.args.site.now) (branches_in c.as_slice.result.now)) (goal_helpers (site_of c.in_ok-behind-in-Some.behind) (exp_tree c.deref.result.now)) (goal_helpers (site_of c.args.site.now) (exp_tree c.args.exp.now)) (helpers-if_else (site_of c.args.site.now) (site_of c.in_ok-behind-in-Some.behind) (exp_tree c.args.exp.now) (branches_in c.as_slice.result.now) (exp_tree c.deref.result.now) (if_else-now c.args.exp.now c.in-If.parts c.in-If.other c.in-Some.other c.as_slice.result.now c.deref.result.now c.in-If.is c.in-Some.is c.as_slice.ensures.value c.deref.ensures) (c.in_ok-behind-in-Some.ensures ∙ ap (λ xs. behind_site (site_of c.args.site.now) (places_of_branches (branches_in xs)) (helpers_in_branches (branches_in xs))) (c.as_slice-in-Some.ensures.value ∙ sym c.as_slice.ensures.value))) c.in_ok-conditions-in-Some.ensures.helpers c.in_ok-push_goal-in-Some.ensures.helpers;
    }) c.push_chosen.ensures

pub goals::push_if-returns-in_ok-last-in-None : goal.goals::push_if-returns-in_ok-last-in-None
goals::push_if-returns-in_ok-last-in-None t c = IfOk-weaker c.push_chosen-in-None.result _ _ (λ _ so f.
    record {
      is = put-if_then (site_of c.args.site.now) (exp_tree c.args.exp.now) (branches_in c.as_slice-in-None.result.now) c.args.slots.now c.conditions-in-None.new.slots c.in_ok-conditions-in-None.conditions.items [] c.in_ok-last-in-None.last.items c.args.goals.now.items c.push_chosen-in-None.new.goals.items GoalTree.truth
          (if_then-now c.args.exp.now c.in-If.parts c.in-If.other c.as_slice-in-None.result.now c.in-If.is c.in-None.is c.as_slice-in-None.ensures.value) c.in_ok-conditions-in-None.ensures.is refl refl c.in_ok-last-in-None.ensures so;
      helpers = same-helpers (map pred_tree c.args.helpers.now.items) (map pred_tree c.conditions-in-None.new.helpers.items) (branch_helpers (site_of c.args.site.now) (branches_in c.as_slice-in-None.result.now)) (goal_helpers (site_of c.args.site.now) (exp_tree c.args.exp.now)) (helpers-if_then (site_of c.args.site.now) (exp_tree c.args.exp.now) (branches_in c.as_slice-in-None.result.now) (if_then-now c.args.exp.now c.in-If.parts c.in-If.other c.as_slice-in-None.result.now c.in-If.is c.in-None.is c.as_slice-in-None.ensures.value)) c.in_ok-conditions-in-None.ensures.helpers;
    }) c.push_chosen-in-None.ensures

pub goals::push_if-returns-in_default : goal.goals::push_if-returns-in_default
goals::push_if-returns-in_default t c = IfOk-weaker c.push_fail.result _ _ (λ _ so f. absurd (c.in_default.not-If f.parts f.other f.is)) c.push_fail.ensures

pub goals::push_goal-returns-in-Var : goal.goals::push_goal-returns-in-Var
goals::push_goal-returns-in-Var t c = never-as (site_of c.args.site.now) c.args.exp.now (e.Var c.in-Var.field-0) c.args.slots.now c.args.goals.now.items c.push_fail.new.goals.items c.args.helpers.now.items c.push_fail.result c.in-Var.is (never-var (site_of c.args.site.now) c.in-Var.field-0 c.args.slots.now) (idle-var (site_of c.args.site.now) c.in-Var.field-0) c.push_fail.ensures

pub goals::push_goal-returns-in-Int : goal.goals::push_goal-returns-in-Int
goals::push_goal-returns-in-Int t c = never-as (site_of c.args.site.now) c.args.exp.now (e.Int c.in-Int.field-0) c.args.slots.now c.args.goals.now.items c.push_fail-in-Int.new.goals.items c.args.helpers.now.items c.push_fail-in-Int.result c.in-Int.is (never-int (site_of c.args.site.now) c.in-Int.field-0 c.args.slots.now) (idle-int (site_of c.args.site.now) c.in-Int.field-0) c.push_fail-in-Int.ensures

pub goals::push_goal-returns-in-Str : goal.goals::push_goal-returns-in-Str
goals::push_goal-returns-in-Str t c = never-as (site_of c.args.site.now) c.args.exp.now (e.Str c.in-Str.field-0) c.args.slots.now c.args.goals.now.items c.push_fail-in-Str.new.goals.items c.args.helpers.now.items c.push_fail-in-Str.result c.in-Str.is (never-str (site_of c.args.site.now) c.in-Str.field-0 c.args.slots.now) (idle-str (site_of c.args.site.now) c.in-Str.field-0) c.push_fail-in-Str.ensures

pub goals::push_goal-returns-in-List : goal.goals::push_goal-returns-in-List
goals::push_goal-returns-in-List t c = never-as (site_of c.args.site.now) c.args.exp.now (e.List c.in-List.field-0 c.in-List.field-1) c.args.slots.now c.args.goals.now.items c.push_fail-in-List.new.goals.items c.args.helpers.now.items c.push_fail-in-List.result c.in-List.is (never-list (site_of c.args.site.now) c.in-List.field-0 c.in-List.field-1 c.args.slots.now) (idle-list (site_of c.args.site.now) c.in-List.field-0 c.in-List.field-1) c.push_fail-in-List.ensures

pub goals::push_goal-returns-in-Array : goal.goals::push_goal-returns-in-Array
goals::push_goal-returns-in-Array t c = never-as (site_of c.args.site.now) c.args.exp.now (e.Array c.in-Array.field-0) c.args.slots.now c.args.goals.now.items c.push_fail-in-Array.new.goals.items c.args.helpers.now.items c.push_fail-in-Array.result c.in-Array.is (never-array (site_of c.args.site.now) c.in-Array.field-0 c.args.slots.now) (idle-array (site_of c.args.site.now) c.in-Array.field-0) c.push_fail-in-Array.ensures

pub goals::push_goal-returns-in-Quote : goal.goals::push_goal-returns-in-Quote
goals::push_goal-returns-in-Quote t c = never-as (site_of c.args.site.now) c.args.exp.now (e.Quote c.in-Quote.field-0) c.args.slots.now c.args.goals.now.items c.push_fail-in-Quote.new.goals.items c.args.helpers.now.items c.push_fail-in-Quote.result c.in-Quote.is (never-quote (site_of c.args.site.now) c.in-Quote.field-0 c.args.slots.now) (idle-quote (site_of c.args.site.now) c.in-Quote.field-0) c.push_fail-in-Quote.ensures

pub goals::push_goal-returns-in-Index : goal.goals::push_goal-returns-in-Index
goals::push_goal-returns-in-Index t c = never-as (site_of c.args.site.now) c.args.exp.now (e.Index c.in-Index.field-0 c.in-Index.field-1) c.args.slots.now c.args.goals.now.items c.push_fail-in-Index.new.goals.items c.args.helpers.now.items c.push_fail-in-Index.result c.in-Index.is (never-index (site_of c.args.site.now) c.in-Index.field-0 c.in-Index.field-1 c.args.slots.now) (idle-index (site_of c.args.site.now) c.in-Index.field-0 c.in-Index.field-1) c.push_fail-in-Index.ensures

pub goals::push_goal-returns-in-Range : goal.goals::push_goal-returns-in-Range
goals::push_goal-returns-in-Range t c = never-as (site_of c.args.site.now) c.args.exp.now (e.Range c.in-Range.field-0 c.in-Range.field-1 c.in-Range.field-2) c.args.slots.now c.args.goals.now.items c.push_fail-in-Range.new.goals.items c.args.helpers.now.items c.push_fail-in-Range.result c.in-Range.is (never-range (site_of c.args.site.now) c.in-Range.field-0 c.in-Range.field-1 c.in-Range.field-2 c.args.slots.now) (idle-range (site_of c.args.site.now) c.in-Range.field-0 c.in-Range.field-1 c.in-Range.field-2) c.push_fail-in-Range.ensures

pub goals::push_goal-returns-in-At : goal.goals::push_goal-returns-in-At
goals::push_goal-returns-in-At t c = never-as (site_of c.args.site.now) c.args.exp.now (e.At c.in-At.field-0 c.in-At.field-1) c.args.slots.now c.args.goals.now.items c.push_fail-in-At.new.goals.items c.args.helpers.now.items c.push_fail-in-At.result c.in-At.is (never-at (site_of c.args.site.now) c.in-At.field-0 c.in-At.field-1 c.args.slots.now) (idle-at (site_of c.args.site.now) c.in-At.field-0 c.in-At.field-1) c.push_fail-in-At.ensures

pub goals::push_goal-returns-in-Collect : goal.goals::push_goal-returns-in-Collect
goals::push_goal-returns-in-Collect t c = never-as (site_of c.args.site.now) c.args.exp.now (e.Collect c.in-Collect.field-0 c.in-Collect.field-1 c.in-Collect.field-2) c.args.slots.now c.args.goals.now.items c.push_fail-in-Collect.new.goals.items c.args.helpers.now.items c.push_fail-in-Collect.result c.in-Collect.is (never-collect (site_of c.args.site.now) c.in-Collect.field-0 c.in-Collect.field-1 c.in-Collect.field-2 c.args.slots.now) (idle-collect (site_of c.args.site.now) c.in-Collect.field-0 c.in-Collect.field-1 c.in-Collect.field-2) c.push_fail-in-Collect.ensures

pub goals::push_aside-returns-in_ok-push_goal-in-Arrow-2 : goal.goals::push_aside-returns-in_ok-push_goal-in-Arrow-2
goals::push_aside-returns-in_ok-push_goal-in-Arrow-2 t c = IfOk-weaker c.push_fail.result _ _ (λ _ so f.
    record {
      is = put-never (goal_of (site_of c.args.site.now) (exp_tree c.args.exp.now) c.args.slots.now) c.args.slots.now c.args.slots.now c.args.goals.now.items c.push_fail.new.goals.items (never-arrow (site_of c.args.site.now) (exp_tree c.args.exp.now) (exp_tree c.deref.result.now) (exp_tree c.deref-in-Arrow-2.result.now) c.args.slots.now (arrow-now c.args.exp.now c.in-Arrow.test c.in-Arrow.body c.deref.result.now c.deref-in-Arrow-2.result.now c.in-Arrow.is c.deref.ensures c.deref-in-Arrow-2.ensures)) so refl;
      helpers = two-helpers (map pred_tree c.args.helpers.now.items) (map pred_tree c.push_goal.new.helpers.items) (map pred_tree c.push_goal-in-Arrow.new.helpers.items) (goal_helpers (site_of c.args.site.now) (exp_tree c.deref.result.now)) (goal_helpers (site_of c.in_ok-behind-in-Arrow.behind) (exp_tree c.deref-in-Arrow-2.result.now)) (goal_helpers (site_of c.args.site.now) (exp_tree c.args.exp.now)) (helpers-arrow (site_of c.args.site.now) (site_of c.in_ok-behind-in-Arrow.behind) (exp_tree c.args.exp.now) (exp_tree c.deref.result.now) (exp_tree c.deref-in-Arrow-2.result.now) (arrow-now c.args.exp.now c.in-Arrow.test c.in-Arrow.body c.deref.result.now c.deref-in-Arrow-2.result.now c.in-Arrow.is c.deref.ensures c.deref-in-Arrow-2.ensures) (c.in_ok-behind-in-Arrow.ensures ∙ ap (λ z. behind_exp (site_of c.args.site.now) (exp_tree z)) (c.deref-in-Arrow.ensures ∙ sym c.deref.ensures))) c.in_ok-push_goal-in-Arrow.ensures.helpers c.in_ok-push_goal-in-Arrow-2.ensures.helpers;
    }) c.push_fail.ensures

pub goals::push_aside-returns-in_default : goal.goals::push_aside-returns-in_default
goals::push_aside-returns-in_default t c = IfOk-weaker c.push_fail-in_default.result _ _ (λ _ so f. absurd (c.in_default.not-Arrow f.test f.body f.is)) c.push_fail-in_default.ensures

pub turns::push_while-returns-in_ok-begun-in-While : goal.turns::push_while-returns-in_ok-begun-in-While
turns::push_while-returns-in_ok-begun-in-While t c = IfOk-weaker c.both-in-While.result _ _ (λ _ w f.
    while-whole (site_of c.args.site.now) (exp_tree c.args.exp.now) c.deref.result.now c.deref-in-While.result.now c.deref-in-While-2.result.now c.deref-in-While-3.result.now c.in_ok-begun-in-While.begun c.args.slots.now c.end_while-put.new.slots c.args.goals.now.items c.end_while-put.new.goals.items
    c.push_goal-one.new.goals.items c.push_goal-other.new.goals.items c.push_goal-one.new.slots c.push_goal-other.new.slots c.args.helpers.now.items c.push_goal-one.new.helpers.items c.push_goal-other.new.helpers.items c.end_while-put.new.helpers.items
    (while-now c.args.exp.now c.in-While.test c.in-While.body c.deref-in-While-2.result.now c.deref-in-While-3.result.now c.in-While.is c.deref-in-While-2.ensures c.deref-in-While-3.ensures)
    (c.deref.ensures ∙ sym c.deref-in-While-2.ensures) (c.deref-in-While.ensures ∙ sym c.deref-in-While-3.ensures)
    c.in_ok-begun-in-While.ensures (did c.push_goal-one.result _ w.0 c.push_goal-one.ensures) (did c.push_goal-other.result _ (did c.both.result _ w.1 c.both.ensures).0 c.push_goal-other.ensures) (did c.end_while-put.result _ (did c.both.result _ w.1 c.both.ensures).1 c.end_while-put.ensures)) c.both-in-While.ensures

pub turns::push_while-returns-in_default : goal.turns::push_while-returns-in_default
turns::push_while-returns-in_default t c = IfOk-weaker c.push_fail.result _ _ (λ _ so f. absurd (c.in_default.not-While f.test f.body f.is)) c.push_fail.ensures

pub turns::push_do-returns-in_ok-begun-in-DoWhile : goal.turns::push_do-returns-in_ok-begun-in-DoWhile
turns::push_do-returns-in_ok-begun-in-DoWhile t c = IfOk-weaker c.both-in-DoWhile.result _ _ (λ _ w f.
    do-whole (site_of c.args.site.now) (exp_tree c.args.exp.now) c.deref.result.now c.deref-in-DoWhile.result.now c.deref-in-DoWhile-2.result.now c.deref-in-DoWhile-3.result.now c.in_ok-begun-in-DoWhile.begun c.args.slots.now c.end_do-put.new.slots c.args.goals.now.items c.end_do-put.new.goals.items
    c.push_goal-one.new.goals.items c.push_goal-other.new.goals.items c.push_goal-one.new.slots c.push_goal-other.new.slots c.args.helpers.now.items c.push_goal-one.new.helpers.items c.push_goal-other.new.helpers.items c.end_do-put.new.helpers.items
    (do-now c.args.exp.now c.in-DoWhile.body c.in-DoWhile.test c.deref-in-DoWhile-2.result.now c.deref-in-DoWhile-3.result.now c.in-DoWhile.is c.deref-in-DoWhile-2.ensures c.deref-in-DoWhile-3.ensures)
    (c.deref.ensures ∙ sym c.deref-in-DoWhile-2.ensures) (c.deref-in-DoWhile.ensures ∙ sym c.deref-in-DoWhile-3.ensures)
    c.in_ok-begun-in-DoWhile.ensures (did c.push_goal-one.result _ w.0 c.push_goal-one.ensures) (did c.push_goal-other.result _ (did c.both.result _ w.1 c.both.ensures).0 c.push_goal-other.ensures) (did c.end_do-put.result _ (did c.both.result _ w.1 c.both.ensures).1 c.end_do-put.ensures)) c.both-in-DoWhile.ensures

pub turns::push_do-returns-in_default : goal.turns::push_do-returns-in_default
turns::push_do-returns-in_default t c = IfOk-weaker c.push_fail.result _ _ (λ _ so f. absurd (c.in_default.not-DoWhile f.body f.test f.is)) c.push_fail.ensures

pub calls::push_call-returns-in_ok-goal-in-Negation : goal.calls::push_call-returns-in_ok-goal-in-Negation
calls::push_call-returns-in_ok-goal-in-Negation t c = IfOk-weaker c.push_made.result _ _ (λ _ so.
    let found : Found c.args.name.now c.args.args.now (length c.args.args.now) c.call_form.result = (record { same = refl; has = c.call_form.ensures.has; is = c.call_form.ensures.is }) in
    record {
      is = put-not (site_of c.args.site.now) c.args.name.now c.args.args.now (length c.args.args.now) c.call_form.result c.index-args-0.result c.args.slots.now c.alone.new.slots c.args.goals.now.items c.push_made.new.goals.items c.in_ok-goal-in-Negation.goal (GoalTree.not c.in_ok-goal-in-Negation.goal) found c.in-Negation.is c.index-args-0.is c.in_ok-goal-in-Negation.ensures.is refl (put-as-made c.not.result (GoalTree.not c.in_ok-goal-in-Negation.goal) c.args.goals.now.items c.push_made.new.goals.items so c.not.ensures.ok);
      helpers = same-helpers (map pred_tree c.args.helpers.now.items) (map pred_tree c.alone.new.helpers.items) (goal_helpers (site_of c.args.site.now) (exp_tree c.index-args-0.result)) (call_goal_helpers (site_of c.args.site.now) c.args.name.now (exps_of c.args.args.now)) (helpers-not (site_of c.args.site.now) c.args.name.now c.args.args.now (length c.args.args.now) c.call_form.result c.index-args-0.result found c.in-Negation.is c.index-args-0.is) c.in_ok-goal-in-Negation.ensures.helpers;
    }) c.push_made.ensures

pub calls::push_call-returns-in_ok-goal-in-Once : goal.calls::push_call-returns-in_ok-goal-in-Once
calls::push_call-returns-in_ok-goal-in-Once t c = IfOk-weaker c.push_made-in-Once.result _ _ (λ _ so.
    let found : Found c.args.name.now c.args.args.now (length c.args.args.now) c.call_form.result = (record { same = refl; has = c.call_form.ensures.has; is = c.call_form.ensures.is }) in
    record {
      is = put-once (site_of c.args.site.now) c.args.name.now c.args.args.now (length c.args.args.now) c.call_form.result c.index-args-0-in-Once.result c.args.slots.now c.alone-in-Once.new.slots c.args.goals.now.items c.push_made-in-Once.new.goals.items c.in_ok-goal-in-Once.goal (GoalTree.once c.in_ok-goal-in-Once.goal) found c.in-Once.is c.index-args-0-in-Once.is c.in_ok-goal-in-Once.ensures.is refl (put-as-made c.once.result (GoalTree.once c.in_ok-goal-in-Once.goal) c.args.goals.now.items c.push_made-in-Once.new.goals.items so c.once.ensures.ok);
      helpers = same-helpers (map pred_tree c.args.helpers.now.items) (map pred_tree c.alone-in-Once.new.helpers.items) (goal_helpers (site_of c.args.site.now) (exp_tree c.index-args-0-in-Once.result)) (call_goal_helpers (site_of c.args.site.now) c.args.name.now (exps_of c.args.args.now)) (helpers-once (site_of c.args.site.now) c.args.name.now c.args.args.now (length c.args.args.now) c.call_form.result c.index-args-0-in-Once.result found c.in-Once.is c.index-args-0-in-Once.is) c.in_ok-goal-in-Once.ensures.helpers;
    }) c.push_made-in-Once.ensures

pub calls::push_call-returns-in-Assignment : goal.calls::push_call-returns-in-Assignment
calls::push_call-returns-in-Assignment t c = IfOk-weaker c.push_assignment.result _ _ (λ _ so.
    let found : Found c.args.name.now c.args.args.now (length c.args.args.now) c.call_form.result = (record { same = refl; has = c.call_form.ensures.has; is = c.call_form.ensures.is }) in
    record {
      is = goals-as (call_as_goal (site_of c.args.site.now) c.args.name.now (exps_of c.args.args.now) c.args.slots.now) (assigned_to (exp_tree c.index-args-0-in-Assignment.result) (value_of (behind_exp (site_of c.args.site.now) (exp_tree c.index-args-0-in-Assignment.result)) (exp_tree c.index-args-1.result) c.args.slots.now)) c.args.goals.now.items c.push_assignment.new.goals.items c.push_assignment.new.slots
          (assigned-call (site_of c.args.site.now) c.args.name.now c.args.args.now (length c.args.args.now) c.call_form.result c.index-args-0-in-Assignment.result c.index-args-1.result c.args.slots.now found c.in-Assignment.is c.index-args-0-in-Assignment.is c.index-args-1.is) so.is;
      helpers = same-helpers (map pred_tree c.args.helpers.now.items) (map pred_tree c.push_assignment.new.helpers.items) (value_helpers (behind_exp (site_of c.args.site.now) (exp_tree c.index-args-0-in-Assignment.result)) (exp_tree c.index-args-1.result)) (call_goal_helpers (site_of c.args.site.now) c.args.name.now (exps_of c.args.args.now)) (helpers-assigned (site_of c.args.site.now) c.args.name.now c.args.args.now (length c.args.args.now) c.call_form.result c.index-args-0-in-Assignment.result c.index-args-1.result found c.in-Assignment.is c.index-args-0-in-Assignment.is c.index-args-1.is) so.helpers;
    }) c.push_assignment.ensures

pub calls::push_assignment-returns : goal.calls::push_assignment-returns
calls::push_assignment-returns t c = IfOk-weaker c.push_assigned.result _ _ (λ _ so.
    record {
      is = assigned-value (site_of c.args.site.now) (site_of c.in_ok-behind.behind) (exp_tree c.args.to.now) (exp_tree c.args.from.now) c.args.slots.now c.value.new.slots c.push_assigned.new.slots c.args.goals.now.items c.value.new.goals.items c.push_assigned.new.goals.items c.in_ok-term.term c.in_ok-behind.ensures c.in_ok-term.ensures.is so;
      helpers = same-helpers (map pred_tree c.args.helpers.now.items) (map pred_tree c.value.new.helpers.items) (value_helpers (site_of c.in_ok-behind.behind) (exp_tree c.args.from.now)) (value_helpers (behind_exp (site_of c.args.site.now) (exp_tree c.args.to.now)) (exp_tree c.args.from.now)) (ap (λ z. value_helpers z (exp_tree c.args.from.now)) (sym c.in_ok-behind.ensures)) c.in_ok-term.ensures.helpers;
    }) c.push_assigned.ensures

pub calls::push_call-returns-in-Catch : goal.calls::push_call-returns-in-Catch
calls::push_call-returns-in-Catch t c = IfOk-weaker c.push_catch.result _ _ (λ _ so. so (subst (λ f. HasCount f (length c.args.args.now)) c.in-Catch.is c.call_form.ensures.has) (subst (λ f. IsForm f (form_of c.args.name.now (length c.args.args.now))) c.in-Catch.is c.call_form.ensures.is)) c.push_catch.ensures

pub calls::push_catch-returns-then-args-lt3 : goal.calls::push_catch-returns-then-args-lt3
calls::push_catch-returns-then-args-lt3 t c = IfOk-weaker c.push_fail.result _ _ (λ _ so count form. absurd (omega (arith, count, c.if-args-lt3.true))) c.push_fail.ensures

pub calls::push_catch-returns : goal.calls::push_catch-returns
calls::push_catch-returns t c = IfOk-weaker c.push_made.result _ _ (λ _ so count form.
    let found : Found c.args.name.now c.args.args.now (length c.args.args.now) Catch = (record { same = refl; has = count; is = form }) in
    record {
      is = put-caught (site_of c.args.site.now) (site_of c.in_ok-sites.sites.ball) (site_of c.in_ok-sites.sites.goal) (site_of c.in_ok-sites.sites.handler) c.args.name.now c.args.args.now (length c.args.args.now) Catch c.index-args-0.result c.index-args-1.result c.index-args-2.result c.args.slots.now c.value.new.slots c.alone.new.slots c.alone-2.new.slots c.args.goals.now.items c.value.new.goals.items c.push_made.new.goals.items c.in_ok-term.term c.in_ok-one.one c.in_ok-other.other (GoalTree.catch c.in_ok-one.one c.in_ok-term.term c.in_ok-other.other)
          found refl c.index-args-0.is c.index-args-1.is c.index-args-2.is c.in_ok-sites.ensures.first c.in_ok-sites.ensures.second c.in_ok-sites.ensures.last c.in_ok-term.ensures.is c.in_ok-one.ensures.is c.in_ok-other.ensures.is refl (put-as-made c.catch.result (GoalTree.catch c.in_ok-one.one c.in_ok-term.term c.in_ok-other.other) c.value.new.goals.items c.push_made.new.goals.items so c.catch.ensures.ok);
      helpers = three-helpers (map pred_tree c.args.helpers.now.items) (map pred_tree c.value.new.helpers.items) (map pred_tree c.alone.new.helpers.items) (map pred_tree c.alone-2.new.helpers.items) (value_helpers (site_of c.in_ok-sites.sites.ball) (exp_tree c.index-args-1.result)) (goal_helpers (site_of c.in_ok-sites.sites.goal) (exp_tree c.index-args-0.result)) (goal_helpers (site_of c.in_ok-sites.sites.handler) (exp_tree c.index-args-2.result)) (call_goal_helpers (site_of c.args.site.now) c.args.name.now (exps_of c.args.args.now))
          (helpers-catch (site_of c.args.site.now) c.args.name.now c.args.args.now (length c.args.args.now) Catch c.index-args-0.result c.index-args-1.result c.index-args-2.result found refl c.index-args-0.is c.index-args-1.is c.index-args-2.is ∙ caught-helpers (site_of c.args.site.now) (site_of c.in_ok-sites.sites.ball) (site_of c.in_ok-sites.sites.goal) (site_of c.in_ok-sites.sites.handler) (exp_tree c.index-args-0.result) (exp_tree c.index-args-1.result) (exp_tree c.index-args-2.result) c.in_ok-sites.ensures.first c.in_ok-sites.ensures.second c.in_ok-sites.ensures.last)
          c.in_ok-term.ensures.helpers c.in_ok-one.ensures.helpers c.in_ok-other.ensures.helpers;
    }) c.push_made.ensures

pub calls::push_call-returns-in-Never : goal.calls::push_call-returns-in-Never
calls::push_call-returns-in-Never t c = IfOk-weaker c.push_fail.result _ _ (λ _ so.
    let found : Found c.args.name.now c.args.args.now (length c.args.args.now) c.call_form.result = (record { same = refl; has = c.call_form.ensures.has; is = c.call_form.ensures.is }) in
    record {
      is = put-no-call (site_of c.args.site.now) c.args.name.now c.args.args.now (length c.args.args.now) c.call_form.result c.args.slots.now c.args.slots.now c.args.goals.now.items c.push_fail.new.goals.items found c.in-Never.is so refl;
      helpers = no-helpers (map pred_tree c.args.helpers.now.items) (call_goal_helpers (site_of c.args.site.now) c.args.name.now (exps_of c.args.args.now)) (helpers-never (site_of c.args.site.now) c.args.name.now c.args.args.now (length c.args.args.now) c.call_form.result found c.in-Never.is);
    }) c.push_fail.ensures

pub calls::push_call-returns-in_ok-terms-in-Plain : goal.calls::push_call-returns-in_ok-terms-in-Plain
calls::push_call-returns-in_ok-terms-in-Plain t c = IfOk-weaker c.push_made-in-Plain.result _ _ (λ _ so.
    let found : Found c.args.name.now c.args.args.now (length c.args.args.now) c.call_form.result = (record { same = refl; has = c.call_form.ensures.has; is = c.call_form.ensures.is }) in
    record {
      is = let same : c.deref.result.now ≡ c.in_ok-terms-in-Plain.terms.items = search rules in
          put-plain (site_of c.args.site.now) c.args.name.now c.args.args.now (length c.args.args.now) c.call_form.result (readings_of c.of_goal-readings.result) c.args.slots.now c.values_as.new.slots c.args.goals.now.items c.values_as.new.goals.items c.push_made-in-Plain.new.goals.items c.in_ok-terms-in-Plain.terms.items (GoalTree.call c.args.name.now c.deref.result.now) found c.in-Plain.is c.of_goal-readings.ensures c.in_ok-terms-in-Plain.ensures.is (ap (GoalTree.call c.args.name.now) same) (put-as-made c.call.result (GoalTree.call c.args.name.now c.deref.result.now) c.values_as.new.goals.items c.push_made-in-Plain.new.goals.items so c.call.ensures.ok);
      helpers = same-helpers (map pred_tree c.args.helpers.now.items) (map pred_tree c.values_as.new.helpers.items) (all_helpers (site_of c.args.site.now) (exps_of c.args.args.now)) (call_goal_helpers (site_of c.args.site.now) c.args.name.now (exps_of c.args.args.now)) (helpers-plain (site_of c.args.site.now) c.args.name.now c.args.args.now (length c.args.args.now) c.call_form.result found c.in-Plain.is) c.in_ok-terms-in-Plain.ensures.helpers;
    }) c.push_made-in-Plain.ensures

-- ---- loops over iterators and tests

pub units::open_units-loop-i-init : goal.units::open_units-loop-i-init
units::open_units-loop-i-init t c =
    none-open (site_of c.args.inside.now.site) (ending_of c.args.ending) (inner_in c.args.inner.now) (exps_of c.args.units.now) c.args.inside.now.goals.items c.args.inside.now.slots c.new-opened.result.items (map pred_tree c.args.helpers.now.items) c.new-opened.ensures.items

pub units::open_units-loop-i-preserved : goal.units::open_units-loop-i-preserved
units::open_units-loop-i-preserved t c =
    units-more (site_of c.args.inside.now.site) (ending_of c.args.ending) (inner_in c.args.inner.now) c.args.units.now c.args.inside.now.goals.items c.args.inside.now.slots c.loop-i.opened.items c.push.new.self.items (site_of c.loop-i.inside.site) (site_of c.open_unit.new.inside.site) (ending_of c.loop-i.now) c.loop-i.i c.index-units-i.result
    c.loop-i.inside.goals.items c.loop-i.inside.slots (map pred_tree c.args.helpers.now.items) (map pred_tree c.loop-i.helpers.items) c.in_ok-last.last c.open_unit.new.inside.goals.items c.open_unit.new.inside.slots (map pred_tree c.open_unit.new.helpers.items) c.in_ok-planned.planned
    c.loop-i-test.true c.index-units-i.is c.in_ok-planned.ensures c.in_ok-last.ensures c.in_ok-push.ensures.items c.loop-i.invariant

pub units::open_units-returns : goal.units::open_units-returns
units::open_units-returns t c =
    units-end (site_of c.args.inside.now.site) (ending_of c.args.ending) (inner_in c.args.inner.now) c.args.units.now c.args.inside.now.goals.items c.args.inside.now.slots c.loop-i.opened.items (site_of c.loop-i.inside.site) (ending_of c.loop-i.now) c.loop-i.i c.loop-i.inside.goals.items c.loop-i.inside.slots
    (map pred_tree c.args.helpers.now.items) (map pred_tree c.loop-i.helpers.items) c.loop-i-test.false c.loop-i.invariant

pub units::open_unit-returns-in_ok-test-in-None : goal.units::open_unit-returns-in_ok-test-in-None
units::open_unit-returns-in_ok-test-in-None t c =
    opens-test c.args.planned (site_of c.args.inside.now.site) (site_of c.in_ok-behind-in-None.behind) (exp_tree c.args.unit.now) c.args.inside.now.goals.items c.args.inside.now.slots c.alone.new.slots c.in_ok-test-in-None.test c.replace-before.result c.replace-before.new.dest.items
    (map pred_tree c.args.helpers.now.items) (map pred_tree c.alone.new.helpers.items) c.in-None.is c.in_ok-test-in-None.ensures.is c.in_ok-behind-in-None.ensures (ap (λ v. v.items) c.replace-before.ensures.value) (ap (λ v. v.items) c.replace-before.ensures.after ∙ c.new.ensures.items) c.in_ok-test-in-None.ensures.helpers

pub units::open_unit-returns-in_ok-is_range-in-Some : goal.units::open_unit-returns-in_ok-is_range-in-Some
units::open_unit-returns-in_ok-is_range-in-Some t c =
    opens-iterator c.args.planned (site_of c.args.inside.now.site) (site_of c.in-Some.planned.site) (exp_tree c.args.unit.now) c.args.inside.now.goals.items c.push_gone_over.new.goals.items c.args.inside.now.slots c.replace-slots.new.dest c.push_gone_over.new.slots c.replace-slots.result c.in-Some.planned c.in_ok-is_range-in-Some.is_range c.replace-goals.result
    c.replace-goals.new.dest.items (map pred_tree c.args.helpers.now.items) (map pred_tree c.push_gone_over.new.helpers.items) c.in-Some.is c.in_ok-is_range-in-Some.ensures.is (ap (λ v. v.items) c.replace-goals.ensures.value) c.replace-slots.ensures.value refl c.replace-slots.ensures.after
    (ap (λ v. v.items) c.replace-goals.ensures.after ∙ c.new-in-Some.ensures.items) c.in_ok-is_range-in-Some.ensures.helpers

pub turns::push_foreach-returns-in_ok-begun-in-Foreach : goal.turns::push_foreach-returns-in_ok-begun-in-Foreach
turns::push_foreach-returns-in_ok-begun-in-Foreach t c = IfOk-weaker c.push_begun-put.result _ _ (λ _ so f.
    so f c.args.slots.now (has-begun (site_of c.args.site.now) (exp_tree c.args.exp.now) (exp_tree c.deref.result.now) (exps_of c.as_slice-units.result.now) c.args.slots.now c.in_ok-begun-in-Foreach.begun c.begin_foreach.new.slots
    (foreach-now c.args.exp.now c.in-Foreach.units c.in-Foreach.body c.as_slice-units.result.now c.deref.result.now c.in-Foreach.is c.as_slice-units.ensures.value c.deref.ensures) c.in_ok-begun-in-Foreach.ensures)) c.push_begun-put.ensures

pub turns::push_begun-returns-in_ok-push_goal-in-Foreach : goal.turns::push_begun-returns-in_ok-push_goal-in-Foreach
turns::push_begun-returns-in_ok-push_goal-in-Foreach t c = IfOk-weaker c.end_foreach.result _ _ (λ _ so f ns begun.
    let shape : exp_tree c.args.exp.now ≡ ExpTree.foreach (exps_of c.as_slice.result.now) (exp_tree c.deref.result.now) = foreach-now c.args.exp.now c.in-Foreach.units c.in-Foreach.body c.as_slice.result.now c.deref.result.now c.in-Foreach.is c.as_slice.ensures.value c.deref.ensures in
    foreach-whole (site_of c.args.site.now) (exp_tree c.args.exp.now) (exp_tree c.deref.result.now) (exps_of c.as_slice.result.now) c.args.begun.now ns c.args.slots.now c.in_ok-opened-in-Foreach.opened.items (site_of c.open_units.new.inside.site) c.open_units.new.inside.goals.items
    c.push_goal.new.goals.items c.args.goals.now.items c.end_foreach.new.goals.items c.open_units.new.inside.slots c.push_goal.new.slots c.end_foreach.new.slots c.args.helpers.now.items c.end_foreach.new.helpers.items (map pred_tree c.open_units.new.helpers.items) (map pred_tree c.push_goal.new.helpers.items)
    shape (begun-of (site_of c.args.site.now) (exp_tree c.args.exp.now) (exp_tree c.deref.result.now) (exps_of c.as_slice.result.now) ns c.args.begun.now c.args.slots.now shape begun)
    c.in_ok-opened-in-Foreach.ensures c.in_ok-push_goal-in-Foreach.ensures.is c.in_ok-push_goal-in-Foreach.ensures.helpers so) c.end_foreach.ensures

pub turns::push_begun-returns-in_default : goal.turns::push_begun-returns-in_default
turns::push_begun-returns-in_default t c = IfOk-weaker c.push_fail.result _ _ (λ _ so f ns begun. absurd (c.in_default.not-Foreach f.units f.body f.is)) c.push_fail.ensures

pub turns::push_foreach-returns-in_default : goal.turns::push_foreach-returns-in_default
turns::push_foreach-returns-in_default t c = IfOk-weaker c.push_fail.result _ _ (λ _ so f. absurd (c.in_default.not-Foreach f.units f.body f.is)) c.push_fail.ensures

pub structures::collected-returns-in_ok-begun-in-Collect : goal.structures::collected-returns-in_ok-begun-in-Collect
structures::collected-returns-in_ok-begun-in-Collect t c = IfOk-weaker c.gather-list.result _ _ (λ list so f.
    so f (site_of c.args.site.now) c.args.slots.now c.args.goals.now.items (is-gathering (site_of c.args.site.now) (exp_tree c.args.exp.now) (exp_tree c.deref.result.now) (exps_of c.as_slice-units.result.now) c.in-Collect.is_array c.args.slots.now c.args.goals.now.items c.in_ok-begun-in-Collect.begun c.begin_comprehension.new.slots c.begin_comprehension.new.goals.items
    (collect-now c.args.exp.now c.in-Collect.is_array c.in-Collect.item c.in-Collect.units c.as_slice-units.result.now c.deref.result.now c.in-Collect.is c.as_slice-units.ensures.value c.deref.ensures) c.in_ok-begun-in-Collect.ensures)) c.gather-list.ensures

pub structures::gather-returns-in_ok-term-in-Collect : goal.structures::gather-returns-in_ok-term-in-Collect
structures::gather-returns-in_ok-term-in-Collect t c = IfOk-weaker c.end_comprehension.result _ _ (λ list so f s ns before gathers.
    let shape : exp_tree c.args.exp.now ≡ ExpTree.collect c.in-Collect.field-0 (exp_tree c.deref.result.now) (exps_of c.as_slice.result.now) = collect-now c.args.exp.now c.in-Collect.field-0 c.in-Collect.item c.in-Collect.units c.as_slice.result.now c.deref.result.now c.in-Collect.is c.as_slice.ensures.value c.deref.ensures in
    collect-whole s (exp_tree c.args.exp.now) (exp_tree c.deref.result.now) (exps_of c.as_slice.result.now) c.in-Collect.field-0 c.args.begun.now ns c.args.slots.now before c.args.goals.now.items c.end_comprehension.new.goals.items
    c.in_ok-opened-in-Collect.opened.items (site_of c.open_units.new.inside.site) c.open_units.new.inside.goals.items c.value.new.goals.items c.open_units.new.inside.slots c.value.new.slots c.in_ok-term-in-Collect.term list c.end_comprehension.new.slots c.args.helpers.now.items c.end_comprehension.new.helpers.items
    (map pred_tree c.open_units.new.helpers.items) (map pred_tree c.value.new.helpers.items)
    shape (gathers-of s (exp_tree c.args.exp.now) (exp_tree c.deref.result.now) (exps_of c.as_slice.result.now) c.in-Collect.field-0 ns before c.args.begun.now c.args.slots.now c.args.goals.now.items shape gathers)
    c.in_ok-opened-in-Collect.ensures c.in_ok-term-in-Collect.ensures.is c.in_ok-term-in-Collect.ensures.helpers so) c.end_comprehension.ensures

pub structures::gather-returns-in_default : goal.structures::gather-returns-in_default
structures::gather-returns-in_default t c = IfOk-weaker c.no_value.result _ _ (λ list so f s ns before gathers. absurd (c.in_default.not-Collect f.is_array f.item f.units f.is)) c.no_value.ensures.is

pub structures::collected-returns-in_default : goal.structures::collected-returns-in_default
structures::collected-returns-in_default t c = IfOk-weaker c.no_value.result _ _ (λ _ so f. absurd (c.in_default.not-Collect f.is_array f.item f.units f.is)) c.no_value.ensures.is

-- ---- what is gone over

pub over::push_gone_over-returns-in_ok-push_through-in-Range : goal.over::push_gone_over-returns-in_ok-push_through-in-Range
over::push_gone_over-returns-in_ok-push_through-in-Range t c = record {
  is = over-range (site_of c.args.site.now) (names_in c.as_slice.result.now) (names_in c.as_slice-2.result.now) (loop_of c.args.whole.now) (exp_tree c.args.unit.now) c.in-Range.bounds c.args.slots.now c.push_started.new.slots c.in_ok-found.found c.over_unit.new.slots c.push_through.new.slots
      c.args.goals.now.items c.push_started.new.goals.items c.over_unit.new.goals.items c.push_through.new.goals.items (ap names_in c.as_slice.ensures.value) (ap names_in c.as_slice-2.ensures.value) c.in_ok-push_started.ensures c.in_ok-found.ensures
      (subst (λ (o : Over). IsOver o (site_of c.args.site.now) (exp_tree c.args.unit.now) (lowered c.push_started.new.goals.items c.in_ok-found.found) (lowered c.over_unit.new.goals.items c.over_unit.new.slots)) c.in-Range.is c.in_ok-over.ensures.is) c.in_ok-push_through-in-Range.ensures;
  helpers = c.in_ok-over.ensures.helpers;
}

pub over::push_gone_over-returns-in_ok-push_over-in-Collection : goal.over::push_gone_over-returns-in_ok-push_over-in-Collection
over::push_gone_over-returns-in_ok-push_over-in-Collection t c = record {
  is = over-collection (site_of c.args.site.now) (names_in c.as_slice.result.now) (names_in c.as_slice-2.result.now) (loop_of c.args.whole.now) (exp_tree c.args.unit.now) c.in-Collection.term c.args.slots.now c.push_started.new.slots c.in_ok-found.found c.over_unit.new.slots c.push_over.new.slots
      c.args.goals.now.items c.push_started.new.goals.items c.over_unit.new.goals.items c.push_over.new.goals.items (ap names_in c.as_slice.ensures.value) (ap names_in c.as_slice-2.ensures.value) c.in_ok-push_started.ensures c.in_ok-found.ensures
      (subst (λ (o : Over). IsOver o (site_of c.args.site.now) (exp_tree c.args.unit.now) (lowered c.push_started.new.goals.items c.in_ok-found.found) (lowered c.over_unit.new.goals.items c.over_unit.new.slots)) c.in-Collection.is c.in_ok-over.ensures.is) c.in_ok-push_over-in-Collection.ensures;
  helpers = c.in_ok-over.ensures.helpers;
}

pub over::over_unit-returns-in-Call : goal.over::over_unit-returns-in-Call
over::over_unit-returns-in-Call t c = IfOk-weaker c.over_args.result _ _ (λ over so.
    subst (λ (u : ExpTree). With (IsOver over (site_of c.args.site.now) u (lowered c.args.goals.now.items c.args.slots.now) (lowered c.over_args.new.goals.items c.over_args.new.slots)) c.args.helpers.now.items c.over_args.new.helpers.items (collection_helpers (site_of c.args.site.now) u))
    (sym (call-now c.args.unit.now c.in-Call.field-0 c.in-Call.args c.as_slice.result.now c.in-Call.is c.as_slice.ensures.value)) (so c.in-Call.field-0)) c.over_args.ensures

pub over::over_unit-returns-in_ok-term-in_default : goal.over::over_unit-returns-in_ok-term-in_default
over::over_unit-returns-in_ok-term-in_default t c =
    let none : GoesOverNone (site_of c.args.site.now) (exp_tree c.args.unit.now) c.args.slots.now = no-call (site_of c.args.site.now) (exp_tree c.args.unit.now) c.args.slots.now (not-call c.args.unit.now c.in_default.not-Call) in
    record {
      is = none-found (site_of c.args.site.now) (exp_tree c.args.unit.now) c.args.slots.now c.args.slots.now c.args.goals.now.items c.no_value.new.goals.items c.in_ok-term-in_default.term none c.in_ok-term-in_default.ensures.goals c.in_ok-term-in_default.ensures.is refl;
      helpers = no-helpers (map pred_tree c.args.helpers.now.items) (collection_helpers (site_of c.args.site.now) (exp_tree c.args.unit.now)) none.helpers;
    }

pub over::over_args-returns-then-args-lt2 : goal.over::over_args-returns-then-args-lt2
over::over_args-returns-then-args-lt2 t c = λ name.
    let none : GoesOverNone (site_of c.args.site.now) (call name (exps_of c.args.args.now)) c.args.slots.now = few-arguments (site_of c.args.site.now) name c.args.args.now c.args.slots.now c.if-args-lt2.true in
    record {
      is = none-found (site_of c.args.site.now) (call name (exps_of c.args.args.now)) c.args.slots.now c.args.slots.now c.args.goals.now.items c.no_value.new.goals.items c.in_ok-term.term none c.in_ok-term.ensures.goals c.in_ok-term.ensures.is refl;
      helpers = no-helpers (map pred_tree c.args.helpers.now.items) (collection_helpers (site_of c.args.site.now) (call name (exps_of c.args.args.now))) none.helpers;
    }

pub over::over_args-returns : goal.over::over_args-returns
over::over_args-returns t c = IfOk-weaker c.over_exp.result _ _ (λ over so name.
    let first : ExpTree = exp_tree (get_or c.args.args.now 0 c.index-args-1.result) in
    let rest : ExpTrees = exps_of (drop 2 c.args.args.now) in
    subst (λ (es : ExpTrees). With (IsOver over (site_of c.args.site.now) (call name es) (lowered c.args.goals.now.items c.args.slots.now) (lowered c.over_exp.new.goals.items c.over_exp.new.slots)) c.args.helpers.now.items c.over_exp.new.helpers.items (collection_helpers (site_of c.args.site.now) (call name es)))
    (sym (two-first c.args.args.now c.index-args-1.result c.if-args-lt2.false c.index-args-1.is)) (so name first rest)) c.over_exp.ensures

pub over::over_steps-returns-in_ok-high-in-Some : goal.over::over_steps-returns-in_ok-high-in-Some
over::over_steps-returns-in_ok-high-in-Some t c = λ f name one more.
    let shape : exp_tree c.args.exp.now ≡ ExpTree.range_by (exp_tree c.deref-in-Some-2.result.now) (exp_tree c.deref-in-Some-4.result.now) (exp_tree c.deref-in-Some-6.result.now) =
    range_by-now c.args.exp.now c.in-Range.first c.in-Range.step c.in-Range.last c.in-Some.step c.deref-in-Some-2.result.now c.deref-in-Some-4.result.now c.deref-in-Some-6.result.now c.in-Range.is c.in-Some.is c.deref-in-Some-2.ensures c.deref-in-Some-4.ensures c.deref-in-Some-6.ensures in
    let second : (site_of c.in_ok-second-in-Some.second) ≡ behind_exp (site_of c.args.site.now) (exp_tree c.deref-in-Some-2.result.now) = c.in_ok-second-in-Some.ensures ∙ ap (λ z. behind_exp (site_of c.args.site.now) (exp_tree z)) (c.deref-in-Some-3.ensures ∙ sym c.deref-in-Some-2.ensures) in
    let third : (site_of c.in_ok-third-in-Some.third) ≡ behind_exp (site_of c.in_ok-second-in-Some.second) (exp_tree c.deref-in-Some-4.result.now) = c.in_ok-third-in-Some.ensures ∙ ap (λ z. behind_exp (site_of c.in_ok-second-in-Some.second) (exp_tree z)) (c.deref-in-Some-5.ensures ∙ sym c.deref-in-Some-4.ensures) in
    record {
      is = three-found (site_of c.args.site.now) (site_of c.in_ok-second-in-Some.second) (site_of c.in_ok-third-in-Some.third) name one (exp_tree c.args.exp.now) (exp_tree c.deref-in-Some-2.result.now) (exp_tree c.deref-in-Some-4.result.now) (exp_tree c.deref-in-Some-6.result.now) more c.is_flat-is_last.result (c.is_flat-is_last.result && c.is_flat.result) (record { low = c.in_ok-low-in-Some.low; step = c.in_ok-by-in-Some.by; high = c.in_ok-high-in-Some.high })
          c.args.slots.now c.value.new.slots c.value-in-Some.new.slots c.value-in-Some-2.new.slots c.args.goals.now.items c.value.new.goals.items c.value-in-Some.new.goals.items c.value-in-Some-2.new.goals.items shape
          (c.is_flat-is_last.ensures ∙ ap (λ z. is_flat (exp_tree z)) (c.deref.ensures ∙ sym c.deref-in-Some-6.ensures))
          (flip-and c.is_flat-is_last.result c.is_flat.result (is_flat (exp_tree c.deref-in-Some-4.result.now)) (c.is_flat.ensures ∙ ap (λ z. is_flat (exp_tree z)) (c.deref-in-Some.ensures ∙ sym c.deref-in-Some-4.ensures)))
          second third c.in_ok-low-in-Some.ensures.is c.in_ok-by-in-Some.ensures.is c.in_ok-high-in-Some.ensures.is;
      helpers = three-helpers (map pred_tree c.args.helpers.now.items) (map pred_tree c.value.new.helpers.items) (map pred_tree c.value-in-Some.new.helpers.items) (map pred_tree c.value-in-Some-2.new.helpers.items) (value_helpers (site_of c.args.site.now) (exp_tree c.deref-in-Some-2.result.now)) (value_helpers (site_of c.in_ok-second-in-Some.second) (exp_tree c.deref-in-Some-4.result.now)) (value_helpers (site_of c.in_ok-third-in-Some.third) (exp_tree c.deref-in-Some-6.result.now)) (collection_helpers (site_of c.args.site.now) (call name (exp one (exp (exp_tree c.args.exp.now) more))))
          (collection-helped (site_of c.args.site.now) name (call name (exp one (exp (exp_tree c.args.exp.now) more))) one (exp_tree c.args.exp.now) more refl ∙ helpers-range_by (site_of c.args.site.now) (site_of c.in_ok-second-in-Some.second) (site_of c.in_ok-third-in-Some.third) (exp_tree c.args.exp.now) (exp_tree c.deref-in-Some-2.result.now) (exp_tree c.deref-in-Some-4.result.now) (exp_tree c.deref-in-Some-6.result.now) shape second third) c.in_ok-low-in-Some.ensures.helpers c.in_ok-by-in-Some.ensures.helpers c.in_ok-high-in-Some.ensures.helpers;
    }

pub over::over_steps-returns-in_ok-term-in-None : goal.over::over_steps-returns-in_ok-term-in-None
over::over_steps-returns-in_ok-term-in-None t c = λ f name one more. absurd (not-stepped c.args.exp.now c.in-Range.first c.in-Range.step c.in-Range.last c.in-Range.is c.in-None.is f)

pub over::over_steps-returns-in_ok-term-in_default : goal.over::over_steps-returns-in_ok-term-in_default
over::over_steps-returns-in_ok-term-in_default t c = λ f name one more. absurd (c.in_default.not-Range f.low (Some f.step) f.high f.is)

pub over::over_range-returns-in_ok-by-in-None : goal.over::over_range-returns-in_ok-by-in-None
over::over_range-returns-in_ok-by-in-None t c = λ f name one more.
    let shape : exp_tree c.args.exp.now ≡ ExpTree.range (exp_tree c.deref-in-None.result.now) (exp_tree c.deref-in-None-3.result.now) =
    range-now c.args.exp.now c.in-Range.first c.in-Range.step c.in-Range.last c.deref-in-None.result.now c.deref-in-None-3.result.now c.in-Range.is c.in-None.is c.deref-in-None.ensures c.deref-in-None-3.ensures in
    let behind : (site_of c.in_ok-behind-in-None.behind) ≡ behind_exp (site_of c.args.site.now) (exp_tree c.deref-in-None.result.now) = c.in_ok-behind-in-None.ensures ∙ ap (λ z. behind_exp (site_of c.args.site.now) (exp_tree z)) (c.deref-in-None-2.ensures ∙ sym c.deref-in-None.ensures) in
    record {
      is = two-found (site_of c.args.site.now) (site_of c.in_ok-behind-in-None.behind) name one (exp_tree c.args.exp.now) (exp_tree c.deref-in-None.result.now) (exp_tree c.deref-in-None-3.result.now) more c.is_flat-is_last.result (record { low = c.in_ok-low-in-None.low; step = c.in_ok-by-in-None.by; high = c.in_ok-high-in-None.high })
          c.args.slots.now c.value.new.slots c.value-in-None.new.slots c.args.goals.now.items c.value.new.goals.items c.value-in-None.new.goals.items shape
          (c.is_flat-is_last.ensures ∙ ap (λ z. is_flat (exp_tree z)) (c.deref.ensures ∙ sym c.deref-in-None-3.ensures)) behind c.in_ok-low-in-None.ensures.is c.in_ok-high-in-None.ensures.is c.in_ok-by-in-None.ensures.ok;
      helpers = two-helpers (map pred_tree c.args.helpers.now.items) (map pred_tree c.value.new.helpers.items) (map pred_tree c.value-in-None.new.helpers.items) (value_helpers (site_of c.args.site.now) (exp_tree c.deref-in-None.result.now)) (value_helpers (site_of c.in_ok-behind-in-None.behind) (exp_tree c.deref-in-None-3.result.now)) (collection_helpers (site_of c.args.site.now) (call name (exp one (exp (exp_tree c.args.exp.now) more))))
          (collection-helped (site_of c.args.site.now) name (call name (exp one (exp (exp_tree c.args.exp.now) more))) one (exp_tree c.args.exp.now) more refl ∙ helpers-range (site_of c.args.site.now) (site_of c.in_ok-behind-in-None.behind) (exp_tree c.args.exp.now) (exp_tree c.deref-in-None.result.now) (exp_tree c.deref-in-None-3.result.now) shape behind) c.in_ok-low-in-None.ensures.helpers c.in_ok-high-in-None.ensures.helpers;
    }

pub over::over_range-returns-in-Some : goal.over::over_range-returns-in-Some
over::over_range-returns-in-Some t c = IfOk-weaker c.over_steps.result _ _ (λ over so f. so (record { low = c.in-Range.first; step = c.in-Some.field-0; high = c.in-Range.last; is = c.in-Range.is ∙ ap (λ o. e.Range c.in-Range.first o c.in-Range.last) c.in-Some.is })) c.over_steps.ensures

pub over::over_range-returns-in_ok-term-in_default : goal.over::over_range-returns-in_ok-term-in_default
over::over_range-returns-in_ok-term-in_default t c = λ f name one more. absurd (c.in_default.not-Range f.low f.step f.high f.is)

pub over::over_exp-returns-in-Range : goal.over::over_exp-returns-in-Range
over::over_exp-returns-in-Range t c = IfOk-weaker c.over_range.result _ _ (λ over so. so (record { low = c.in-Range.field-0; step = c.in-Range.field-1; high = c.in-Range.field-2; is = c.in-Range.is })) c.over_range.ensures

pub over::over_exp-returns-in_ok-term-in_default : goal.over::over_exp-returns-in_ok-term-in_default
over::over_exp-returns-in_ok-term-in_default t c = λ name one more. record {
  is = collection-found (site_of c.args.site.now) name (call name (exp one (exp (exp_tree c.args.exp.now) more))) one (exp_tree c.args.exp.now) more c.args.slots.now c.value.new.slots c.args.goals.now.items c.value.new.goals.items c.in_ok-term-in_default.term refl (not-range c.args.exp.now c.in_default.not-Range) c.in_ok-term-in_default.ensures.is;
  helpers = same-helpers (map pred_tree c.args.helpers.now.items) (map pred_tree c.value.new.helpers.items) (value_helpers (site_of c.args.site.now) (exp_tree c.args.exp.now)) (collection_helpers (site_of c.args.site.now) (call name (exp one (exp (exp_tree c.args.exp.now) more)))) (collection-helped (site_of c.args.site.now) name (call name (exp one (exp (exp_tree c.args.exp.now) more))) one (exp_tree c.args.exp.now) more refl) c.in_ok-term-in_default.ensures.helpers;
}
