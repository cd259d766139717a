-- The parts of an iterator, as they were found.
use Rattle.std.proofs.Common.{◌≡◌, false, List, [], ◌++◌, length, Some, ◌∙◌, ap}
use Rattle.pi_syntax.specs.ExpTree.{exp_tree}
use Rattle.pi_syntax.specs.ExpLists.{exps_of}
use Rattle.pi_meaning.specs.OverNames.Texts.{Names, places}
use Rattle.pi_rewrite_spec.specs.Values.{slot_pattern}
use Rattle.pi_rewrite_slots.specs.Indexed.{names_in}
use Rattle.pi_rewrite_sites.specs.SiteOf.{site_of}
use Rattle.pi_rewrite_sites.specs.TextNames.{names_of}
use Rattle.pi_rewrite_loops.specs.Helpers.{loop_of, ending_of}
use Rattle.pi_rewrite_spec.specs.Iterators.{turn_slots}
use Rattle.pi_rewrite_goals.specs.Planned.{inner_in}
use Rattle.pi_rewrite_goals.proofs.PlanLemmas.{plan-loop, plan-turn, plan-site}
use Rattle.pi_rewrite_goals.proofs.inner.plan.Goals as goal

pub returns : goal.returns
unfolding names_of
returns c =
    let own : names_in c.as_slice.result.now ≡ places (exp_tree c.args.pattern.now) = ap names_in c.as_slice.ensures.value ∙ (c.in_ok-push_names.ensures ∙ ap (λ ns. ns ++ names_of false (exp_tree c.args.pattern.now)) (ap names_in c.new-own.ensures.items)) in
    let again : names_in c.as_slice-2.result.now ≡ places (exp_tree c.args.pattern.now) = ap names_in c.as_slice-2.ensures.value ∙ (c.in_ok-push_names.ensures ∙ ap (λ ns. ns ++ names_of false (exp_tree c.args.pattern.now)) (ap names_in c.new-own.ensures.items)) in
    let start : c.matching.new.slots ≡ turn_slots (loop_of c.in_ok-whole.whole) (slot_pattern (exp_tree c.args.pattern.now) []) = c.in_ok-element.ensures.slots ∙ ap (λ ns. turn_slots (loop_of c.in_ok-whole.whole) (slot_pattern (exp_tree c.args.pattern.now) ns)) c.new-slots.ensures in
    record {
      whole = λ is. c.in_ok-whole.ensures ∙ plan-loop (site_of c.args.site.now) (ending_of c.args.ending) (inner_in c.args.inner.now) c.in_ok-number.number (names_in c.as_slice.result.now) (exp_tree c.args.unit.now) (exp_tree c.args.pattern.now) (exps_of c.args.rest.now) is c.in_ok-number.ensures own;
      turn = plan-turn (site_of c.args.site.now) (inner_in c.args.inner.now) c.in_ok-number.number c.in_ok-second.second (exp_tree c.args.unit.now) (exps_of c.args.rest.now) c.in_ok-turn.turn c.in_ok-number.ensures c.in_ok-second.ensures c.in_ok-turn.ensures;
      element = record {
        form = c.in_ok-element.ensures.is.form ∙ ap (λ ns. (slot_pattern (exp_tree c.args.pattern.now) ns).form) c.new-slots.ensures;
        width = c.in_ok-element.ensures.is.width ∙ ap (λ ns. length (slot_pattern (exp_tree c.args.pattern.now) ns).names) c.new-slots.ensures;
      };
      slots = start;
      site = plan-site (site_of c.args.site.now) (site_of c.in_ok-turns.turns) (loop_of c.in_ok-whole.whole) (exp_tree c.args.unit.now) (exp_tree c.args.pattern.now) c.matching.new.slots (names_in c.as_slice-2.result.now) start again c.in_ok-turns.ensures;
    }
