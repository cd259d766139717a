-- The loop behind the goals, and its helper behind those before.
use Rattle.std.proofs.Common.{◌≡◌, ◌∙◌, ap}
use Rattle.std.proofs.lemmas.Result.{IfOk-weaker}
use Rattle.pi_rewrite_spec.specs.Slots.{SlotNames}
use Rattle.pi_rewrite_spec.specs.Loops.{Loop, while_turn}
use Rattle.pi_rewrite_slots.specs.Indexed.{names_in}
use Rattle.pi_rewrite_sites.specs.SiteOf.{site_of}
use Rattle.pi_rewrite_loops.specs.Helpers.{loop_of, lowered}
use Rattle.pi_rewrite_goals.proofs.LoopLemmas.{put-loop, pushed-helper}
use Rattle.pi_rewrite_goals.proofs.loops.end_while.Goals as goal

pub returns : goal.returns
returns c = IfOk-weaker c.push_loop.result _ _ (λ _ so.
    let first : c.replace-tests.result.items ≡ c.args.turns.now.one.items = ap (λ v. v.items) c.replace-tests.ensures.value in
    let second : c.replace-turn.result.items ≡ c.args.turns.now.other.items = ap (λ v. v.items) c.replace-turn.ensures.value in
    let l : Loop = loop_of c.args.turns.now.whole in
    let ns : SlotNames = c.args.turns.now.slots in
    record {
      put = put-loop (site_of c.args.site.now) (names_in c.as_slice.result.now) l c.args.slots.now c.push_loop.new.slots c.args.goals.now.items c.push_loop.new.goals.items (ap names_in c.as_slice.ensures.value) so;
      owns = pushed-helper c.args.helpers.now.items c.push.new.self.items c.in_ok-helper.helper (while_turn l (lowered c.args.turns.now.one.items ns) (λ _. lowered c.args.turns.now.other.items ns)) c.in_ok-push.ensures.items
          (c.in_ok-helper.ensures ∙ (ap (λ xs. while_turn l (lowered xs ns) (λ _. lowered c.replace-turn.result.items ns)) first ∙ ap (λ xs. while_turn l (lowered c.args.turns.now.one.items ns) (λ _. lowered xs ns)) second));
    }) c.push_loop.ensures
