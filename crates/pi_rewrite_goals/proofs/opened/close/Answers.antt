-- One more is closed.
use Rattle.std.proofs.Common.{sym, ◌∙◌}
use Rattle.std.specs.Prelude.{map}
use Rattle.pi_core.specs.CoreTree.{pred_tree}
use Rattle.pi_rewrite_loops.specs.Helpers.{lowered}
use Rattle.pi_rewrite_goals.proofs.CloseLemmas.{close-first, close-next, no-more, close-goals, close-helpers}
use Rattle.pi_rewrite_goals.proofs.opened.close.Goals as goal

pub loop-last-init : goal.loop-last-init
loop-last-init c = close-first c.args.opened.now.items (lowered c.args.goals.now.items c.args.slots.now) (map pred_tree c.args.helpers.now.items)

pub loop-last-preserved : goal.loop-last-preserved
loop-last-preserved c =
    close-next c.args.opened.now.items c.loop-last.opened.items c.pop.new.self.items c.in-Some.last (lowered c.args.goals.now.items c.args.slots.now) (lowered c.loop-last.goals.items c.loop-last.slots) (lowered c.close_one.new.goals.items c.close_one.new.slots)
    (map pred_tree c.args.helpers.now.items) (map pred_tree c.loop-last.helpers.items) (map pred_tree c.close_one.new.helpers.items) c.in-Some.ensures.items c.in_ok-close_one.ensures.goals c.in_ok-close_one.ensures.helpers c.loop-last.invariant

pub returns-clause-goals : goal.returns-clause-goals
returns-clause-goals c = close-goals c.args.opened.now.items c.loop-last.opened.items (lowered c.args.goals.now.items c.args.slots.now) (lowered c.loop-last.goals.items c.loop-last.slots) (map pred_tree c.args.helpers.now.items) (map pred_tree c.loop-last.helpers.items) (no-more c.loop-last.opened.items (sym c.loop-last.opened.ok.0 ∙ c.in_default.ensures.cases.0)) c.loop-last.invariant

pub returns-clause-helpers : goal.returns-clause-helpers
returns-clause-helpers c = close-helpers c.args.opened.now.items c.loop-last.opened.items (lowered c.args.goals.now.items c.args.slots.now) (lowered c.loop-last.goals.items c.loop-last.slots) (map pred_tree c.args.helpers.now.items) (map pred_tree c.loop-last.helpers.items) (no-more c.loop-last.opened.items (sym c.loop-last.opened.ok.0 ∙ c.in_default.ensures.cases.0)) c.loop-last.invariant
