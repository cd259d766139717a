use Rattle.std.proofs.Common.{◌∙◌, sym, ap}
use Rattle.pi_core.specs.GoalTree.{seq, goals_of}
use Rattle.pi_rewrite.proofs.ClauseLemmas.{guard-other, guard-truth}
use Rattle.pi_rewrite.proofs.goals.as_guard.Goals as goal

pub returns-then-not-is_truth : goal.returns-then-not-is_truth
returns-then-not-is_truth c = guard-other c.args.goal (sym c.is_truth.ensures ∙ c.if-not-is_truth.true)

pub returns : goal.returns
returns c =
    guard-truth c.args.goal c.in_ok-made.made c.new-goals.result.items c.push.new.self.items (sym c.is_truth.ensures ∙ c.if-not-is_truth.false) c.new-goals.ensures.items c.in_ok-push.ensures.items
    (c.in_ok-made.ensures.ok ∙ ap (λ gs. seq (goals_of gs)) c.as_slice.ensures.value)
