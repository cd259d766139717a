use Rattle.std.proofs.Common.{◌≡◌, ◌-◌, ◌++◌, ◌∙◌, ap, replicate, false, arith, append_assoc}
use Rattle.std.proofs.lemmas.Result.{IfOk-weaker}
use Rattle.pi_core.specs.GoalTree.{child_goals}
use Rattle.pi_engine_code.specs.Laid.{before_last}
use Rattle.pi_engine_code.proofs.build.goals.push_marks.Goals as goal

pub returns : goal.returns
returns c =
    let node = c.args.node in
    let marks = c.args.marks.now.items in
    let before = c.before_last-before.result in
    let first = c.saturating_sub.result in
    let count : first ≡ child_goals node - before_last node = omega (arith, c.saturating_sub.ensures, c.child_count.ensures, c.before_last-before.ensures) in
    IfOk-weaker c.push_times-2.result _ _
    (λ made so.
    so ∙ ap (λ r. r ++ replicate before false) c.in_ok-push_times.ensures ∙ append_assoc marks (replicate first c.args.is_last) (replicate before false)
    ∙ ap (λ n. marks ++ (replicate n c.args.is_last ++ replicate before false)) count
    ∙ ap (λ n. marks ++ (replicate (child_goals node - before_last node) c.args.is_last ++ replicate n false)) c.before_last-before.ensures) c.push_times-2.ensures
