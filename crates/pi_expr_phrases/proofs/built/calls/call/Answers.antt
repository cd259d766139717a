use Rattle.pi_expr_phrases.proofs.TreeLemmas.{call-shown, levels-call, deep-over}
use Rattle.pi_syntax.specs.ExpTree.{call}
use Rattle.std.proofs.Common.{suc, ap, ◌∙◌}
use Rattle.pi_expr_phrases.proofs.built.calls.call.Goals as goal

pub returns-in_ok-name-in-Kept : goal.returns-in_ok-name-in-Kept
returns-in_ok-name-in-Kept c = λ es h. let k = rw c.in-Kept.is at h in c.over.ensures (call c.args.name.now es) (call-shown _ _ _ _ c.in_ok-name-in-Kept.ensures.ok k.0) (levels-call _ es ∙ ap suc k.1)

pub returns-in-Deep : goal.returns-in-Deep
returns-in-Deep c = λ es h. deep-over _ _ (levels-call _ es) (rw c.in-Deep.is at h)
