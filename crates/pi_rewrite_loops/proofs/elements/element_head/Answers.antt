use Rattle.std.proofs.Common.{◌∙◌, ap, ℕ}
use Rattle.std.proofs.lemmas.Result.{IfOk-weaker}
use Rattle.pi_terms.specs.PatternTree.{pattern}
use Rattle.pi_core.specs.CoreTree.{pattern_tree}
use Rattle.pi_rewrite_spec.specs.Loops.{slots_head}
use Rattle.pi_rewrite_loops.proofs.elements.element_head.Goals as goal

pub returns : goal.returns
returns c =
    IfOk-weaker c.head_with.result _ _ (λ made so. so ∙ ap (λ (k : ℕ). pattern (pattern_tree c.args.element.form) (slots_head c.args.element.width k)) c.in_ok-count.ensures) c.head_with.ensures
