use Rattle.std.proofs.Common.{◌∙◌}
use Rattle.std.proofs.lemmas.Result.{IfOk-weaker}
use Rattle.pi_core.specs.CoreTree.{pattern_tree}
use Rattle.pi_rewrite_slots.proofs.PatternLemmas.{text-form}
use Rattle.pi_rewrite_slots.proofs.patterns.exact_text.Goals as goal

pub returns : goal.returns
returns c =
    IfOk-weaker c.cells_onto.result _ _ (λ made so. text-form c.args.text.now c.as_slice.result.now c.in_ok-items.items.items (pattern_tree c.in_ok-rest.rest) (pattern_tree made) (c.as_slice.ensures.value ∙ c.in_ok-letters.ensures) c.in_ok-items.ensures c.in_ok-rest.ensures so) c.cells_onto.ensures
