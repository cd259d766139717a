-- Of the names at all places outside of loops.
use Rattle.std.proofs.Common.{false, [], ◌++◌, ap, ◌∙◌}
use Rattle.std.proofs.lemmas.Result.{IfOk-weaker}
use Rattle.pi_syntax.specs.ExpTree.{exp_tree}
use Rattle.pi_meaning.specs.OverNames.Telling.{told_behind}
use Rattle.pi_rewrite_slots.specs.Indexed.{names_in}
use Rattle.pi_rewrite_sites.specs.TextNames.{names_of}
use Rattle.pi_rewrite.proofs.telling.told_names.Goals as goal

pub returns : goal.returns
unfolding names_of
returns c =
    IfOk-weaker c.told.result _ _ (λ made so. so ∙ ap (told_behind []) (ap names_in c.as_slice.ensures.value ∙ (c.in_ok-push_names.ensures ∙ ap (λ xs. names_in xs ++ names_of false (exp_tree c.args.goal.now)) c.new-names.ensures.items))) c.told.ensures
