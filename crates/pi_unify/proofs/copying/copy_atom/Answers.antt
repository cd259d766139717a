use Rattle.std.proofs.Common.{ap, Some, ◌∙◌}
use Rattle.std.proofs.lemmas.Result.{IfOk-weaker}
use Rattle.pi_terms.specs.Tree.{atom}
use Rattle.pi_unify.proofs.copying.copy_atom.Goals as goal

pub returns-clause-ok : goal.returns-clause-ok
returns-clause-ok g c =
    IfOk-weaker c.put_atom.result _ _ (λ made so name is. so.term ∙ ap (λ f. Some (atom f)) (c.as_str.ensures ∙ (c.in_ok-name.ensures.ok ∙ c.name.ensures name is))) c.put_atom.ensures.ok
