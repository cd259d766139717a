use Rattle.std.proofs.Common.{◌≡◌, List, ℕ, ◌∙◌, subst}
use Rattle.std.proofs.lemmas.Result.{IfOk-weaker}
use Rattle.pi_terms.specs.Tree.{comp, drop_trees}
use Rattle.pi_terms.specs.TermCells.{take_trees}
use Rattle.pi_constraints.specs.Store.{IsTerm}
use Rattle.pi_unify.specs.Copying.{AreBuilt}
use Rattle.pi_unify.proofs.copying.copy_compound.Goals as goal

pub returns-clause-ok : goal.returns-clause-ok
returns-clause-ok g c =
    let w = g.S.StateStore.seen c.put_compound.new.s in
    IfOk-weaker c.put_compound.result _ _
    (λ made so name ts is put.
    let same : c.as_str.result.now ≡ name = c.as_str.ensures ∙ (c.in_ok-name.ensures.ok ∙ c.name.ensures name is) in
    subst (λ (f : List ℕ). IsTerm w made (comp f (take_trees c.args.count ts)) × AreBuilt w c.put_compound.new.built.items (drop_trees c.args.count ts)) same (so ts put)) c.put_compound.ensures.ok
