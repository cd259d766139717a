use Rattle.std.proofs.Common.{◌∙◌, ap, subst, codes}
use Rattle.pi_terms.specs.Tree.{atom, comp, no_trees, tree}
use Rattle.pi_constraints.specs.State.{bindings}
use Rattle.pi_constraints.specs.Value.{value}
use Rattle.pi_effects.specs.Balls.{kind_name}
use Rattle.pi_effects.specs.Reads.{IsCopied}
use Rattle.pi_effects.proofs.BallLemmas.{kind-copy, kind-large}
use Rattle.pi_effects.proofs.ball.wrong_kind.Goals as goal

pub returns-in_ok-comp-in-Some : goal.returns-in_ok-comp-in-Some
returns-in_ok-comp-in-Some g c = λ t a is.
    let s = (g.S.StateStore.seen c.args.s.now).now.state in
    kind-copy (kind_name c.args.kind) t c.in-Some.copy c.in_ok-comp-in-Some.field-0 s (subst (IsCopied (value (bindings s) t)) c.in-Some.is (c.in_ok-copy.ensures t a is))
    (c.in_ok-comp-in-Some.ensures.ok ∙ ap (λ k. comp (codes "type_error") (tree k (tree c.in-Some.copy no_trees))) (c.in_ok-kind-in-Some.ensures.ok ∙ ap atom c.name_of.ensures))

pub returns-in_ok-too_large-in-None : goal.returns-in_ok-too_large-in-None
returns-in_ok-too_large-in-None g c = λ t a is.
    let s = (g.S.StateStore.seen c.args.s.now).now.state in
    kind-large (kind_name c.args.kind) t c.in_ok-too_large-in-None.field-0 s (subst (IsCopied (value (bindings s) t)) c.in-None.is (c.in_ok-copy.ensures t a is)) c.in_ok-too_large-in-None.ensures
