use Rattle.std.proofs.Common.{◌==◌, ◌&&◌, ◌∙◌, ap}
use Rattle.pi_core.specs.CoreTree.{pred_tree}
use Rattle.pi_engine_facts.proofs.NameTests.{named-test}
use Rattle.pi_engine_facts.proofs.unknown.is_named.Goals as goal

pub returns : goal.returns
returns c = ap (λ b. b && (c.args.pred.now.arity == c.args.arity)) c.eq.ensures ∙ named-test c.args.name.now c.as_str.result.now c.args.arity (pred_tree c.args.pred.now) c.if-pred.false c.as_str.ensures
