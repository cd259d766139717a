-- One more predicate or function.
use Rattle.std.proofs.Common.{◌≡◌, ℕ, suc, length, max, ap, ◌∙◌, subst}
use Rattle.std.specs.Prelude.{IfOk}
use Rattle.pi_rewrite.specs.Built.{tildes}
use Rattle.pi_rewrite.proofs.LengthLemmas.{name-more, name-end}
use Rattle.pi_rewrite.proofs.naming.query_naming.Goals as goal

pub loop-pred-preserved : goal.loop-pred-preserved
loop-pred-preserved c =
    name-more c.args.preds.now c.loop-pred.pred-index c.pred-item.result c.loop-pred.most c.max-most.result c.loop-pred-test.true c.pred-item.is (c.max-most.ensures ∙ ap (λ n. max c.loop-pred.most (length n)) c.as_str.ensures) c.loop-pred.invariant

pub returns : goal.returns
returns c =
    subst (λ (n : ℕ). IfOk c.longer_than.result (λ made. made.prefix ≡ tildes (suc n))) (name-end c.args.preds.now c.loop-pred.pred-index c.loop-pred.most c.loop-pred-test.false c.loop-pred.invariant) c.longer_than.ensures
