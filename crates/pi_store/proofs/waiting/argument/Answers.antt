use Rattle.pi_store.proofs.WaitLemmas.{argument_none, argument_some}
use Rattle.pi_store.proofs.waiting.argument.Goals as goal

pub returns-then-i-arity : goal.returns-then-i-arity
returns-then-i-arity c = λ h t same is. argument_some h t c.cell.result c.args.i c.arity.result c.arg.result (c.cell.ensures h t same is) c.arity.ensures c.if-i-arity.true (λ u at. c.arg.ensures h t u same is at)

pub returns-else-i-arity : goal.returns-else-i-arity
returns-else-i-arity c = λ h t same is. argument_none h t c.cell.result c.args.i c.arity.result (c.cell.ensures h t same is) c.arity.ensures c.if-i-arity.false
