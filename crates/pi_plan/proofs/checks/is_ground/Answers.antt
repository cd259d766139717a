use Rattle.std.proofs.Common.{sym, arith, rules}
use Rattle.pi_plan.proofs.RootLemmas.{variables_on, variable_found, no_variable_found}
use Rattle.pi_plan.proofs.checks.is_ground.Goals as goal

pub returns-then-is_variable : goal.returns-then-is_variable
returns-then-is_variable c = (
  λ no. search rules,
  λ ground. absurd (variable_found c.args.term.now c.loop-i.i c.head_at.result c.loop-i.invariant c.head_at.ensures (sym c.if-is_variable.ensures) ground),
)

pub loop-i-preserved : goal.loop-i-preserved
loop-i-preserved c = variables_on c.args.term.now c.loop-i.i c.head_at.result c.loop-i.invariant c.head_at.ensures (sym c.if-is_variable.ensures)

pub returns : goal.returns
returns c = (λ yes. no_variable_found c.args.term.now c.loop-i.i c.loop-i.invariant (omega arith), λ ground. search rules)
