use Rattle.std.proofs.Common.{sym, subst}
use Rattle.std.specs.Prelude.{Err}
use Rattle.pi_settling.specs.Read.{operand_in}
use Rattle.pi_lib_constraints.specs.Posts.{ShowsOperandPosted}
use Rattle.pi_lib_constraints.proofs.ExpressionLemmas.{operand-posted, operand-refused}
use Rattle.pi_lib_constraints.proofs.expressions.post_operand.Goals as goal

pub returns-in_ok-put_posting-in-Ok-clause-shows : goal.returns-in_ok-put_posting-in-Ok-clause-shows
returns-in_ok-put_posting-in-Ok-clause-shows g c = λ t is at.
    operand-posted (g.S.StateStore.seen c.args.s.now) (g.S.StateStore.seen c.put_posting.new.s) t c.in-Ok.read is (c.look-root.ensures.below c.args.operand t at) (c.in-Ok.ensures t is at) (c.in_ok-put_posting-in-Ok.ensures.ok is)

pub returns-in-Err-clause-shows : goal.returns-in-Err-clause-shows
returns-in-Err-clause-shows g c = λ t is at.
    let v = g.S.StateStore.seen c.args.s.now in
    subst (λ stop. ShowsOperandPosted v v (Err stop) (operand_in t v.now.state)) (sym c.fault_of.ensures) (operand-refused v t c.in-Err.stop is (c.in-Err.ensures t is at))
