use Rattle.pi_store_blocks.specs.Head.{head_of, head_numbers}
use Rattle.pi_store_blocks.specs.Constraint.{tail_of}
use Rattle.pi_store_blocks.proofs.BlockLemmas.{appended_then, appends_then}
use Rattle.pi_store_blocks.proofs.constraints.write.append_constraint.Goals as goal

pub returns-in_err-append_tail-clause-appends : goal.returns-in_err-append_tail-clause-appends
returns-in_err-append_tail-clause-appends c = appends_then _ _ _ _ c.in_ok-append_head.ensures.ok c.append_tail.ensures.appends

pub returns-clause-ok : goal.returns-clause-ok
returns-clause-ok c = appended_then _ _ _ (head_numbers (head_of c.args.constraint.now)) (tail_of c.args.constraint.now) c.in_ok-append_head.ensures.ok c.in_ok-append_tail.ensures.ok

pub returns-clause-appends : goal.returns-clause-appends
returns-clause-appends c = appends_then _ _ _ _ c.in_ok-append_head.ensures.ok c.append_tail.ensures.appends
