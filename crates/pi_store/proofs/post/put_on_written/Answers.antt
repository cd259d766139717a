use Rattle.std.proofs.Common.{subst, IfOk}
use Rattle.pi_constraints.specs.Constraint.{SpeaksOf}
use Rattle.pi_constraints.specs.declared.constraint.Constraint.{Constraint}
use Rattle.pi_store.specs.Added.{IsPutOn}
use Rattle.pi_store.proofs.AddLemmas.{adds_none}
use Rattle.pi_store.proofs.post.put_on_written.Goals as goal

pub returns-in_err-written-clause-adds : goal.returns-in_err-written-clause-adds
returns-in_err-written-clause-adds c = adds_none c.args.words.now c.len-len.ensures.sound

pub returns-clause-ok : goal.returns-clause-ok
returns-clause-ok c = subst (λ (x : Constraint). IfOk c.put_on_all-put.result (IsPutOn (SpeaksOf x) c.args.words.now c.put_on_all-put.new.words c.args.number)) c.in_ok-written.ensures c.put_on_all-put.ensures.ok
