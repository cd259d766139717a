use Rattle.std.proofs.Common.{true, false, slice_index_or, subst, arith}
use Rattle.std.proofs.lemmas.List.{drop_more}
use Rattle.pi_constraints.specs.Constraint.{SumHasVariable}
use Rattle.pi_store.specs.Added.{IsPutOn}
use Rattle.pi_store.proofs.AddLemmas.{adds_then}
use Rattle.pi_store.proofs.PutLemmas.{of_terms, TermHas, puts_start, puts_more, puts_stop, puts_end}
use Rattle.pi_store.proofs.post.put_on_sum.Goals as goal

pub loop-term-init : goal.loop-term-init
loop-term-init c = puts_start SumHasVariable TermHas of_terms c.as_slice-term-items.result.now c.args.words.now c.args.number c.len-len.ensures.sound

pub loop-term-preserved : goal.loop-term-preserved
loop-term-preserved c =
    puts_more SumHasVariable TermHas of_terms c.as_slice-term-items.result.now c.loop-term.term-index _ c.args.words.now c.loop-term.words c.put_on_variable.new.words c.args.number c.loop-term.invariant (drop_more c.as_slice-term-items.result.now c.loop-term.term-index _ (omega arith)) c.put_on_variable.ensures.adds
    (subst (IsPutOn (TermHas (slice_index_or c.as_slice-term-items.result.now c.loop-term.term-index _)) c.loop-term.words c.put_on_variable.new.words c.args.number) c.if-not-put.false c.in_ok-put.ensures.ok)

pub returns-in_err-put-clause-adds : goal.returns-in_err-put-clause-adds
returns-in_err-put-clause-adds c = adds_then c.args.words.now c.loop-term.words c.put_on_variable.new.words c.loop-term.invariant.adds c.put_on_variable.ensures.adds

pub returns-then-not-put-clause-ok : goal.returns-then-not-put-clause-ok
returns-then-not-put-clause-ok c =
    subst (λ xs. IsPutOn (SumHasVariable xs) c.args.words.now c.put_on_variable.new.words c.args.number false) c.as_slice-term-items.ensures
    (puts_stop SumHasVariable TermHas of_terms c.as_slice-term-items.result.now c.loop-term.term-index _ c.args.words.now c.loop-term.words c.put_on_variable.new.words c.args.number c.loop-term.invariant (drop_more c.as_slice-term-items.result.now c.loop-term.term-index _ (omega arith))
    (subst (IsPutOn (TermHas (slice_index_or c.as_slice-term-items.result.now c.loop-term.term-index _)) c.loop-term.words c.put_on_variable.new.words c.args.number) c.if-not-put.true c.in_ok-put.ensures.ok))

pub returns-then-not-put-clause-adds : goal.returns-then-not-put-clause-adds
returns-then-not-put-clause-adds c = adds_then c.args.words.now c.loop-term.words c.put_on_variable.new.words c.loop-term.invariant.adds c.put_on_variable.ensures.adds

pub returns-clause-ok : goal.returns-clause-ok
returns-clause-ok c = subst (λ xs. IsPutOn (SumHasVariable xs) c.args.words.now c.loop-term.words c.args.number true) c.as_slice-term-items.ensures (puts_end SumHasVariable TermHas of_terms c.as_slice-term-items.result.now c.loop-term.term-index c.args.words.now c.loop-term.words c.args.number c.loop-term.invariant (omega arith))

pub returns-clause-adds : goal.returns-clause-adds
returns-clause-adds c = c.loop-term.invariant.adds
