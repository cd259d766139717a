use Rattle.std.proofs.Common.{true, false, subst, arith}
use Rattle.std.proofs.lemmas.List.{drop_more}
use Rattle.pi_constraints.specs.Constraint.{HoldsVariable, HoldVariable}
use Rattle.pi_store.specs.Added.{IsPutOn}
use Rattle.pi_store.proofs.AddLemmas.{adds_then}
use Rattle.pi_store.proofs.PutLemmas.{of_items, puts_start, puts_more, puts_stop, puts_end}
use Rattle.pi_store.proofs.post.put_on_items.Goals as goal

pub loop-item-init : goal.loop-item-init
loop-item-init c = puts_start HoldVariable HoldsVariable of_items c.as_slice-item-items.result.now c.args.words.now c.args.number c.len-len.ensures.sound

pub loop-item-preserved : goal.loop-item-preserved
loop-item-preserved c =
    puts_more HoldVariable HoldsVariable of_items c.as_slice-item-items.result.now c.loop-item.item-index _ c.args.words.now c.loop-item.words c.put_on_item.new.words c.args.number c.loop-item.invariant (drop_more c.as_slice-item-items.result.now c.loop-item.item-index _ (omega arith)) c.put_on_item.ensures.adds
    (subst (IsPutOn (HoldsVariable _) c.loop-item.words c.put_on_item.new.words c.args.number) c.if-not-put.false c.in_ok-put.ensures.ok)

pub returns-in_err-put-clause-adds : goal.returns-in_err-put-clause-adds
returns-in_err-put-clause-adds c = adds_then c.args.words.now c.loop-item.words c.put_on_item.new.words c.loop-item.invariant.adds c.put_on_item.ensures.adds

pub returns-then-not-put-clause-ok : goal.returns-then-not-put-clause-ok
returns-then-not-put-clause-ok c =
    subst (λ xs. IsPutOn (HoldVariable xs) c.args.words.now c.put_on_item.new.words c.args.number false) c.as_slice-item-items.ensures
    (puts_stop HoldVariable HoldsVariable of_items c.as_slice-item-items.result.now c.loop-item.item-index _ c.args.words.now c.loop-item.words c.put_on_item.new.words c.args.number c.loop-item.invariant (drop_more c.as_slice-item-items.result.now c.loop-item.item-index _ (omega arith))
    (subst (IsPutOn (HoldsVariable _) c.loop-item.words c.put_on_item.new.words c.args.number) c.if-not-put.true c.in_ok-put.ensures.ok))

pub returns-then-not-put-clause-adds : goal.returns-then-not-put-clause-adds
returns-then-not-put-clause-adds c = adds_then c.args.words.now c.loop-item.words c.put_on_item.new.words c.loop-item.invariant.adds c.put_on_item.ensures.adds

pub returns-clause-ok : goal.returns-clause-ok
returns-clause-ok c = subst (λ xs. IsPutOn (HoldVariable xs) c.args.words.now c.loop-item.words c.args.number true) c.as_slice-item-items.ensures (puts_end HoldVariable HoldsVariable of_items c.as_slice-item-items.result.now c.loop-item.item-index c.args.words.now c.loop-item.words c.args.number c.loop-item.invariant (omega arith))

pub returns-clause-adds : goal.returns-clause-adds
returns-clause-adds c = c.loop-item.invariant.adds
