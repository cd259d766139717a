use Rattle.std.proofs.Common.{subst}
use Rattle.pi_constraints.specs.Constraint.{HoldsVariable, HoldVariable}
use Rattle.pi_store.specs.Added.{IsPutOn}
use Rattle.pi_store.proofs.AddLemmas.{adds_then}
use Rattle.pi_store.proofs.PutLemmas.{put_stops, put_then}
use Rattle.pi_store.proofs.post.put_on_items_and_one.Goals as goal

pub returns-then-not-put-clause-ok : goal.returns-then-not-put-clause-ok
returns-then-not-put-clause-ok c =
    put_stops (HoldVariable c.args.items.now) (HoldsVariable c.args.last) c.args.words.now c.put_on_items.new.words c.args.number (subst (IsPutOn (HoldVariable c.args.items.now) c.args.words.now c.put_on_items.new.words c.args.number) c.if-not-put.true c.in_ok-put.ensures.ok)

pub returns-clause-ok : goal.returns-clause-ok
returns-clause-ok c =
    put_then (HoldVariable c.args.items.now) (HoldsVariable c.args.last) c.args.words.now c.put_on_items.new.words c.put_on_item.new.words c.args.number _ c.put_on_items.ensures.adds c.put_on_item.ensures.adds
    (subst (IsPutOn (HoldVariable c.args.items.now) c.args.words.now c.put_on_items.new.words c.args.number) c.if-not-put.false c.in_ok-put.ensures.ok) c.in_ok-put_on_item.ensures.ok

pub returns-in_err-put_on_item-clause-adds : goal.returns-in_err-put_on_item-clause-adds
returns-in_err-put_on_item-clause-adds c = adds_then c.args.words.now c.put_on_items.new.words c.put_on_item.new.words c.put_on_items.ensures.adds c.put_on_item.ensures.adds

pub returns-clause-adds : goal.returns-clause-adds
returns-clause-adds c = adds_then c.args.words.now c.put_on_items.new.words c.put_on_item.new.words c.put_on_items.ensures.adds c.put_on_item.ensures.adds
