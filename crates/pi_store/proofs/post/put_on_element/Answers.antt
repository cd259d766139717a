use Rattle.std.proofs.Common.{◌⊎◌, subst}
use Rattle.pi_constraints.specs.Constraint.{HoldsVariable, HoldVariable}
use Rattle.pi_store.specs.Added.{IsPutOn}
use Rattle.pi_store.proofs.AddLemmas.{adds_then}
use Rattle.pi_store.proofs.PutLemmas.{put_stops, put_then}
use Rattle.pi_store.proofs.post.put_on_element.Goals as goal

pub returns-then-not-put-clause-ok : goal.returns-then-not-put-clause-ok
returns-then-not-put-clause-ok c =
    put_stops (HoldsVariable c.args.index) (λ n. HoldVariable c.args.items.now n ⊎ HoldsVariable c.args.value n) c.args.words.now c.put_on_item.new.words c.args.number (subst (IsPutOn (HoldsVariable c.args.index) c.args.words.now c.put_on_item.new.words c.args.number) c.if-not-put.true c.in_ok-put.ensures.ok)

pub returns-clause-ok : goal.returns-clause-ok
returns-clause-ok c =
    put_then (HoldsVariable c.args.index) (λ n. HoldVariable c.args.items.now n ⊎ HoldsVariable c.args.value n) c.args.words.now c.put_on_item.new.words c.put_on_items_and_one.new.words c.args.number _ c.put_on_item.ensures.adds c.put_on_items_and_one.ensures.adds
    (subst (IsPutOn (HoldsVariable c.args.index) c.args.words.now c.put_on_item.new.words c.args.number) c.if-not-put.false c.in_ok-put.ensures.ok) c.in_ok-put_on_items_and_one.ensures.ok

pub returns-in_err-put_on_items_and_one-clause-adds : goal.returns-in_err-put_on_items_and_one-clause-adds
returns-in_err-put_on_items_and_one-clause-adds c = adds_then c.args.words.now c.put_on_item.new.words c.put_on_items_and_one.new.words c.put_on_item.ensures.adds c.put_on_items_and_one.ensures.adds

pub returns-clause-adds : goal.returns-clause-adds
returns-clause-adds c = adds_then c.args.words.now c.put_on_item.new.words c.put_on_items_and_one.new.words c.put_on_item.ensures.adds c.put_on_items_and_one.ensures.adds
