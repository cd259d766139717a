use Rattle.std.proofs.Common.{◌⊎◌, subst}
use Rattle.pi_constraints.specs.Constraint.{HoldsVariable}
use Rattle.pi_store.specs.Added.{IsPutOn}
use Rattle.pi_store.proofs.AddLemmas.{adds_then}
use Rattle.pi_store.proofs.PutLemmas.{put_stops, put_then}
use Rattle.pi_store.proofs.post.put_on_three.Goals as goal

pub returns-then-not-put-clause-ok : goal.returns-then-not-put-clause-ok
returns-then-not-put-clause-ok c =
    put_stops (HoldsVariable c.args.first) (λ n. HoldsVariable c.args.second n ⊎ HoldsVariable c.args.third n) c.args.words.now c.put_on_item.new.words c.args.number (subst (IsPutOn (HoldsVariable c.args.first) c.args.words.now c.put_on_item.new.words c.args.number) c.if-not-put.true c.in_ok-put.ensures.ok)

pub returns-clause-ok : goal.returns-clause-ok
returns-clause-ok c =
    put_then (HoldsVariable c.args.first) (λ n. HoldsVariable c.args.second n ⊎ HoldsVariable c.args.third n) c.args.words.now c.put_on_item.new.words c.put_on_two.new.words c.args.number _ c.put_on_item.ensures.adds c.put_on_two.ensures.adds
    (subst (IsPutOn (HoldsVariable c.args.first) c.args.words.now c.put_on_item.new.words c.args.number) c.if-not-put.false c.in_ok-put.ensures.ok) c.in_ok-put_on_two.ensures.ok

pub returns-in_err-put_on_two-clause-adds : goal.returns-in_err-put_on_two-clause-adds
returns-in_err-put_on_two-clause-adds c = adds_then c.args.words.now c.put_on_item.new.words c.put_on_two.new.words c.put_on_item.ensures.adds c.put_on_two.ensures.adds

pub returns-clause-adds : goal.returns-clause-adds
returns-clause-adds c = adds_then c.args.words.now c.put_on_item.new.words c.put_on_two.new.words c.put_on_item.ensures.adds c.put_on_two.ensures.adds
