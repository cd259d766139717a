use Rattle.pi_store_blocks.proofs.BuiltLemmas.{stays_then}
use Rattle.pi_store.specs.Holding.{seen}
use Rattle.pi_store.specs.Waiting.{activation_tree}
use Rattle.pi_store.proofs.WaitLemmas.{waits_to, value_below}
use Rattle.pi_store.proofs.PartLemmas.{on_err}
use Rattle.pi_store.proofs.store.RawStore.wait.Goals as goal

pub returns-in_err-add_waiting-clause-err : goal.returns-in_err-add_waiting-clause-err
returns-in_err-add_waiting-clause-err c =
    let v = seen c.args.self.now in
    let w = seen c.put_activation.new.self in
    let x = seen c.add_waiting.new.self in
    on_err c.from_residual-in_err-add_waiting.result _ (stays_then v w x c.put_activation.ensures.stays c.in_err-add_waiting.ensures.err)

pub returns-clause-ok : goal.returns-clause-ok
returns-clause-ok c = λ is.
    let v = seen c.args.self.now in
    let w = seen c.put_activation.new.self in
    let x = seen c.add_waiting.new.self in
    let a = c.args.a.now in
    let term = c.in_ok-made.ensures.ok (value_below v.now.state c.args.a.now is) in
    waits_to v w x c.args.a.now.agent c.args.a.now.watch c.args.a.now.value c.in_ok-made.ensures.small.0 c.in_ok-made.ensures.small.1 c.put_activation.ensures.stays
    (c.in_ok-add_waiting.ensures.ok (activation_tree c.args.a.now.agent c.args.a.now.watch c.args.a.now.value) term)
