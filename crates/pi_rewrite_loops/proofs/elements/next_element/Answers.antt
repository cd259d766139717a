use Rattle.std.proofs.lemmas.Result.{IfOk-weaker}
use Rattle.pi_rewrite_loops.specs.Helpers.{loop_of}
use Rattle.pi_rewrite_loops.proofs.WalkLemmas.{next-is}
use Rattle.pi_rewrite_loops.proofs.elements.next_element.Goals as goal

pub returns : goal.returns
returns c =
    IfOk-weaker c.call.result _ _ (λ made so. next-is (loop_of c.args.l.now) c.args.first c.in_ok-count.count c.new-args.result.items c.push_slots.new.terms.items c.deref.result.now c.as_str.result.now made c.in_ok-count.ensures c.new-args.ensures.items c.in_ok-push_slots.ensures c.deref.ensures.value c.as_str.ensures so) c.call.ensures.ok
