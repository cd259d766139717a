use Rattle.pi_queue.proofs.WaitingLemmas.{kept-take}
use Rattle.pi_queue.proofs.due.Due.take.Goals as goal

pub invariant_of-self-in-Some : goal.invariant_of-self-in-Some
invariant_of-self-in-Some c =
    kept-take c.self.inside.queue.items c.pop_front.new.self.items c.self.inside.waiting c.remove.new.self c.in-Some.i c.self.invariant c.in-Some.ensures.items c.remove.ensures.updates
