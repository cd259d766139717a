use Rattle.pi_unify.proofs.ahead.take_rest.Goals as goal

pub returns : goal.returns
returns g c = record { older = c.pop.new.self.items; was = c.in-Some.ensures.items; is = c.in_ok-leave_behind.ensures }
