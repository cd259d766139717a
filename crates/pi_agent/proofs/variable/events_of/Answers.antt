use Rattle.std.specs.Option.{option_copied}
use Rattle.std.proofs.Common.{ap}
use Rattle.pi_agent.proofs.EventLemmas.{without-old, without-new, with-both}
use Rattle.pi_agent.proofs.variable.events_of.Goals as goal

pub returns-in-None : goal.returns-in-None
returns-in-None c = without-old c.args.v (option_copied c.args.old) (option_copied c.args.new) c.args.bound_now c.in_ok-events.events (ap option_copied c.in-None.is) c.in_ok-events.ensures

pub returns-in-None-new : goal.returns-in-None-new
returns-in-None-new c = without-new c.args.v (option_copied c.args.old) (option_copied c.args.new) c.args.bound_now c.in-Some.old.now c.in_ok-events.events (ap option_copied c.in-Some.is) (ap option_copied c.in-None-new.is) c.in_ok-events.ensures

pub returns-in_ok-push_excluded-in-Some-new : goal.returns-in_ok-push_excluded-in-Some-new
returns-in_ok-push_excluded-in-Some-new c =
    with-both c.args.v (option_copied c.args.old) (option_copied c.args.new) c.args.bound_now c.in-Some.old.now c.in-Some-new.new.now c.in_ok-events.events c.push_bound.new.events c.push_excluded.new.events (ap option_copied c.in-Some.is) (ap option_copied c.in-Some-new.is)
    c.in_ok-events.ensures c.in_ok-push_bound-in-Some-new.ensures c.in_ok-push_excluded-in-Some-new.ensures
