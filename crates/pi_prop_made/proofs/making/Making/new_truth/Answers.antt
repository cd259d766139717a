use Rattle.pi_prop_made.specs.Making.{with_variable}
use Rattle.pi_prop_made.proofs.StandingLemmas.{new-truth}
use Rattle.pi_prop_made.proofs.making.Making.new_truth.Goals as goal

pub returns : goal.returns
returns c = λ m s.
    let v = c.in_ok-variable.ensures m s in
    new-truth c.in_ok-variable.variable m c.post_truth.new.self v.0 (c.in_ok-post_truth.ensures (with_variable m) v.1)
