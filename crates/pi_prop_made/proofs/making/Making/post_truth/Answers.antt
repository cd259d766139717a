use Rattle.std.specs.Prelude.{pos, negsuc}
use Rattle.pi_prop_made.specs.Making.{with_constraint}
use Rattle.pi_prop_made.proofs.StandingLemmas.{single, one-keeps, opposite-keeps, truth-made}
use Rattle.pi_prop_made.proofs.making.Making.post_truth.Goals as goal

pub returns : goal.returns
returns c = λ m s.
    truth-made c.args.variable m c.post_single-2.new.self
    (c.in_ok-post_single-2.ensures (with_constraint m (single (pos 1) c.args.variable (negsuc 0))) (opposite-keeps c.args.variable) (c.in_ok-post_single.ensures m (one-keeps c.args.variable) s))
