use Rattle.pi_settling.proofs.DrainLemmas.{draining_does_more_by}
use Rattle.std.specs.Prelude.{◌≡◌}
use Rattle.pi_settling.proofs.laws.agents.draining_does_more.Goals as goal

pub returns : goal.returns
returns g c = draining_does_more_by (λ x y. x ≡ y)
