use Rattle.std.specs.Prelude.{ℕ, pos, negsuc}
use Rattle.pi_prop_made.specs.Making.{with_constraint, with_variable}
use Rattle.pi_prop_made.proofs.StandingLemmas.{single, itself-keeps, without-keeps, never-made}
use Rattle.pi_prop_made.proofs.making.Making.post_never.Goals as goal

pub returns : goal.returns
returns c = λ m s.
    let n : ℕ = c.in_ok-variable.variable in
    let v = c.in_ok-variable.ensures m s in
    never-made n m c.post_single-2.new.self v.0 (c.in_ok-post_single-2.ensures (with_constraint (with_variable m) (single (pos 1) n (pos 0))) (without-keeps n) (c.in_ok-post_single.ensures (with_variable m) (itself-keeps n) v.1))
