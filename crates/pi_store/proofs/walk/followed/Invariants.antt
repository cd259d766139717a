use Rattle.std.proofs.Common.{◌≡◌, ◌-◌, length}
use Rattle.pi_store.specs.Walk.{steps_at, followed_at}
use Rattle.pi_store.proofs.walk.followed.Given as goal

abbrev pub invariant-loop : goal.invariant-loop
invariant-loop l = steps_at (length l.words.variables - l.counter) l.words.variables l.at ≡ followed_at l.words.variables l.fn.r
