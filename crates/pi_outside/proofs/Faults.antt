-- A count of faults over a run of calls.
use Rattle.std.proofs.Common.{inl, inr, ℕ, arith}
use Rattle.std.proofs.lemmas.Bool.{cases_lt}
use Rattle.pi_outside.specs.Faults.{last_count, one_more, NeverFalls, Rose}

-- one more fault makes a count rise
pub Rose-one_more : (count : ℕ) → Rose count (one_more count)
Rose-one_more count = elim (cases_lt count last_count) [
  | inl below ↦ inl (omega arith)
  | inr last ↦ inr (omega arith)
]

-- a run whose last call made the count rise
pub Rose-after : (start before after : ℕ) → NeverFalls start before → Rose before after → Rose start after
Rose-after start before after run (inl greater) = inl (omega arith)
Rose-after start before after run (inr last) = inr last

-- a run goes on after a call that made the count rise
pub Rose-then : (before after end : ℕ) → NeverFalls before after → Rose before after → NeverFalls after end → Rose before end
Rose-then before after end call (inl greater) run = inl (omega arith)
Rose-then before after end call (inr last) run = elim (cases_lt before end) [
  | inl greater ↦ inl greater
  | inr same ↦ inr (omega arith)
]
