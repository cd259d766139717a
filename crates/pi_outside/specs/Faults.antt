-- How an object of the outside counts its faults.
use Rattle.std.specs.Prelude.{◌≡◌, ◌⊎◌, ℕ, ◌+◌, ◌<◌, ◌≤◌, min, Option, None, Some}

-- the last value of a count, 2^64 - 1, at which it stands still
abbrev pub last_count : ℕ
last_count = 18446744073709551615

-- a count after one more fault
abbrev pub one_more : ℕ → ℕ
one_more count = min (count + 1) last_count

-- a count never falls
abbrev pub NeverFalls : ℕ → ℕ → Type 0
NeverFalls before after = before ≤ after

-- a count rose: it is greater than before, or stands at its last value
abbrev pub Rose : ℕ → ℕ → Type 0
Rose before after = (before < after) ⊎ (after ≡ last_count)

-- a call that failed, with no answer, is counted, and one that didn't isn't
abbrev pub CountsFault : {T : Type 0} → Option T → ℕ → ℕ → Type 0
CountsFault (Some answer) before after = after ≡ before
CountsFault None before after = Rose before after
