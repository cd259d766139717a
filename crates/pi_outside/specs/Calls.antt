-- The calls of an object in memory, some of which are to fail.
use Rattle.std.specs.Prelude.{ℕ, Bool, List, ◌==◌}
use Rattle.std.specs.List.{list_any}
use Rattle.pi_outside.specs.Faults.{one_more}

-- how many calls were made, which are to fail, by their numbers from 1 on, and how many failed
pub record Calls : Type 0 where
  pub made : ℕ
  pub failing : List ℕ
  pub faults : ℕ

-- the number of the next call; from call 2^64 - 1 on all have that number
abbrev pub next_call : Calls → ℕ
next_call calls = one_more calls.made

-- whether the next call is to fail
abbrev pub is_due : Calls → Bool
is_due calls = list_any (λ call. call == next_call calls) calls.failing

-- after a call that didn't fail
abbrev pub passed : Calls → Calls
passed calls = record calls { made = next_call calls }

-- after a call that failed
abbrev pub failed : Calls → Calls
failed calls = record calls { made = next_call calls; faults = one_more calls.faults }
