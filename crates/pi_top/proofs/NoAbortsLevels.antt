-- Levels whose calls don't end in an exception that no `catch` catches; and settling, which ends in none.
use Rattle.std.proofs.Common.{ℕ, zero, suc, List, Option, Some, None}
use Rattle.pi_terms.specs.Tree.{Trees}
use Rattle.pi_constraints.specs.State.{State}
use Rattle.pi_traces.specs.Trace.{Trace}
use Rattle.pi_settling.specs.Settled.{loaded}
use Rattle.pi_settling.specs.Settle.{answer_with}
use Rattle.pi_meaning.specs.Shared.Settle.{settlement, settled, settled_from}
use Rattle.pi_meaning.specs.Shared.Level.{Level, lowest, over, Calls, calls_at}
use Rattle.pi_top.proofs.NoAborts.{NoAbort, Anything}

-- ---- levels

-- no call at this level, nor at a lower one, ends so
pub record CallsSafe (c : Calls) : Type 0 where
  pub called : (name : List ℕ) (ts : Trees) (s : State) → NoAbort Anything (c.called name ts s)
  pub applied : (name : List ℕ) (ts : Trees) (s : State) → NoAbort Anything (c.applied name ts s)
  pub drained : (s : State) → NoAbort Anything (c.drained s)

abbrev pub IsSafe : Level → Type 0
IsSafe (lowest c) = CallsSafe c
IsSafe (over c l) = CallsSafe c × IsSafe l

pub calls-safe : (l : Level) → IsSafe l → CallsSafe (calls_at l)
unfolding NoAbort
calls-safe (lowest c) safe = safe
calls-safe (over c l) safe = safe.0

-- ---- what is settled

no-loaded : (n : ℕ) (t : Trace State) → NoAbort Anything t → NoAbort Anything (loaded n t)
unfolding loaded NoAbort
no-loaded zero t a = a
no-loaded (suc n) t a = a

no-left : (o : Option State) → NoAbort Anything (answer_with o)
unfolding NoAbort
no-left None = tt
no-left (Some r) = (tt, tt)

pub no-settled : (before s : State) → NoAbort Anything (settled before s)
unfolding settled
no-settled before s = no-loaded (settlement before s).load (answer_with (settlement before s).left) (no-left (settlement before s).left)

pub no-settled_from : (before : State) (o : Option State) → NoAbort Anything (settled_from before o)
unfolding NoAbort
no-settled_from before None = tt
no-settled_from before (Some r) = no-settled before r
