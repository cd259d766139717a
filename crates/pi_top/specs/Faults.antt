-- How the faults of the outside are counted in a call, and which of them an answer tells of.
use Rattle.std.specs.Prelude.{◌≡◌, ℕ, Result, IfErr, OnOk}
use Rattle.pi_outside.specs.Faults.{NeverFalls, Rose}
use Rattle.pi_top.specs.declared.query.Stop.{Stop}
use Rattle.pi_top.specs.declared.query.Stop.TheVariants.{Write, Memory}

-- an object's count of faults before a call and after it
pub record FaultCount : Type 0 where
  pub before : ℕ
  pub after : ℕ

abbrev pub counted : ℕ → ℕ → FaultCount
counted before after = record { before = before; after = after }

-- no call on the object failed
abbrev pub Stands : FaultCount → Type 0
Stands count = count.after ≡ count.before

-- one did
abbrev pub Rises : FaultCount → Type 0
Rises count = Rose count.before count.after

-- Between these counts of a sink's faults a part of a run came to this: with Ok and where memory is wanted no fault was counted,
-- and it stopped for a write only where the count rose.
pub record TellsWrites {T : Type 0} (before after : ℕ) (answer : Result T Stop) : Type 0 where
  pub no_fault : OnOk answer (after ≡ before)
  pub write : IfErr answer (λ e. e ≡ Write → Rose before after)
  pub memory : IfErr answer (λ e. e ≡ Memory → after ≡ before)
  pub never_falls : NeverFalls before after
