-- The stack below what runs, and what is known of the present state with it.
use Rattle.std.proofs.Common.{List}
use Rattle.pi_meaning.specs.Machine.Configuration.{Entry as EntryData, Now as NowData, going, settling, telling, failed, raising}
use Rattle.pi_engine_stands.specs.Stands.{World, StackLies, StackStands, StackBelow}
use Rattle.pi_engine_stands.specs.Rests.{Rests}

pub stack-lies : {M : Type 0} (w : World M) (es : List EntryData) → StackStands w es → StackLies w es
stack-lies w es is = record { code = is.code; tables = is.tables; level = is.level; kept = is.kept; stack = is.stack }

pub lies-stand : {M : Type 0} (w : World M) (es : List EntryData) → StackLies w es → Rests w.store.now.state → StackStands w es
lies-stand w es is state = record { code = is.code; state = state; tables = is.tables; level = is.level; kept = is.kept; stack = is.stack }

-- a stack is below whatever runs
pub any-below : {M : Type 0} (w : World M) (x : NowData) (es : List EntryData) → StackStands w es → StackBelow w x es
any-below w (going gs e s k) es is = is
any-below w (settling before s gs e k) es is = stack-lies w es is
any-below w (telling text gs e s k) es is = is
any-below w failed es is = stack-lies w es is
any-below w (raising ball) es is = stack-lies w es is

pub below-lies : {M : Type 0} (w : World M) (x : NowData) (es : List EntryData) → StackBelow w x es → StackLies w es
below-lies w (going gs e s k) es is = stack-lies w es is
below-lies w (settling before s gs e k) es is = is
below-lies w (telling text gs e s k) es is = stack-lies w es is
below-lies w failed es is = is
below-lies w (raising ball) es is = is
