-- What a return to a mark restores, whatever calls stood between.
use Rattle.std.specs.Prelude.{◌≡◌, ◌≤◌, length, min}
use Rattle.pi_constraints.specs.Store.{IsGood, Keeps, Marks, Returns}
use Rattle.pi_store.specs.Held.{Holding}
use Rattle.pi_store.specs.Holding.{seen, order}
use Rattle.pi_store.specs.declared.mark.RawMark.{RawMark}

-- what came of a store behind a mark: by calls, each of which keeps what good marks bring back, and by returns to marks that
-- were made at this one or behind it
pub data Follows (m : RawMark) (s : Holding) : Holding → Type 0 where
  at_once : Follows m s s
  by_call : {t u : Holding} → Follows m s t → Keeps (seen t) (seen u) → Follows m s u
  by_return : {t u : Holding} (n : RawMark) → Follows m s t → IsGood (seen t) n → order m ≤ order n → Returns order (seen t) (seen u) n → Follows m s u

-- a return, as `undo` makes it
pub record IsUndone (t u : Holding) (m : RawMark) : Type 0 where
  pub returns : IsGood (seen t) m → Returns order (seen t) (seen u) m
  pub cut : length u.image.region ≡ min m.length (length t.image.region)

-- a store holds what another one held: the state in all its parts, the terms of Refs, what each mark that was good brings back, and
-- as many words
pub record IsRestored (s u : Holding) : Type 0 where
  pub state : (seen u).now.state ≡ (seen s).now.state
  pub terms : (seen u).now.terms ≡ (seen s).now.terms
  pub good : (n : RawMark) → IsGood (seen s) n → IsGood (seen u) n
  pub same : (n : RawMark) → IsGood (seen s) n → (seen u).at_mark n ≡ (seen s).at_mark n
  pub words : length u.image.region ≡ length s.image.region

-- a mark is made, whatever follows, and then there is a return to it
abbrev pub Restoration : Type 0
Restoration = (m : RawMark) (s t u : Holding) → Marks order (seen s) (seen s) m → Follows m s t → IsUndone t u m → IsRestored s u
