-- Texts that are handed to a sink: each as one piece, and what the sink leaves of it as the next; and nothing in between.
use Rattle.std.specs.Prelude.{◌≡◌, ◌<◌, ◌≤◌, ℕ, List, [], ◌∷◌, ◌++◌, length, drop, None, Some, Result, Ok, Err}
use Rattle.pi_outside.specs.Writes.{SinkWrite}

-- the write of this piece, of which so many bytes were taken, or which failed
abbrev pub takes_of : List ℕ → ℕ → SinkWrite
takes_of piece count = record { piece = piece; took = Some count }

abbrev pub failed_write : List ℕ → SinkWrite
failed_write piece = record { piece = piece; took = None }

-- a text was handed over by these writes, and all of it was taken
pub data Hands : List ℕ → List SinkWrite → Type 0 where
  all_taken : Hands [] []
  took : (text : List ℕ) (count : ℕ) (writes : List SinkWrite) → 0 < count → count ≤ length text → Hands (drop count text) writes → Hands text (takes_of text count ∷ writes)

-- the last of these writes of a text, which handed over all of it or the rest, failed; the ones before it didn't
pub data Fails : List ℕ → List SinkWrite → Type 0 where
  failed : (text : List ℕ) → 0 < length text → Fails text (failed_write text ∷ [])
  fails_behind : (text : List ℕ) (count : ℕ) (writes : List SinkWrite) → 0 < count → count ≤ length text → Fails (drop count text) writes → Fails text (takes_of text count ∷ writes)

-- by whether it was handed over
abbrev pub HandsText : {T E : Type 0} → List ℕ → Result T E → List SinkWrite → Type 0
HandsText text (Ok x) writes = Hands text writes
HandsText text (Err e) writes = Fails text writes

-- texts were handed over, one after the other
pub data HandsAll : List (List ℕ) → List SinkWrite → Type 0 where
  none : HandsAll [] []
  one_more : (text : List ℕ) (texts : List (List ℕ)) (its more : List SinkWrite) → Hands text its → HandsAll texts more → HandsAll (text ∷ texts) (its ++ more)

-- Behind texts that were handed over, and some of these, the write of the next one of these failed, and was the last.
pub record FailsIn (done texts : List (List ℕ)) (writes : List SinkWrite) : Type 0 where
  pub front : List (List ℕ)
  pub text : List ℕ
  pub rest : List (List ℕ)
  pub are : texts ≡ front ++ text ∷ rest
  pub earlier : List SinkWrite
  pub last : List SinkWrite
  pub all : writes ≡ earlier ++ last
  pub handed : HandsAll (done ++ front) earlier
  pub fails : Fails text last

-- these writes handed over the texts of which this holds
pub record Written (P : List (List ℕ) → Type 0) (writes : List SinkWrite) : Type 0 where
  pub texts : List (List ℕ)
  pub comes : P texts
  pub handed : HandsAll texts writes
