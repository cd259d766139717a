-- The way back along the trail: what the words were when the region had a length.
use Rattle.std.specs.Prelude.{◌≡◌, ℕ, zero, suc, ◌+◌, ◌-◌, ◌*◌, ◌%◌, ◌≤◌, nat_le, cond, min, List, length, take, slice_index, slice_set}
use Rattle.pi_region.specs.Entry.{value_of, entry_of}
use Rattle.pi_region.specs.Image.{Image, table_in, with_table, appended}
use Rattle.pi_region.specs.declared.entry.Change.{Change}
use Rattle.pi_region.specs.declared.entry.Entry.{Entry}

-- a table before a change, with the place that was changed and the word that was there
abbrev pub taken_back : Change → List ℕ → ℕ → ℕ → List ℕ
taken_back Change.Pushed xs place old = take (length xs - 1) xs
taken_back Change.Filled xs place old = slice_set xs place 0
taken_back Change.Replaced xs place old = slice_set xs place old

-- the same without an entry, which names this place and this word; the one before it is the newest then
abbrev pub without : Image → Entry → ℕ → ℕ → Image
without i e place old = with_table (record i { trail = min e.link (i.trail - 1) }) e.table (taken_back e.change (table_in i e.table) place old)

-- what the newest entry says: its last word; the place before it; the word that was there, in two parts
abbrev pub newest : Image → Entry
newest i = entry_of (slice_index i.region (i.trail - 1))

abbrev pub newest_place : Image → ℕ
newest_place i = value_of (slice_index i.region (i.trail - 2))

abbrev pub newest_old : Image → ℕ
newest_old i = value_of (slice_index i.region (i.trail - 4)) * 32 + value_of (slice_index i.region (i.trail - 3)) % 32

-- without the newest entry
unfoldable pub back_once : Image → Image
back_once i = without i (newest i) (newest_place i) (newest_old i)

-- without the entries that end past a length, so many at most
unfoldable pub back_for : ℕ → ℕ → Image → Image
back_for zero len i = i
back_for (suc k) len i = cond (nat_le i.trail len) i (back_for k len (back_once i))

-- without the entries that end past a length
abbrev pub back : ℕ → Image → Image
back len i = back_for i.trail len i

-- the region cut to a length
abbrev pub cut : ℕ → Image → Image
cut len i = record i { region = take len i.region }

-- what the words were when the region had this length
abbrev pub at_length : ℕ → Image → Image
at_length len i = cut len (back len i)

-- what was changed since can be taken back
pub record Advances (old new : Image) : Type 0 where
  pub longer : length old.region ≤ length new.region
  pub back : at_length (length old.region) new ≡ old

-- each image leads back to itself, and a way back may be taken in two parts
abbrev pub AdvancesFromItself : Type 0
AdvancesFromItself = (i : Image) → i.trail ≤ length i.region → Advances i i

-- more words in the region alone can be cut off again
abbrev pub AdvancesByWords : Type 0
AdvancesByWords = (i : Image) (ws : List ℕ) → i.trail ≤ length i.region → Advances i (appended i ws)

abbrev pub AdvancesThrough : Type 0
AdvancesThrough = (i j k : Image) → Advances i j → Advances j k → Advances i k

abbrev pub BackInTwoParts : Type 0
BackInTwoParts = (m n : ℕ) (i : Image) → m ≤ n → at_length m (at_length n i) ≡ at_length m i
