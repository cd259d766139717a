-- What a region with its tables and its trail holds.
use Rattle.std.specs.Prelude.{ℕ, zero, suc, ◌/◌, ◌%◌, List, [], ◌∷◌, ◌++◌, length, map, slice_index, slice_set}
use Rattle.pi_constraints.specs.declared.store.Ref.{Ref}
use Rattle.pi_region.specs.declared.entry.Table.{Table}
use Rattle.pi_region.specs.declared.entry.Change.{Change}
use Rattle.pi_region.specs.Entry.{data_of, word_of}

-- the region; the place behind the newest entry of the trail in it, 0 where there is none; the tables beside it
pub record Image : Type 0 where
  pub region : List ℕ
  pub trail : ℕ
  pub variables : List ℕ
  pub constraints : List ℕ
  pub agents : List ℕ
  pub waiting : List ℕ
  pub heads : List ℕ

-- the words of a table
abbrev pub table_in : Image → Table → List ℕ
table_in i Table.Variables = i.variables
table_in i Table.Constraints = i.constraints
table_in i Table.Agents = i.agents
table_in i Table.Waiting = i.waiting
table_in i Table.Heads = i.heads

-- other words in a table
abbrev pub with_table : Image → Table → List ℕ → Image
with_table i Table.Variables xs = record i { variables = xs }
with_table i Table.Constraints xs = record i { constraints = xs }
with_table i Table.Agents xs = record i { agents = xs }
with_table i Table.Waiting xs = record i { waiting = xs }
with_table i Table.Heads xs = record i { heads = xs }

abbrev pub numbers_of : List Ref → List ℕ
numbers_of rs = map (λ r. r.number) rs

-- more words in the region
abbrev pub appended : Image → List ℕ → Image
appended i ws = record i { region = i.region ++ ws }

-- an entry at the end of the region, the newest of the trail
abbrev pub logged : Image → List ℕ → Image
logged i ws = record i { region = i.region ++ ws; trail = length (i.region ++ ws) }

-- one more word in a table, with an entry that says so
abbrev pub pushed : Image → Table → ℕ → Image
pushed i t w = logged (with_table i t (table_in i t ++ w ∷ [])) (word_of (record { link = i.trail; table = t; change = Change.Pushed }) ∷ [])

-- the entry for another word at a place: behind the place, and behind the word that was there where it isn't zero, in two parts
abbrev pub replacing : ℕ → Table → ℕ → ℕ → List ℕ
replacing link t place zero = data_of place ∷ word_of (record { link = link; table = t; change = Change.Filled }) ∷ []
replacing link t place (suc n) = data_of (suc n / 32) ∷ data_of (suc n % 32) ∷ data_of place ∷ word_of (record { link = link; table = t; change = Change.Replaced }) ∷ []

-- another word at a place of a table, with an entry that says what was there
abbrev pub replaced : Image → Table → ℕ → ℕ → Image
replaced i t place w = logged (with_table i t (slice_set (table_in i t) place w)) (replacing i.trail t place (slice_index (table_in i t) place))
