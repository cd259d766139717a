-- An entry of the trail as a word.
use Rattle.std.specs.Prelude.{ℕ, zero, suc, ◌+◌, ◌*◌, ◌/◌, ◌%◌}
use Rattle.pi_region.specs.declared.entry.Table.{Table}
use Rattle.pi_region.specs.declared.entry.Change.{Change}
use Rattle.pi_region.specs.declared.entry.Entry.{Entry}

abbrev pub table_number : Table → ℕ
table_number Table.Variables = 0
table_number Table.Constraints = 1
table_number Table.Agents = 2
table_number Table.Waiting = 3
table_number Table.Heads = 4

abbrev pub table_of : ℕ → Table
table_of zero = Table.Variables
table_of (suc zero) = Table.Constraints
table_of (suc (suc zero)) = Table.Agents
table_of (suc (suc (suc zero))) = Table.Waiting
table_of (suc (suc (suc (suc n)))) = Table.Heads

abbrev pub change_number : Change → ℕ
change_number Change.Pushed = 0
change_number Change.Filled = 1
change_number Change.Replaced = 2

abbrev pub change_of : ℕ → Change
change_of zero = Change.Pushed
change_of (suc zero) = Change.Filled
change_of (suc (suc n)) = Change.Replaced

-- A number as a word of the region that is no Ref: the lowest five bits of such a word are 7
abbrev pub data_of : ℕ → ℕ
data_of n = n * 32 + 7

abbrev pub value_of : ℕ → ℕ
value_of w = w / 32

-- an entry as a number: the table and the change stand below 16
abbrev pub entry_number : Entry → ℕ
entry_number e = e.link * 16 + table_number e.table * 3 + change_number e.change

abbrev pub numbered : ℕ → Entry
numbered n = record { link = n / 16; table = table_of (n % 16 / 3); change = change_of (n % 16 % 3) }

abbrev pub word_of : Entry → ℕ
word_of e = data_of (entry_number e)

abbrev pub entry_of : ℕ → Entry
entry_of w = numbered (value_of w)
