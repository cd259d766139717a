-- An entry is what its word says.
use Rattle.std.proofs.Common.{◌≡◌, ℕ, ◌+◌, ◌*◌, ◌/◌, ◌%◌, ◌<◌, refl, ap, ◌∙◌, lit<, add_assoc}
use Rattle.std.proofs.lemmas.Nat.{div-mul-add, mod-mul-add}
use Rattle.pi_region.specs.Entry.{table_number, table_of, change_number, change_of, data_of, value_of, entry_number, numbered, word_of, entry_of}
use Rattle.pi_region.specs.declared.entry.Table.{Table}
use Rattle.pi_region.specs.declared.entry.Change.{Change}
use Rattle.pi_region.specs.declared.entry.Entry.{Entry}

-- the table and the change as one number
abbrev pub code : Table → Change → ℕ
code t c = table_number t * 3 + change_number c

pub code_below : (t : Table) (c : Change) → code t c < 16
code_below Table.Variables Change.Pushed = lit< tt
code_below Table.Variables Change.Filled = lit< tt
code_below Table.Variables Change.Replaced = lit< tt
code_below Table.Constraints Change.Pushed = lit< tt
code_below Table.Constraints Change.Filled = lit< tt
code_below Table.Constraints Change.Replaced = lit< tt
code_below Table.Agents Change.Pushed = lit< tt
code_below Table.Agents Change.Filled = lit< tt
code_below Table.Agents Change.Replaced = lit< tt
code_below Table.Waiting Change.Pushed = lit< tt
code_below Table.Waiting Change.Filled = lit< tt
code_below Table.Waiting Change.Replaced = lit< tt
code_below Table.Heads Change.Pushed = lit< tt
code_below Table.Heads Change.Filled = lit< tt
code_below Table.Heads Change.Replaced = lit< tt

table_of_code : (t : Table) (c : Change) → table_of (code t c / 3) ≡ t
table_of_code Table.Variables Change.Pushed = refl
table_of_code Table.Variables Change.Filled = refl
table_of_code Table.Variables Change.Replaced = refl
table_of_code Table.Constraints Change.Pushed = refl
table_of_code Table.Constraints Change.Filled = refl
table_of_code Table.Constraints Change.Replaced = refl
table_of_code Table.Agents Change.Pushed = refl
table_of_code Table.Agents Change.Filled = refl
table_of_code Table.Agents Change.Replaced = refl
table_of_code Table.Waiting Change.Pushed = refl
table_of_code Table.Waiting Change.Filled = refl
table_of_code Table.Waiting Change.Replaced = refl
table_of_code Table.Heads Change.Pushed = refl
table_of_code Table.Heads Change.Filled = refl
table_of_code Table.Heads Change.Replaced = refl

change_of_code : (t : Table) (c : Change) → change_of (code t c % 3) ≡ c
change_of_code Table.Variables Change.Pushed = refl
change_of_code Table.Variables Change.Filled = refl
change_of_code Table.Variables Change.Replaced = refl
change_of_code Table.Constraints Change.Pushed = refl
change_of_code Table.Constraints Change.Filled = refl
change_of_code Table.Constraints Change.Replaced = refl
change_of_code Table.Agents Change.Pushed = refl
change_of_code Table.Agents Change.Filled = refl
change_of_code Table.Agents Change.Replaced = refl
change_of_code Table.Waiting Change.Pushed = refl
change_of_code Table.Waiting Change.Filled = refl
change_of_code Table.Waiting Change.Replaced = refl
change_of_code Table.Heads Change.Pushed = refl
change_of_code Table.Heads Change.Filled = refl
change_of_code Table.Heads Change.Replaced = refl

abbrev made : ℕ → Table → Change → Entry
made n t c = record { link = n; table = t; change = c }

number_is : (n : ℕ) (t : Table) (c : Change) → entry_number (made n t c) ≡ n * 16 + code t c
number_is n t c = add_assoc (n * 16) (table_number t * 3) (change_number c)

same : (k : ℕ) (u : Table) (d : Change) (n : ℕ) (t : Table) (c : Change) → k ≡ n → u ≡ t → d ≡ c → made k u d ≡ made n t c
same k u d n t c a b e = ap (λ (j : ℕ). made j u d) a ∙ (ap (λ (v : Table). made n v d) b ∙ ap (λ (f : Change). made n t f) e)

pub value_of-data_of : (n : ℕ) → value_of (data_of n) ≡ n
value_of-data_of n = div-mul-add n 32 7 (lit< tt)

numbered-number : (n : ℕ) (t : Table) (c : Change) → numbered (entry_number (made n t c)) ≡ made n t c
numbered-number n t c =
    let w : ℕ = n * 16 + code t c in
    let high : w / 16 ≡ n = div-mul-add n 16 (code t c) (code_below t c) in
    let low : w % 16 ≡ code t c = mod-mul-add n 16 (code t c) (code_below t c) in
    let table : table_of (w % 16 / 3) ≡ t = ap (λ k. table_of (k / 3)) low ∙ table_of_code t c in
    let change : change_of (w % 16 % 3) ≡ c = ap (λ k. change_of (k % 3)) low ∙ change_of_code t c in
    ap numbered (number_is n t c) ∙ same (w / 16) (table_of (w % 16 / 3)) (change_of (w % 16 % 3)) n t c high table change

pub entry_of-word_of : (n : ℕ) (t : Table) (c : Change) → entry_of (word_of (record { link = n; table = t; change = c })) ≡ record { link = n; table = t; change = c }
entry_of-word_of n t c = ap numbered (value_of-data_of (entry_number (made n t c))) ∙ numbered-number n t c
