-- An event that an agent waits for, as two words: its term, and its kind with its slot as one number.
use Rattle.std.specs.Prelude.{ℕ, zero, suc, ◌+◌, ◌*◌, ◌/◌, ◌%◌, ◌^◌, ◌<◌, List, [], ◌∷◌, ⊤}
use Rattle.pi_constraints.specs.declared.store.Ref.{Ref}
use Rattle.pi_constraints.specs.declared.event.Watch.{Watch}
use Rattle.pi_region.specs.Entry.{data_of, value_of}

abbrev pub watched : Watch → Ref
watched (Watch.Ins r) = r
watched (Watch.Bound r) = r
watched (Watch.Dom r slot) = r
watched (Watch.DomAny r slot) = r
watched (Watch.Posted r slot) = r

abbrev pub watch_number : Watch → ℕ
watch_number (Watch.Ins r) = 0
watch_number (Watch.Bound r) = 1
watch_number (Watch.Dom r slot) = slot * 8 + 2
watch_number (Watch.DomAny r slot) = slot * 8 + 3
watch_number (Watch.Posted r slot) = slot * 8 + 4

abbrev pub watch_with : ℕ → Ref → ℕ → Watch
watch_with zero r slot = Watch.Ins r
watch_with (suc zero) r slot = Watch.Bound r
watch_with (suc (suc zero)) r slot = Watch.Dom r slot
watch_with (suc (suc (suc zero))) r slot = Watch.DomAny r slot
watch_with (suc (suc (suc (suc k)))) r slot = Watch.Posted r slot

abbrev pub watch_of : Ref → ℕ → Watch
watch_of r number = watch_with (number % 8) r (number / 8 % 2 ^ 32)

abbrev pub watch_words : List Watch → List ℕ
watch_words [] = []
watch_words (w ∷ ws) = (watched w).number ∷ data_of (watch_number w) ∷ watch_words ws

-- the events that words say; a last one alone says none
abbrev pub watches_of : List ℕ → List Watch
watches_of [] = []
watches_of (r ∷ []) = []
watches_of (r ∷ w ∷ rest) = watch_of (record { number = r }) (value_of w) ∷ watches_of rest

-- its slot has 32 bits
abbrev pub HasSlot : Watch → Type 0
HasSlot (Watch.Ins r) = ⊤
HasSlot (Watch.Bound r) = ⊤
HasSlot (Watch.Dom r slot) = slot < 2 ^ 32
HasSlot (Watch.DomAny r slot) = slot < 2 ^ 32
HasSlot (Watch.Posted r slot) = slot < 2 ^ 32

abbrev pub HaveSlots : List Watch → Type 0
HaveSlots [] = ⊤
HaveSlots (w ∷ ws) = HasSlot w × HaveSlots ws
