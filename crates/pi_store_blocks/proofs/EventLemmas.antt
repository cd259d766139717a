-- Events read back from their words.
use Rattle.std.proofs.Common.{◌≡◌, ℕ, ◌+◌, ◌*◌, ◌/◌, ◌%◌, ◌^◌, ◌<◌, ◌≤◌, List, [], ◌∷◌, ◌++◌, length, take, drop, refl, ap, sym, ◌∙◌, arith, append_assoc, append-nil}
use Rattle.std.specs.Prelude.{slice_index}
use Rattle.std.proofs.Math.ListN.{get_or}
use Rattle.std.proofs.lemmas.List.{take_more, length-drop, get_or-take}
use Rattle.pi_constraints.specs.declared.store.Ref.{Ref}
use Rattle.pi_constraints.specs.declared.event.Watch.{Watch}
use Rattle.pi_region.specs.Entry.{data_of, value_of}
use Rattle.pi_region.specs.Image.{Image, appended}
use Rattle.pi_region.proofs.EntryLemmas.{value_of-data_of}
use Rattle.pi_store_blocks.proofs.BlockLemmas.{drop_two}
use Rattle.pi_store_blocks.specs.Events.{watched, watch_number, watch_with, watch_of, watch_words, watches_of, HasSlot, HaveSlots}

abbrev Watches : Type 0
Watches = List Watch

abbrev Words : Type 0
Words = List ℕ

-- a kind and a slot as one number
with_slot : (r : Ref) (kind slot : ℕ) → kind < 8 → slot < 2 ^ 32 → watch_of r (slot * 8 + kind) ≡ watch_with kind r slot
with_slot r kind slot k s =
    let tag : (slot * 8 + kind) % 8 ≡ kind = omega arith in
    let rest : (slot * 8 + kind) / 8 % 2 ^ 32 ≡ slot = omega arith in
    ap (λ t. watch_with t r ((slot * 8 + kind) / 8 % 2 ^ 32)) tag ∙ ap (watch_with kind r) rest

number_back : (w : Watch) → HasSlot w → watch_of (watched w) (watch_number w) ≡ w
number_back (Watch.Ins r) h = refl
number_back (Watch.Bound r) h = refl
number_back (Watch.Dom r slot) h = with_slot r 2 slot (omega arith) h
number_back (Watch.DomAny r slot) h = with_slot r 3 slot (omega arith) h
number_back (Watch.Posted r slot) h = with_slot r 4 slot (omega arith) h

pub watches_back : (ws : Watches) → HaveSlots ws → watches_of (watch_words ws) ≡ ws
watches_back [] h = refl
watches_back (w ∷ ws) h =
    ap (λ v. watch_of (watched w) v ∷ watches_of (watch_words ws)) (value_of-data_of (watch_number w))
    ∙ (ap (λ v. v ∷ watches_of (watch_words ws)) (number_back w h.0)
    ∙ ap (λ l. w ∷ l) (watches_back ws h.1))

pub length_words : (ws : Watches) → length (watch_words ws) ≡ 2 * length ws
length_words [] = refl
length_words (w ∷ ws) = let h : length (watch_words ws) ≡ 2 * length ws = length_words ws in omega arith

words_append : (ws vs : Watches) → watch_words (ws ++ vs) ≡ watch_words ws ++ watch_words vs
words_append [] vs = refl
words_append (w ∷ ws) vs = ap (λ l. (watched w).number ∷ data_of (watch_number w) ∷ l) (words_append ws vs)

slots_append : (ws vs : Watches) → HaveSlots ws → HaveSlots vs → HaveSlots (ws ++ vs)
slots_append [] vs h g = g
slots_append (w ∷ ws) vs h g = (h.0, slots_append ws vs h.1 g)

-- one more event is written
pub appended_twice : (before old new : Image) (ws vs : Words) → old ≡ appended before ws → new ≡ appended old vs → new ≡ appended before (ws ++ vs)
appended_twice before old new ws vs o n = n ∙ (ap (λ (i : Image). appended i vs) o ∙ ap (λ r. record before { region = r }) (append_assoc before.region ws vs))

pub watch_written : (before old new : Image) (ws : Watches) (k : ℕ) (w : Watch) → k < length ws → old ≡ appended before (watch_words (take k ws))
    → new ≡ appended old (watch_words (get_or ws k w ∷ [])) → new ≡ appended before (watch_words (take (k + 1) ws))
watch_written before old new ws k w lt o n =
    let more : watch_words (take (k + 1) ws) ≡ watch_words (take k ws) ++ watch_words (get_or ws k w ∷ []) = ap watch_words (take_more ws k w lt) ∙ words_append (take k ws) (get_or ws k w ∷ []) in
    appended_twice before old new (watch_words (take k ws)) (watch_words (get_or ws k w ∷ [])) o n ∙ ap (λ l. appended before l) (sym more)

pub slots_more : (ws : Watches) (k : ℕ) (w : Watch) → k < length ws → HaveSlots (take k ws) → HaveSlots (get_or ws k w ∷ []) → HaveSlots (take (k + 1) ws)
slots_more ws k w lt h g = rw (take_more ws k w lt) (slots_append (take k ws) (get_or ws k w ∷ []) h g)

-- one more event is read
abbrev pub watch_in : Words → ℕ → Watch
watch_in ns at = watch_of (record { number = slice_index ns at }) (value_of (slice_index ns (at + 1)))

one_more : (ns : Words) (from k : ℕ) → from + 2 * k + 1 < length ns → watches_of (drop (from + 2 * k) ns) ≡ watch_in ns (from + 2 * k) ∷ watches_of (drop (from + 2 * (k + 1)) ns)
one_more ns from k lt =
    let next : from + 2 * k + 2 ≡ from + 2 * (k + 1) = omega arith in
    ap watches_of (drop_two ns (from + 2 * k) lt) ∙ ap (λ j. watch_in ns (from + 2 * k) ∷ watches_of (drop j ns)) next

few : (ns : Words) → length ns ≤ 1 → watches_of ns ≡ []
few [] le = refl
few (n ∷ []) le = refl
few (n ∷ m ∷ rest) le = absurd (omega arith)

pub watch_read : (ns : Words) (from k : ℕ) (before after all : Watches) (w : Watch) → after ≡ before ++ w ∷ [] → w ≡ watch_in ns (from + 2 * k) → from + 2 * k + 1 < length ns
    → before ++ watches_of (drop (from + 2 * k) ns) ≡ all → after ++ watches_of (drop (from + 2 * (k + 1)) ns) ≡ all
watch_read ns from k before after all w a e lt h =
    let behind : Watches = watches_of (drop (from + 2 * (k + 1)) ns) in
    ap (λ l. l ++ behind) a
    ∙ (append_assoc before (w ∷ []) behind
    ∙ (ap (λ u. before ++ u ∷ behind) e
    ∙ (ap (λ l. before ++ l) (sym (one_more ns from k lt))
    ∙ h)))

pub watches_read : (ns : Words) (from k : ℕ) (items all : Watches) → length ns ≤ from + 2 * k + 1 → items ++ watches_of (drop (from + 2 * k) ns) ≡ all → items ≡ all
watches_read ns from k items all le h =
    let none : watches_of (drop (from + 2 * k) ns) ≡ [] = few (drop (from + 2 * k) ns) (omega (arith, length-drop (from + 2 * k) ns)) in
    sym (append-nil items) ∙ (ap (λ l. items ++ l) (sym none) ∙ h)

-- words that stand within a length are read the same in the region cut to it
pub watch_cut : (len at : ℕ) (ns : Words) → at + 1 < len → watch_in (take len ns) at ≡ watch_in ns at
watch_cut len at ns lt =
    ap (λ n. watch_of (record { number = n }) (value_of (slice_index (take len ns) (at + 1)))) (get_or-take len ns at 0 (omega arith))
    ∙ ap (λ n. watch_of (record { number = slice_index ns at }) (value_of n)) (get_or-take len ns (at + 1) 0 lt)
