-- The slots of names that are told, one name after the other.
use Rattle.std.proofs.Common.{◌≡◌, ℕ, ◌+◌, ◌<◌, ◌≤◌, List, [], ◌∷◌, ◌++◌, length, get_or, drop, refl, sym, ◌∙◌, ap, append_assoc}
use Rattle.std.specs.Borrow.{Bor}
use Rattle.std.proofs.lemmas.List.{append-nil, drop_more, drop_all}
use Rattle.pi_core.specs.declared.core_program.NameSlot.{NameSlot}
use Rattle.pi_rewrite_spec.specs.Slots.{SlotNames, slot_for, slots_for, named_slots, slots_behind}
use Rattle.pi_rewrite_slots.specs.Indexed.{names_in}

-- the first so many names have their slots
pub record NamedTo (names : List (Bor (List ℕ))) (i : ℕ) (before now : SlotNames) (made : List NameSlot) : Type 0 where
  pub slots : made ++ named_slots (names_in (drop i names)) now ≡ named_slots (names_in names) before
  pub behind : slots_behind (names_in (drop i names)) now ≡ slots_behind (names_in names) before

pub named-none : (names : List (Bor (List ℕ))) (before : SlotNames) (made : List NameSlot) → made ≡ [] → NamedTo names 0 before before made
named-none names before made is = record { slots = ap (λ xs. xs ++ named_slots (names_in names) before) is; behind = refl }

slotted : (x : NameSlot) (name : List ℕ) (k : ℕ) → x.name ≡ name → x.slot ≡ k → x ≡ record { name = name; slot = k }
slotted x name k p q = ap (λ (n : List ℕ). record { name = n; slot = x.slot }) p ∙ ap (λ (j : ℕ). record { name = name; slot = j }) q

pub named-more : (names : List (Bor (List ℕ))) (i : ℕ) (d : Bor (List ℕ)) (before now after : SlotNames) (made new : List NameSlot) (x : NameSlot) → i < length names → x.name ≡ (get_or names i d).now →
    x.slot ≡ slot_for (get_or names i d).now now → after ≡ slots_for (get_or names i d).now now → new ≡ made ++ x ∷ [] → NamedTo names i before now made → NamedTo names (i + 1) before after new
unfolding named_slots slots_behind
named-more names i d before now after made new x h named slot is put so =
    let name : List ℕ = (get_or names i d).now in
    let here : NameSlot = record { name = name; slot = slot_for name now } in
    let same : x ≡ here = slotted x name (slot_for name now) named slot in
    let rest : List (List ℕ) = names_in (drop (i + 1) names) in
    record {
      slots = ap (λ xs. xs ++ named_slots rest after) put ∙ (append_assoc made (x ∷ []) (named_slots rest after) ∙ (ap (λ y. made ++ y ∷ named_slots rest after) same
          ∙ (ap (λ ns. made ++ here ∷ named_slots rest ns) is ∙ (sym (ap (λ xs. made ++ named_slots (names_in xs) now) (drop_more names i d h)) ∙ so.slots))));
      behind = ap (slots_behind rest) is ∙ (sym (ap (λ xs. slots_behind (names_in xs) now) (drop_more names i d h)) ∙ so.behind);
    }

pub named-all : (names : List (Bor (List ℕ))) (i : ℕ) (before now : SlotNames) (made : List NameSlot) → length names ≤ i → NamedTo names i before now made → made ≡ named_slots (names_in names) before
unfolding named_slots
named-all names i before now made h so = sym (append-nil made) ∙ (sym (ap (λ xs. made ++ named_slots (names_in xs) now) (drop_all i names h)) ∙ so.slots)

pub behind-all : (names : List (Bor (List ℕ))) (i : ℕ) (before now : SlotNames) (made : List NameSlot) → length names ≤ i → NamedTo names i before now made → now ≡ slots_behind (names_in names) before
unfolding slots_behind
behind-all names i before now made h so = sym (ap (λ xs. slots_behind (names_in xs) now) (drop_all i names h)) ∙ so.behind
