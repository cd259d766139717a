-- Items as numbers.
use Rattle.std.proofs.Common.{◌≡◌, inl, inr, ℕ, ◌+◌, ◌*◌, ◌/◌, ◌%◌, ◌^◌, ◌<◌, ◌≤◌, List, [], ◌∷◌, ◌++◌, length, take, drop, map, ℤ, pos, negsuc, refl, ap, sym, ◌∙◌, arith, append_assoc, append-nil}
use Rattle.std.specs.Prelude.{slice_index}
use Rattle.std.proofs.Math.ListN.{get_or}
use Rattle.std.proofs.lemmas.Int.{ints}
use Rattle.std.proofs.lemmas.List.{map_more, drop_more, drop_all}
use Rattle.pi_constraints.specs.Domain.{IsWithinBounds}
use Rattle.pi_constraints.specs.Constraint.{IsItem, AreItems, HoldsVariable, HoldVariable}
use Rattle.pi_constraints.specs.declared.constraint.Item.{Item}
use Rattle.pi_region.specs.Entry.{data_of}
use Rattle.pi_region.specs.Image.{Image, appended}
use Rattle.pi_store_blocks.specs.Numbers.{IsMovable, moved_up, moved_down}
use Rattle.pi_store_blocks.proofs.NumberLemmas.{moved_back}
use Rattle.pi_store_blocks.proofs.BlockLemmas.{appended_then}
use Rattle.pi_store_blocks.specs.Items.{item_number, item_with, item_of, item_numbers, items_of}

abbrev Items : Type 0
Items = List Item

even : (n : ℕ) → item_of (n * 2) ≡ Item.Var n
even n =
    let tag : n * 2 % 2 ≡ 0 = omega arith in
    let rest : n * 2 / 2 ≡ n = omega arith in
    ap (λ t. item_with t (n * 2 / 2)) tag ∙ ap Item.Var rest

odd : (n : ℕ) → item_of (n * 2 + 1) ≡ Item.Int (moved_down n)
odd n =
    let tag : (n * 2 + 1) % 2 ≡ 1 = omega arith in
    let rest : (n * 2 + 1) / 2 ≡ n = omega arith in
    ap (λ t. item_with t ((n * 2 + 1) / 2)) tag ∙ ap (λ k. Item.Int (moved_down k)) rest

movable : (n : ℤ) → IsWithinBounds n → IsMovable n
movable (pos n) h = omega (arith, ints, h.1)
movable (negsuc n) h = omega (arith, ints, h.0)

pub item_back : (i : Item) → IsItem i → ((n : ℕ) → HoldsVariable i n → n < 2 ^ 58) → item_of (item_number i) ≡ i
item_back (Item.Var m) h b =
    let lt : m < 2 ^ 58 = b m refl in
    let same : m % 2 ^ 58 ≡ m = omega arith in
    even (m % 2 ^ 58) ∙ ap Item.Var same
item_back (Item.Int z) h b = odd (moved_up z) ∙ ap Item.Int (moved_back z (movable z h))

pub items_back : (is : Items) → AreItems is → ((n : ℕ) → HoldVariable is n → n < 2 ^ 58) → items_of (item_numbers is) ≡ is
unfolding AreItems HoldVariable
items_back [] h b = refl
items_back (i ∷ is) h b =
    ap (λ x. x ∷ items_of (item_numbers is)) (item_back i h.0 (λ n v. b n (inl v))) ∙ ap (λ l. i ∷ l) (items_back is h.1 (λ n v. b n (inr v)))

pub item_written : (before old new : Image) (is : Items) (k : ℕ) (i : Item) → k < length is → old ≡ appended before (map data_of (item_numbers (take k is)))
    → new ≡ appended old (data_of (item_number (get_or is k i)) ∷ []) → new ≡ appended before (map data_of (item_numbers (take (k + 1) is)))
item_written before old new is k i lt o n =
    appended_then before old new (item_numbers (take k is)) (item_number (get_or is k i) ∷ []) o n ∙ ap (λ l. appended before (map data_of l)) (sym (map_more item_number is k i lt))

pub item_read : (ns : List ℕ) (k : ℕ) (before after all : Items) (i : Item) → after ≡ before ++ i ∷ [] → i ≡ item_of (slice_index ns k) → k < length ns
    → before ++ items_of (drop k ns) ≡ all → after ++ items_of (drop (k + 1) ns) ≡ all
item_read ns k before after all i a e lt h =
    let behind : Items = items_of (drop (k + 1) ns) in
    ap (λ l. l ++ behind) a
    ∙ (append_assoc before (i ∷ []) behind
    ∙ (ap (λ t. before ++ t ∷ behind) e
    ∙ (ap (λ l. before ++ items_of l) (sym (drop_more ns k 0 lt))
    ∙ h)))

pub items_read : (ns : List ℕ) (k : ℕ) (items all : Items) → length ns ≤ k → items ++ items_of (drop k ns) ≡ all → items ≡ all
items_read ns k items all le h = sym (append-nil items) ∙ (ap (λ l. items ++ items_of l) (sym (drop_all k ns le)) ∙ h)
