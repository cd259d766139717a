-- A constraint of each kind is what the numbers of a block say, by its parts.
use Rattle.std.proofs.Common.{◌≡◌, ℕ, ℤ, List, drop, map, ap, sym, ◌∙◌}
use Rattle.std.specs.Prelude.{slice_index}
use Rattle.pi_constraints.specs.declared.constraint.Constraint.{Constraint}
use Rattle.pi_constraints.specs.declared.constraint.Item.{Item}
use Rattle.pi_constraints.specs.declared.constraint.Rel.{Rel}
use Rattle.pi_region.specs.Entry.{data_of}
use Rattle.pi_region.specs.Image.{Image, appended}
use Rattle.pi_store_blocks.specs.Items.{items_of}
use Rattle.pi_store_blocks.specs.Terms.{terms_of}
use Rattle.pi_store_blocks.specs.Head.{rel_of}
use Rattle.pi_store_blocks.specs.Constraint.{tail_of, constant_in, item_in, of_kind, constraint_in}

of_number : (ns : List ℕ) (kind : ℕ) (c : Constraint) → slice_index ns 0 ≡ kind → c ≡ of_kind kind ns → c ≡ constraint_in ns
of_number ns kind c e is = is ∙ ap (λ k. of_kind k ns) (sym e)

pub linear_is : (ns : List ℕ) (rel : Rel) (terms : List (ℤ × ℕ)) (constant : ℤ) → slice_index ns 0 ≡ 0 → rel ≡ rel_of (slice_index ns 1) → terms ≡ terms_of (drop 6 ns) → constant ≡ constant_in ns
    → Constraint.Linear rel terms constant ≡ constraint_in ns
linear_is ns rel terms constant e r t k = of_number ns 0 (Constraint.Linear rel terms constant) e (λ i. Constraint.Linear (r i) (t i) (k i))

pub product_is : (ns : List ℕ) (z x y : Item) → slice_index ns 0 ≡ 1 → z ≡ item_in ns 1 → x ≡ item_in ns 2 → y ≡ item_in ns 3 → Constraint.Product z x y ≡ constraint_in ns
product_is ns z x y e a b c = of_number ns 1 (Constraint.Product z x y) e (λ i. Constraint.Product (a i) (b i) (c i))

pub absolute_is : (ns : List ℕ) (z x : Item) → slice_index ns 0 ≡ 2 → z ≡ item_in ns 1 → x ≡ item_in ns 2 → Constraint.Absolute z x ≡ constraint_in ns
absolute_is ns z x e a b = of_number ns 2 (Constraint.Absolute z x) e (λ i. Constraint.Absolute (a i) (b i))

pub different_is : (ns : List ℕ) (items : List Item) → slice_index ns 0 ≡ 3 → items ≡ items_of (drop 6 ns) → Constraint.Different items ≡ constraint_in ns
different_is ns items e a = of_number ns 3 (Constraint.Different items) e (ap Constraint.Different a)

pub element_is : (ns : List ℕ) (index : Item) (items : List Item) (value : Item) → slice_index ns 0 ≡ 4 → index ≡ item_in ns 1 → items ≡ items_of (drop 6 ns) → value ≡ item_in ns 2
    → Constraint.Element index items value ≡ constraint_in ns
element_is ns index items value e a b c = of_number ns 4 (Constraint.Element index items value) e (λ i. Constraint.Element (a i) (b i) (c i))

pub reified_is : (ns : List ℕ) (truth : Item) (rel : Rel) (terms : List (ℤ × ℕ)) (constant : ℤ) → slice_index ns 0 ≡ 5 → truth ≡ item_in ns 5 → rel ≡ rel_of (slice_index ns 1) → terms ≡ terms_of (drop 6 ns)
    → constant ≡ constant_in ns → Constraint.Reified truth rel terms constant ≡ constraint_in ns
reified_is ns truth rel terms constant e a r t k = of_number ns 5 (Constraint.Reified truth rel terms constant) e (λ i. Constraint.Reified (a i) (r i) (t i) (k i))

-- what stands behind the head of a constraint, by its kind
pub tail_written : (before new : Image) (c : Constraint) (ns : List ℕ) → tail_of c ≡ ns → new ≡ appended before (map data_of ns) → new ≡ appended before (map data_of (tail_of c))
tail_written before new c ns e n = n ∙ ap (λ l. appended before (map data_of l)) (sym e)
