-- Tables of an image: another table, region or trail leaves the rest.
use Rattle.std.proofs.Common.{◌≡◌, ℕ, List, refl}
use Rattle.pi_region.specs.Image.{Image, table_in, with_table}
use Rattle.pi_region.specs.Back.{cut}
use Rattle.pi_region.specs.declared.entry.Table.{Table}

pub region_with : (i : Image) (t : Table) (xs : List ℕ) → (with_table i t xs).region ≡ i.region
region_with i Table.Variables xs = refl
region_with i Table.Constraints xs = refl
region_with i Table.Agents xs = refl
region_with i Table.Waiting xs = refl
region_with i Table.Heads xs = refl

pub trail_with : (i : Image) (t : Table) (xs : List ℕ) → (with_table i t xs).trail ≡ i.trail
trail_with i Table.Variables xs = refl
trail_with i Table.Constraints xs = refl
trail_with i Table.Agents xs = refl
trail_with i Table.Waiting xs = refl
trail_with i Table.Heads xs = refl

pub table_with : (i : Image) (t : Table) (xs : List ℕ) → table_in (with_table i t xs) t ≡ xs
table_with i Table.Variables xs = refl
table_with i Table.Constraints xs = refl
table_with i Table.Agents xs = refl
table_with i Table.Waiting xs = refl
table_with i Table.Heads xs = refl

pub with_same : (i : Image) (t : Table) → with_table i t (table_in i t) ≡ i
with_same i Table.Variables = refl
with_same i Table.Constraints = refl
with_same i Table.Agents = refl
with_same i Table.Waiting = refl
with_same i Table.Heads = refl

pub table_at : (i : Image) (t : Table) (r : List ℕ) (k : ℕ) → table_in (record i { region = r; trail = k }) t ≡ table_in i t
table_at i Table.Variables r k = refl
table_at i Table.Constraints r k = refl
table_at i Table.Agents r k = refl
table_at i Table.Waiting r k = refl
table_at i Table.Heads r k = refl

pub with_at : (i : Image) (t : Table) (xs r : List ℕ) (k : ℕ) → with_table (record i { region = r; trail = k }) t xs ≡ record (with_table i t xs) { region = r; trail = k }
with_at i Table.Variables xs r k = refl
with_at i Table.Constraints xs r k = refl
with_at i Table.Agents xs r k = refl
with_at i Table.Waiting xs r k = refl
with_at i Table.Heads xs r k = refl

pub with_back : (i : Image) (t : Table) (xs ys r : List ℕ) (k m : ℕ) → with_table (record (with_table i t xs) { region = r; trail = k }) t ys ≡ record (with_table i t ys) { region = r; trail = k }
with_back i Table.Variables xs ys r k m = refl
with_back i Table.Constraints xs ys r k m = refl
with_back i Table.Agents xs ys r k m = refl
with_back i Table.Waiting xs ys r k m = refl
with_back i Table.Heads xs ys r k m = refl

pub with_cut : (n : ℕ) (i : Image) (t : Table) (xs : List ℕ) (k : ℕ) → with_table (record (cut n i) { trail = k }) t xs ≡ cut n (with_table (record i { trail = k }) t xs)
with_cut n i Table.Variables xs k = refl
with_cut n i Table.Constraints xs k = refl
with_cut n i Table.Agents xs k = refl
with_cut n i Table.Waiting xs k = refl
with_cut n i Table.Heads xs k = refl

pub table_cut : (n : ℕ) (i : Image) (t : Table) → table_in (cut n i) t ≡ table_in i t
table_cut n i Table.Variables = refl
table_cut n i Table.Constraints = refl
table_cut n i Table.Agents = refl
table_cut n i Table.Waiting = refl
table_cut n i Table.Heads = refl
