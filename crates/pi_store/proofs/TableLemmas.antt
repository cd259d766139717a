-- A part of a state by the words of its table.
use Rattle.std.proofs.Common.{◌≡◌, ℕ, zero, suc, ◌<◌, List, [], ◌∷◌, length, map, Some, refl, arith}
use Rattle.std.specs.Prelude.{slice_get, slice_index}

pub get_mapped : {Y : Type 0} (f : ℕ → Y) (ws : List ℕ) (n : ℕ) → n < length ws → slice_get (map f ws) n ≡ Some (f (slice_index ws n))
get_mapped f [] n lt = absurd (omega arith)
get_mapped f (w ∷ ws) zero lt = refl
get_mapped f (w ∷ ws) (suc n) lt = get_mapped f ws n (omega arith)

pub mapped : {Y : Type 0} (f : ℕ → Y) (ws : List ℕ) (n : ℕ) (y : Y) → slice_get (map f ws) n ≡ Some y → (n < length ws) × (y ≡ f (slice_index ws n))
mapped f [] n y e = absurd (cc)
mapped f (w ∷ ws) zero y e = (omega arith, cc)
mapped f (w ∷ ws) (suc n) y e = let m = mapped f ws n y e in let lt : n < length ws = m.0 in (omega arith, m.1)
