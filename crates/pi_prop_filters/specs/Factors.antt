-- What a factor keeps, where only the ends of the other factor and of the product are looked at. The definition is own.
use Rattle.std.specs.Prelude.{◌≡◌, ◌≢◌, ℤ, pos, ◌*ℤ◌, ◌≤ℤ◌}
use Rattle.pi_prop_filters.specs.declared.corners.Ends.{Ends}

-- the other factor has one value, and it isn't 0: so its product with n lies between the ends of the product
abbrev pub FactorStays : Ends → Ends → ℤ → Type 0
FactorStays other product n = other.lo ≡ other.hi → other.lo ≢ pos 0 → (product.lo ≤ℤ (other.lo *ℤ n)) × ((other.lo *ℤ n) ≤ℤ product.hi)
