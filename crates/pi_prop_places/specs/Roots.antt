-- Which places aren't fixed, and which values make a sum 0. The definitions are own.
use Rattle.std.specs.Prelude.{◌≢◌, ℕ, ◌<◌, Bool, true, false, not, if◌then◌else◌, ◌==◌, List, ℤ, pos, ◌+ℤ◌, ◌*ℤ◌}
use Rattle.std.specs.Ordering.{int_eq}
use Rattle.pi_constraints.specs.declared.domain.Span.{Span}
use Rattle.pi_prop_spec.specs.Ends.{IsFixed}
use Rattle.pi_prop_spec.specs.Places.{domain_at}
use Rattle.pi_prop_spec.specs.Sums.{least_with}
use Rattle.pi_prop_places.specs.declared.roots.Open.{Open}

-- what is told of the first so many domains
abbrev pub ShowsOpen : List (List Span) → ℕ → Open → Type 0
ShowsOpen ds many Open.Nowhere = (j : ℕ) → j < many → IsFixed (domain_at ds j)
ShowsOpen ds many (Open.Once i) = (i < many) × (IsFixed (domain_at ds i) → ⊥) × ((j : ℕ) → j < many → j ≢ i → IsFixed (domain_at ds j))
ShowsOpen ds many Open.Often = (i : ℕ) × (j : ℕ) × (i < j) × (j < many) × (IsFixed (domain_at ds i) → ⊥) × (IsFixed (domain_at ds j) → ⊥)

-- all other places than k are fixed
abbrev pub are_others_fixed : Open → ℕ → Bool
are_others_fixed Open.Nowhere k = true
are_others_fixed (Open.Once i) k = k == i
are_others_fixed Open.Often k = false

-- a term with this coefficient and the value n isn't the negative of the rest
abbrev pub is_no_root : ℤ → ℤ → ℤ → Bool
is_no_root coefficient rest n = not (int_eq (coefficient *ℤ n +ℤ rest) (pos 0))

-- n doesn't make the sum 0 at place k, where all other places are fixed
abbrev pub roots_keep : Open → List (ℤ × ℕ) → ℤ → List (List Span) → ℕ → ℤ → Bool
roots_keep open_ terms constant ds k n = if are_others_fixed open_ k then not (int_eq (least_with terms constant ds k n) (pos 0)) else true

-- one more domain was looked at, and it is fixed or not
abbrev pub seen_open : Open → ℕ → Bool → Open
seen_open spot i true = spot
seen_open Open.Nowhere i false = Open.Once i
seen_open (Open.Once j) i false = Open.Often
seen_open Open.Often i false = Open.Often
