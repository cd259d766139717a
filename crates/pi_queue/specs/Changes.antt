-- What becomes of places that were read in a store. (Own.)
use Rattle.std.specs.Prelude.{◌≡◌, ℕ, ◌<◌, List, length, Option, None, unwrap_or, get_or}
use Rattle.pi_constraints.specs.declared.domain.Span.{Span}
use Rattle.pi_prop_spec.specs.Places.{domain_at}

-- each place has what is told of it; and one of which nothing is told has what it had before
pub record AreTold (before : List (List Span)) (told : List (Option (List Span))) (after : List (List Span)) : Type 0 where
  pub count : length told ≡ length after
  pub same : (k : ℕ) → k < length after → domain_at after k ≡ unwrap_or (get_or told k None) (domain_at before k)
