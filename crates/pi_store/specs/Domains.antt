-- Domains of variables, by their words.
use Rattle.std.specs.Prelude.{◌≡◌, ℕ, zero, suc, ◌*◌, ◌/◌, ◌%◌, ◌==◌, cond, List, Option, Some, None, slice_index}
use Rattle.pi_constraints.specs.Domain.{IsDomain}
use Rattle.pi_constraints.specs.declared.domain.Span.{Span}
use Rattle.pi_constraints.specs.declared.store.Ref.{Ref}
use Rattle.pi_region.specs.Image.{Image, replaced}
use Rattle.pi_region.specs.Back.{Advances}
use Rattle.pi_region.specs.declared.entry.Table.{Table}
use Rattle.pi_store_blocks.specs.Block.{block_at, Writes}
use Rattle.pi_store_blocks.specs.Domain.{bounds_of, domain_in}
use Rattle.pi_store.specs.Walk.{variable_at, followed_at}

-- the domain whose block ends at a place
abbrev pub domain_at : List ℕ → ℕ → List Span
domain_at words end = domain_in (block_at words end)

-- where the block ends that the word of a variable names: the eighth of a multiple of 8; 0 where it names none
abbrev pub domain_end : ℕ → ℕ
domain_end w = cond (w % 8 == 0) (w / 8) 0

abbrev pub domain_by_end : List ℕ → ℕ → Option (List Span)
domain_by_end words zero = None
domain_by_end words (suc last) = Some (domain_at words (suc last))

-- the domain of a variable with this word
abbrev pub domain_by : List ℕ → ℕ → Option (List Span)
domain_by words w = domain_by_end words (domain_end w)

abbrev pub domain_of_any : Image → Option ℕ → Option (List Span)
domain_of_any i None = None
domain_of_any i (Some n) = domain_by i.region (slice_index i.variables n)

-- the domain of the variable that a term is at its root
abbrev pub domain_of : Image → Ref → Option (List Span)
domain_of i r = domain_of_any i (variable_at (followed_at i.variables r))

-- another domain for a variable: its block, and then the variable's word
pub record Confined (old new : Image) (n : ℕ) (d : List Span) : Type 0 where
  pub mid : Image
  pub end : ℕ
  pub written : Writes old mid (bounds_of d) end
  pub set : new ≡ replaced mid Table.Variables n (8 * end)
  pub domain : IsDomain d
  pub advances : Advances old new
