-- What is told of the places of a constraint whose filter ran where their values stand. (Own.)
use Rattle.std.specs.Prelude.{List, Option}
use Rattle.pi_constraints.specs.declared.constraint.Constraint.{Constraint}
use Rattle.pi_constraints.specs.declared.domain.Span.{Span}
use Rattle.pi_queue.specs.Changes.{AreTold}
use Rattle.pi_prop_filters.specs.Left.{AreLeft}

-- the filter of a constraint leaves some domains, and this is told of them
pub record IsFiltered (c : Constraint) (before : List (List Span)) (told : List (Option (List Span))) : Type 0 where
  pub after : List (List Span)
  pub left : AreLeft c before after
  pub is_told : AreTold before told after
