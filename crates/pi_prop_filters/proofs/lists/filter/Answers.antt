use Rattle.std.proofs.Common.{List, subst, sym}
use Rattle.pi_constraints.specs.declared.domain.Span.{Span}
use Rattle.pi_prop_filters.specs.Left.{AreLeft}
use Rattle.pi_prop_filters.proofs.lists.filter.Goals as goal

pub returns : goal.returns
returns c =
    subst (λ (ds : List (List Span)). AreLeft c.args.constraint.now c.args.domains.now ds) (sym c.in_ok-made.ensures)
    (subst (λ (ds : List (List Span)). AreLeft c.args.constraint.now ds c.narrow.new.places.items) c.in_ok-left.ensures c.in_ok-narrow.ensures)
