use Rattle.std.proofs.Common.{subst, sym}
use Rattle.pi_constraints.specs.Domain.{IsDomain}
use Rattle.pi_prop_places.proofs.NarrowedCuts.{front_domain}
use Rattle.pi_prop_places.proofs.cuts.drop_above.Goals as goal

pub lower_last-requires-clause-domain : goal.lower_last-requires-clause-domain
lower_last-requires-clause-domain c = subst IsDomain (sym c.truncate.ensures.items) (front_domain c.args.spans.now.items c.count_up_to-left.result c.requires)
