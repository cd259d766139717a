use Rattle.std.proofs.Common.{subst, sym}
use Rattle.std.specs.Prelude.{ℤ}
use Rattle.std.specs.Int.{w64}
use Rattle.std.proofs.lemmas.Int.{to_z-of_z}
use Rattle.pi_constraints.specs.Domain.{IsDomain}
use Rattle.pi_sat_spec.specs.Domains.{only}
use Rattle.pi_sat_spec.proofs.PlaceLemmas.{only-domain}
use Rattle.pi_sat_search.proofs.filtered.only.Goals as goal

pub new-requires : goal.new-requires
new-requires c =
    subst IsDomain (sym c.in_ok-spans.ensures.items) (subst (λ (m : ℤ). IsDomain (only m)) (sym (to_z-of_z w64 c.args.n c.ranges.n)) (only-domain c.args.n c.requires))
