use Rattle.std.proofs.Common.{rules, refl, ap₂, ◌∙◌}
use Rattle.std.specs.Prelude.{int_le}
use Rattle.std.specs.Int.{w64}
use Rattle.std.proofs.lemmas.Int.{to_z-of_z}
use Rattle.pi_sat_spec.proofs.LeftLemmas.{empty-left, at_most-is}
use Rattle.pi_sat_search.proofs.lookup.has_at_most.Goals as goal

pub returns-in-None : goal.returns-in-None
returns-in-None c = empty-left c.args.literal c.args.domain.now (c.in-None.ensures.none.0 refl)

pub returns-in-Some : goal.returns-in-Some
returns-in-Some c =
    ap₂ int_le (to_z-of_z w64 c.in-Some.least (search rules)) (to_z-of_z w64 c.args.literal.bound (search rules))
    ∙ at_most-is c.args.literal c.args.domain.now c.in-Some.least c.requires c.spans-spans.ensures.domain c.in-Some.ensures.some
