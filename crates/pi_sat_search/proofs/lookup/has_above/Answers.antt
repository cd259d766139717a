use Rattle.std.proofs.Common.{rules, refl, ap₂, ◌∙◌}
use Rattle.std.specs.Prelude.{int_lt}
use Rattle.std.specs.Int.{w64}
use Rattle.std.proofs.lemmas.Int.{to_z-of_z}
use Rattle.pi_sat_spec.proofs.LeftLemmas.{empty-left, above-is}
use Rattle.pi_sat_search.proofs.lookup.has_above.Goals as goal

pub returns-in-None : goal.returns-in-None
returns-in-None c = empty-left c.args.literal c.args.domain.now (c.in-None.ensures.none.0 refl)

pub returns-in-Some : goal.returns-in-Some
returns-in-Some c =
    ap₂ int_lt (to_z-of_z w64 c.args.literal.bound (search rules)) (to_z-of_z w64 c.in-Some.greatest (search rules))
    ∙ above-is c.args.literal c.args.domain.now c.in-Some.greatest c.requires c.spans-spans.ensures.domain c.in-Some.ensures.some
