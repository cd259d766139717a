use Rattle.std.proofs.Common.{rules, refl, ◌∙◌}
use Rattle.std.specs.Int.{w64}
use Rattle.std.proofs.lemmas.Int.{to_z-of_z}
use Rattle.pi_sat_search.proofs.PickLemmas.{greatest-none, greatest-some}
use Rattle.pi_sat_search.proofs.picks.greatest_of.Goals as goal

pub returns-in-None-clause-greatest : goal.returns-in-None-clause-greatest
returns-in-None-clause-greatest c = greatest-none c.args.domain.now (c.in-None.ensures.none.0 refl)

pub returns-in-Some-clause-greatest : goal.returns-in-Some-clause-greatest
returns-in-Some-clause-greatest c = to_z-of_z w64 c.in-Some.greatest (search rules) ∙ greatest-some c.args.domain.now c.in-Some.greatest c.spans-spans.ensures.domain c.in-Some.ensures.some
