use Rattle.std.proofs.Common.{rules, sym, ap₂, ◌∙◌}
use Rattle.std.specs.Int.{w64, w128}
use Rattle.std.proofs.lemmas.Int.{to_z-of_z}
use Rattle.pi_constraints.specs.Domain.{has_value}
use Rattle.pi_sat_spec.proofs.LookupLemmas.{none-bound, domain-at}
use Rattle.pi_sat_check.proofs.lookup.has_bound.Goals as goal

pub returns-in-None : goal.returns-in-None
returns-in-None c = none-bound c.args.domains.now c.args.literal.var c.args.literal.bound c.in-None.ensures

pub returns-in-Some : goal.returns-in-Some
returns-in-Some c =
    c.contains.ensures
    ∙ ap₂ has_value (sym (domain-at c.args.domains.now c.args.literal.var c.in-Some.i c.index-domains-i.result c.in-Some.ensures)) (to_z-of_z w128 c.from.result (search rules) ∙ (c.from.ensures ∙ to_z-of_z w64 c.args.literal.bound (search rules)))
