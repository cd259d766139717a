use Rattle.std.proofs.Common.{List, sym, ap, ◌∙◌}
use Rattle.std.specs.Prelude.{not}
use Rattle.pi_constraints.specs.declared.domain.Span.{Span}
use Rattle.pi_sat_spec.specs.Literals.{left_by}
use Rattle.pi_sat_spec.specs.Domains.{has_none}
use Rattle.pi_sat_spec.proofs.LookupLemmas.{none-allowed, domain-at}
use Rattle.pi_sat_search.proofs.lookup.is_allowed.Goals as goal

pub returns-in-None : goal.returns-in-None
returns-in-None c = none-allowed c.args.domains.now c.args.literal c.in-None.ensures

pub returns-in-Some : goal.returns-in-Some
returns-in-Some c =
    c.allows.ensures
    ∙ ap (λ (d : List Span). not (has_none (left_by c.args.literal d))) (sym (domain-at c.args.domains.now c.args.literal.var c.in-Some.i c.index-domains-i.result c.in-Some.ensures))
