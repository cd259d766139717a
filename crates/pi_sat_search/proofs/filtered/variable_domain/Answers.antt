use Rattle.std.proofs.Common.{sym, subst, ◌∙◌}
use Rattle.pi_constraints.specs.Domain.{IsDomain}
use Rattle.pi_sat_spec.proofs.LookupLemmas.{domain-none, empty-domain, domain-at}
use Rattle.pi_sat_search.proofs.filtered.variable_domain.Goals as goal

pub new-requires-in-None : goal.new-requires-in-None
new-requires-in-None c = subst IsDomain (sym c.new.ensures.items) empty-domain

pub returns-in-None : goal.returns-in-None
returns-in-None c = c.new-in-None.ensures ∙ (c.new.ensures.items ∙ sym (domain-none c.args.present.now c.args.var c.in-None.ensures))

pub returns-in_ok-domain-in-Some : goal.returns-in_ok-domain-in-Some
returns-in_ok-domain-in-Some c = c.in_ok-domain-in-Some.ensures.ok ∙ sym (domain-at c.args.present.now c.args.var c.in-Some.i c.index-present-i.result c.in-Some.ensures)
