use Rattle.std.proofs.Common.{sym, ap, ◌∙◌, option_copied}
use Rattle.pi_types.proofs.StandingLemmas.{count-by, domain-by, none-domain}
use Rattle.pi_types.proofs.tree_store.state.TreeState.span_count.Goals as goal

pub returns-in-Some-clause-count : goal.returns-in-Some-clause-count
returns-in-Some-clause-count c = count-by _ _ _ (sym (ap option_copied c.in-Some.is) ∙ c.domain_ref.ensures) c.count_of.ensures.count

pub returns-in-Some-clause-domain : goal.returns-in-Some-clause-domain
returns-in-Some-clause-domain c = domain-by _ _ (sym (ap option_copied c.in-Some.is) ∙ c.domain_ref.ensures) c.count_of.ensures.domain

pub returns-in-None-clause-domain : goal.returns-in-None-clause-domain
returns-in-None-clause-domain c = none-domain _ (sym (ap option_copied c.in-None.is) ∙ c.domain_ref.ensures)
