use Rattle.pi_terms.proofs.NameLemmas.{names_by_code_points}
use Rattle.pi_terms.proofs.OrderLemmas.{order_total, equal_is_identity}
use Rattle.pi_terms.proofs.laws.order.terms_are_ordered.Goals as goal

pub returns-clause-total : goal.returns-clause-total
returns-clause-total c = order_total

pub returns-clause-identity : goal.returns-clause-identity
returns-clause-identity c = equal_is_identity

pub returns-clause-names : goal.returns-clause-names
returns-clause-names c = names_by_code_points
