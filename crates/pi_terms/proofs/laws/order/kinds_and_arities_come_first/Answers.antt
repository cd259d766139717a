use Rattle.pi_terms.proofs.OrderLawLemmas.{kinds_are_in_order, kinds_are_ordered_within, fewer_arguments_come_first, names_count_next, arguments_count_last}
use Rattle.pi_terms.proofs.laws.order.kinds_and_arities_come_first.Goals as goal

pub returns-clause-kinds : goal.returns-clause-kinds
returns-clause-kinds c = kinds_are_in_order

pub returns-clause-within : goal.returns-clause-within
returns-clause-within c = kinds_are_ordered_within

pub returns-clause-arities : goal.returns-clause-arities
returns-clause-arities c = fewer_arguments_come_first

pub returns-clause-names : goal.returns-clause-names
returns-clause-names c = names_count_next

pub returns-clause-arguments : goal.returns-clause-arguments
returns-clause-arguments c = arguments_count_last
