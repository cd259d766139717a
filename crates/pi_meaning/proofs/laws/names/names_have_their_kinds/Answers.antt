use Rattle.pi_meaning.proofs.OverNames.BuiltInNames.{names-have-their-kinds, other-names-are_free}
use Rattle.pi_meaning.proofs.laws.names.names_have_their_kinds.Goals as goal

pub returns-clause-kinds : goal.returns-clause-kinds
returns-clause-kinds c = names-have-their-kinds

pub returns-clause-free : goal.returns-clause-free
returns-clause-free c = other-names-are_free
