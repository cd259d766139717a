use Rattle.pi_lex.proofs.FormsLemmas.{closing_place-is_spelled, quoted_all}
use Rattle.pi_lex.proofs.laws.quoted_forms.Goals as goal

pub returns-clause-found : goal.returns-clause-found
returns-clause-found c = closing_place-is_spelled

pub returns-clause-all : goal.returns-clause-all
returns-clause-all c = quoted_all
