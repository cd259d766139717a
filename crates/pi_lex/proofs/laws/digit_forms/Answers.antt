use Rattle.pi_lex.proofs.FormsLemmas.{digits_end-is_digits, digits_end-digits}
use Rattle.pi_lex.proofs.laws.digit_forms.Goals as goal

pub returns-clause-found : goal.returns-clause-found
returns-clause-found c = digits_end-is_digits

pub returns-clause-all : goal.returns-clause-all
returns-clause-all c = digits_end-digits
