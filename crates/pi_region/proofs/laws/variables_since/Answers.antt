use Rattle.pi_region.proofs.SinceLemmas.{since_appended, since_pushed, since_other, since_replaced}
use Rattle.pi_region.proofs.laws.variables_since.Goals as goal

pub returns-clause-words : goal.returns-clause-words
returns-clause-words c = since_appended

pub returns-clause-push : goal.returns-clause-push
returns-clause-push c = since_pushed

pub returns-clause-other : goal.returns-clause-other
returns-clause-other c = since_other

pub returns-clause-it : goal.returns-clause-it
returns-clause-it c = since_replaced
