use Rattle.pi_where.proofs.LineLemmas.{text_lines_one, text_not_lacking, text_not_faulty}
use Rattle.pi_where.proofs.laws.lines_are_one.Goals as goal

pub returns-clause-one : goal.returns-clause-one
returns-clause-one c = λ text number found other. text_lines_one text number found other (c.one_reading.ensures text)

pub returns-clause-not_lacking : goal.returns-clause-not_lacking
returns-clause-not_lacking c = λ text number found. text_not_lacking text number found (c.one_reading.ensures text)

pub returns-clause-not_faulty : goal.returns-clause-not_faulty
returns-clause-not_faulty c = λ text number found. text_not_faulty text number found (c.one_reading.ensures text)
