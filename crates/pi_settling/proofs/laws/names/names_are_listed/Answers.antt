use Rattle.std.proofs.Common.{◌∙◌}
use Rattle.pi_effects.specs.BuiltIns.{answer_in}
use Rattle.pi_effects.specs.Rows.{done_by}
use Rattle.pi_effects.proofs.RowLemmas.{some-map, lines-fit}
use Rattle.pi_settling.specs.DomainValues.{domain_functions}
use Rattle.pi_settling.specs.Goals.{constraint_goals}
use Rattle.pi_settling.specs.SolveCalls.{solve_calls}
use Rattle.pi_settling.proofs.laws.names.names_are_listed.Goals as goal

pub returns-clause-goals : goal.returns-clause-goals
returns-clause-goals c = λ name ts s. lines-fit constraint_goals name ts s

pub returns-clause-functions : goal.returns-clause-functions
returns-clause-functions c = λ name ts s. some-map (answer_in s) (done_by domain_functions name ts s) ∙ lines-fit domain_functions name ts s

pub returns-clause-labelling : goal.returns-clause-labelling
returns-clause-labelling c = λ name ts s. lines-fit solve_calls name ts s
