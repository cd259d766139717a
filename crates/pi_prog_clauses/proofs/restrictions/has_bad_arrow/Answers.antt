use Rattle.std.proofs.lemmas.Result.{IfOk-weaker}
use Rattle.pi_prog_clauses.proofs.restrictions.ArrowLemmas.{function_arrow, fact_arrow, rule_arrow}
use Rattle.pi_prog_clauses.proofs.restrictions.has_bad_arrow.Goals as goal

pub returns-in-Function : goal.returns-in-Function
returns-in-Function c = function_arrow _ _ c.in-Function.is

pub returns-in-Fact : goal.returns-in-Fact
returns-in-Fact c = fact_arrow _ _ c.in-Fact.is

pub returns-in-Rule : goal.returns-in-Rule
returns-in-Rule c = IfOk-weaker c.has_bad_action.result _ _ (λ made so. rule_arrow _ _ _ _ c.in-Rule.is c.deref.ensures so) c.has_bad_action.ensures
