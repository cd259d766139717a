use Rattle.std.proofs.Common.{refl}
use Rattle.pi_prog_clauses.proofs.clause.ClauseLemmas.{rule_formed, function_formed}
use Rattle.pi_prog_clauses.proofs.clause.rule_of.Goals as goal

pub returns-in_ok-function-in-Equation : goal.returns-in_ok-function-in-Equation
returns-in_ok-function-in-Equation c = λ left first split.
    function_formed _ left _ _ _ _ _ _ _ _ _ first split c.condition-cond.ensures c.in-Equation.ensures c.in_ok-behind-in-Equation.ensures.ok refl c.in_ok-function-in-Equation.ensures.ok refl refl

pub returns-in_ok-rule-in-Alone : goal.returns-in_ok-rule-in-Alone
returns-in_ok-rule-in-Alone c = λ left first split.
    rule_formed _ left _ _ _ _ _ _ _ _ first split c.condition-cond.ensures c.in-Alone.ensures c.in_ok-between-in-Alone.ensures.cond c.in_ok-between-in-Alone.ensures.events refl c.in_ok-rule-in-Alone.ensures.ok refl refl
