use Rattle.std.proofs.Common.{◌≡◌, length, arith, rules}
use Rattle.pi_prog_clauses.proofs.clause.ClauseLemmas.{condition_none, condition_one, condition_many}
use Rattle.pi_prog_clauses.proofs.clause.condition.Goals as goal

pub returns-then-count-eq0 : goal.returns-then-count-eq0
returns-then-count-eq0 c =
    let count : c.len-count.result ≡ length c.args.conditions.items = search rules in
    condition_none _ (omega (arith, count))

pub returns-then-count-eq1 : goal.returns-then-count-eq1
returns-then-count-eq1 c =
    let count : c.len-count.result ≡ length c.args.conditions.items = search rules in
    condition_one _ _ (omega (arith, count)) c.remove-condition.ensures.value

pub returns : goal.returns
returns c =
    let count : c.len-count.result ≡ length c.args.conditions.items = search rules in
    condition_many c.args.conditions (omega (arith, count))
