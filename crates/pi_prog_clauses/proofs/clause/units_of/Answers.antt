use Rattle.std.proofs.Common.{◌≡◌, length, refl, rules}
use Rattle.pi_prog_clauses.proofs.clause.ClauseLemmas.{units_none}
use Rattle.pi_prog_clauses.proofs.clause.units_of.Goals as goal

pub returns-then-is_empty : goal.returns-then-is_empty
returns-then-is_empty c =
    let empty : length c.args.units.items ≡ 0 = search rules in
    units_none c.args.units c.new.result _ empty c.new.ensures.items refl
