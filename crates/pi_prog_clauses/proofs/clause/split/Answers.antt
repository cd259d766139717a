use Rattle.std.proofs.Common.{◌≡◌, length, refl, rules}
use Rattle.std.proofs.lemmas.Result.{IfOk-weaker}
use Rattle.pi_prog_clauses.proofs.clause.ClauseLemmas.{split_whole, split_nothing}
use Rattle.pi_prog_clauses.proofs.clause.split.Goals as goal

pub returns-in-Some : goal.returns-in-Some
returns-in-Some c = IfOk-weaker c.split_last.result _ _ (λ made so. split_whole _ _ _ _ c.in-Some.ensures.items so) c.split_last.ensures

pub returns-in-None : goal.returns-in-None
returns-in-None c =
    let empty : length c.args.units.items ≡ 0 = search rules in
    split_nothing _ _ _ _ empty c.in-None.ensures.items c.new.ensures.items refl
