use Rattle.std.proofs.Common.{◌≡◌, ◌∷◌, [], ◌∙◌, codes, rules}
use Rattle.pi_syntax.specs.Tokens.{is_one_of}
use Rattle.pi_prog_clauses.proofs.restrictions.EventLemmas.{names_of_one}
use Rattle.pi_prog_clauses.proofs.restrictions.heads.is_name_of_one.Goals as goal

pub returns : goal.returns
returns c =
    let listed : c.is_among.result ≡ is_one_of (codes "ins" ∷ codes "bound" ∷ []) c.args.name.now = search rules in
    listed ∙ names_of_one c.args.name.now
