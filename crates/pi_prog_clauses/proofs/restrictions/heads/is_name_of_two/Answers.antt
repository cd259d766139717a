use Rattle.std.proofs.Common.{◌≡◌, ◌∷◌, [], ◌∙◌, codes, rules}
use Rattle.pi_syntax.specs.Tokens.{is_one_of}
use Rattle.pi_prog_clauses.proofs.restrictions.EventLemmas.{names_of_two}
use Rattle.pi_prog_clauses.proofs.restrictions.heads.is_name_of_two.Goals as goal

pub returns : goal.returns
returns c =
    let listed : c.is_among.result ≡ is_one_of (codes "dom" ∷ codes "dom_any" ∷ codes "event" ∷ []) c.args.name.now = search rules in
    listed ∙ names_of_two c.args.name.now
