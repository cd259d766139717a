-- A head fills the slots that there are behind it.
use Rattle.std.proofs.Common.{[], ap, ◌∙◌}
use Rattle.pi_syntax.specs.ExpTree.{exp_tree}
use Rattle.pi_meaning.specs.OverNames.Texts.{behind, places}
use Rattle.pi_rewrite_sites.specs.OwnNames.{own_name}
use Rattle.pi_rewrite.proofs.ClauseLemmas.{site}
use Rattle.pi_rewrite.proofs.clauses.begin.Goals as goal

pub returns-clause-site : goal.returns-clause-site
returns-clause-site c = c.in_ok-site.ensures ∙ ap (λ n. site n (behind [] (places (exp_tree c.args.head.now))) c.args.from.count (own_name c.args.from.naming.now.prefix)) c.in_ok-filled.ensures
