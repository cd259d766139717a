use Rattle.std.proofs.Common.{ap}
use Rattle.std.specs.Prelude.{option_copied, option_map}
use Rattle.pi_syntax.specs.ExpTree.{exp_tree}
use Rattle.pi_rewrite_sites.specs.SiteOf.{site_of}
use Rattle.pi_rewrite.proofs.ClauseLemmas.{pass-none}
use Rattle.pi_rewrite.proofs.places.pass_option.Goals as goal

pub returns-in-None : goal.returns-in-None
returns-in-None c = pass-none (site_of c.args.site.now) (option_map exp_tree (option_copied c.args.exp)) (ap (λ o. option_map exp_tree (option_copied o)) c.in-None.is)
