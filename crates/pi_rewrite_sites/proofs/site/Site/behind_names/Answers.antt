-- One step from where it stands.
use Rattle.std.proofs.Common.{refl, ap}
use Rattle.pi_syntax.specs.ExpTree.{exp_tree}
use Rattle.pi_meaning.specs.OverNames.Texts.{places}
use Rattle.pi_rewrite_slots.specs.Indexed.{names_in}
use Rattle.pi_rewrite_sites.specs.TextNames.{names_of}
use Rattle.pi_rewrite_sites.specs.SiteOf.{site_of}
use Rattle.pi_rewrite_sites.proofs.SiteLemmas.{step-behind}
use Rattle.pi_rewrite_sites.proofs.site.Site.behind_names.Goals as goal

pub returns : goal.returns
unfolding names_of
returns c =
    step-behind (site_of c.args.self.now) (site_of c.in_ok-made.made) (site_of c.step.new.self) (names_in c.as_slice.result.now) (names_in c.push_names.new.names.items) (names_in c.new-names.result.items) (places (exp_tree c.args.exp.now)) 0 0
    c.in_ok-step.ensures c.in_ok-made.ensures (ap names_in c.as_slice.ensures.value) c.in_ok-push_names.ensures (ap names_in c.new-names.ensures.items) refl
