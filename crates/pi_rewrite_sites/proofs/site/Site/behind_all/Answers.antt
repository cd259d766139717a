-- One step from where it stands.
use Rattle.std.proofs.Common.{ap}
use Rattle.pi_syntax.specs.ExpLists.{exps_of}
use Rattle.pi_meaning.specs.OverNames.Texts.{places_all}
use Rattle.pi_rewrite_spec.specs.Sites.{helpers_in_all}
use Rattle.pi_rewrite_slots.specs.Indexed.{names_in}
use Rattle.pi_rewrite_sites.specs.TextNames.{names_of_all}
use Rattle.pi_rewrite_sites.specs.SiteOf.{site_of}
use Rattle.pi_rewrite_sites.proofs.SiteLemmas.{step-behind}
use Rattle.pi_rewrite_sites.proofs.site.Site.behind_all.Goals as goal

pub returns : goal.returns
unfolding names_of_all
returns c =
    step-behind (site_of c.args.self.now) (site_of c.in_ok-made.made) (site_of c.step.new.self) (names_in c.as_slice.result.now) (names_in c.push_names_of_all.new.names.items) (names_in c.new-names.result.items) (places_all (exps_of c.args.exps.now)) c.in_ok-helpers.helpers (helpers_in_all (exps_of c.args.exps.now))
    c.in_ok-step.ensures c.in_ok-made.ensures (ap names_in c.as_slice.ensures.value) c.in_ok-push_names_of_all.ensures (ap names_in c.new-names.ensures.items) c.in_ok-helpers.ensures
