-- One step from where it stands.
use Rattle.std.proofs.Common.{ap}
use Rattle.pi_rewrite_slots.specs.Branches.{branches_in}
use Rattle.pi_meaning.specs.OverNames.Texts.{places_of_branches}
use Rattle.pi_rewrite_spec.specs.Sites.{helpers_in_branches}
use Rattle.pi_rewrite_slots.specs.Indexed.{names_in}
use Rattle.pi_rewrite_sites.specs.TextNames.{names_of_branches}
use Rattle.pi_rewrite_sites.specs.SiteOf.{site_of}
use Rattle.pi_rewrite_sites.proofs.SiteLemmas.{step-behind}
use Rattle.pi_rewrite_sites.proofs.site.Site.behind_branches.Goals as goal

pub returns : goal.returns
unfolding names_of_branches
returns c =
    step-behind (site_of c.args.self.now) (site_of c.in_ok-made.made) (site_of c.step.new.self) (names_in c.as_slice.result.now) (names_in c.push_names_of_branches.new.names.items) (names_in c.new-names.result.items) (places_of_branches (branches_in c.args.branches.now)) c.in_ok-helpers.helpers (helpers_in_branches (branches_in c.args.branches.now))
    c.in_ok-step.ensures c.in_ok-made.ensures (ap names_in c.as_slice.ensures.value) c.in_ok-push_names_of_branches.ensures (ap names_in c.new-names.ensures.items) c.in_ok-helpers.ensures
