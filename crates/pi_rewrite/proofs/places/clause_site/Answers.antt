-- Behind no names stand those of the head.
use Rattle.std.proofs.Common.{false, ◌++◌, refl, ap, ◌∙◌}
use Rattle.pi_syntax.specs.ExpTree.{exp_tree}
use Rattle.pi_rewrite_slots.specs.Indexed.{names_in}
use Rattle.pi_rewrite_sites.specs.OwnNames.{own_name}
use Rattle.pi_rewrite_sites.specs.SiteOf.{site_of}
use Rattle.pi_rewrite_sites.specs.TextNames.{names_of}
use Rattle.pi_rewrite.proofs.ClauseLemmas.{head-site}
use Rattle.pi_rewrite.proofs.places.clause_site.Goals as goal

pub returns : goal.returns
unfolding names_of
returns c =
    head-site (site_of (record { filled = c.args.filled; before = c.new.result; helpers = c.args.helpers; naming = c.args.naming })) (site_of c.step.new.self) (names_in c.new.result.items) (names_in c.as_slice.result.now) c.args.filled c.args.helpers
    (own_name c.args.naming.now.prefix) (exp_tree c.args.head.now) refl (ap names_in c.new.ensures.items)
    (ap names_in c.as_slice.ensures.value ∙ (c.in_ok-push_names.ensures ∙ ap (λ xs. names_in xs ++ names_of false (exp_tree c.args.head.now)) c.new-names.ensures.items)) c.in_ok-step.ensures
