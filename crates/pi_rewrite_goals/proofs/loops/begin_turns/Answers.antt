-- Where the turns of a loop stand.
use Rattle.std.proofs.Common.{length, refl, ◌∙◌, ap}
use Rattle.pi_syntax.specs.ExpTree.{exp_tree}
use Rattle.pi_rewrite_spec.specs.Sites.{inside, behind_exp}
use Rattle.pi_rewrite_sites.specs.SiteOf.{site_of}
use Rattle.pi_rewrite_loops.specs.Helpers.{loop_of}
use Rattle.pi_rewrite_goals.proofs.loops.begin_turns.Goals as goal

pub returns : goal.returns
returns c = record {
  whole = refl;
  first = c.in_ok-first.ensures ∙ ap (λ ms. inside (site_of c.args.site.now) (length ms) (loop_of c.args.whole).shared) c.in_ok-slots.ensures;
  second = c.in_ok-second.ensures ∙ ap (λ z. behind_exp z (exp_tree c.args.goal.now)) (c.in_ok-first.ensures ∙ ap (λ ms. inside (site_of c.args.site.now) (length ms) (loop_of c.args.whole).shared) c.in_ok-slots.ensures);
  slots = c.in_ok-slots.ensures;
  one = c.new.ensures.items;
  other = c.new-2.ensures.items;
}
