-- A `foreach` has begun.
use Rattle.std.proofs.Common.{◌≡◌, [], refl, ◌∙◌, ap, subst}
use Rattle.pi_syntax.specs.ExpTree.{exp_tree}
use Rattle.pi_syntax.specs.ExpLists.{exps_of}
use Rattle.pi_meaning.specs.OverNames.Texts.{Names, assigned, kept_names}
use Rattle.pi_rewrite_spec.specs.Loops.{as_it_is}
use Rattle.pi_rewrite_spec.specs.Written.{Inner, inner_of}
use Rattle.pi_rewrite_slots.specs.Indexed.{names_in}
use Rattle.pi_rewrite_sites.specs.SiteOf.{site_of}
use Rattle.pi_rewrite_loops.specs.Helpers.{ending_of}
use Rattle.pi_rewrite_goals.specs.Planned.{inner_in}
use Rattle.pi_rewrite_goals.specs.Started.{Begins, loop_text, turns_at}
use Rattle.pi_rewrite_goals.proofs.IteratedLemmas.{foreach-keeps}
use Rattle.pi_rewrite_goals.proofs.whole.begin_foreach.Goals as goal

pub returns : goal.returns
returns c =
    let begins : Names → Inner → Type 0 = λ names j. Begins c.in_ok-start.start.whole (loop_text (site_of c.args.site.now) as_it_is names j (exps_of c.args.units.now)) c.args.slots.now (turns_at (site_of c.in_ok-start.start.inside.site) (ending_of c.in_ok-start.start.ending) c.in_ok-start.start.inside.goals.items c.in_ok-start.start.inside.slots) c.begin.new.slots in
    let kept : names_in c.as_slice.result.now ≡ kept_names (site_of c.args.site.now).before (exps_of c.args.units.now) (assigned (exp_tree c.args.body.now)) =
    foreach-keeps (site_of c.args.site.now) [] (names_in c.as_slice.result.now) (exp_tree c.args.body.now) (exps_of c.args.units.now) (inner_in c.in_ok-inner.inner) refl c.in_ok-inner.ensures (ap names_in c.as_slice.ensures.value ∙ c.in_ok-kept.ensures) in
    record {
      inner = c.in_ok-inner.ensures;
      begins = subst (λ names. begins names (inner_of (exp_tree c.args.body.now))) kept (subst (λ j. begins (names_in c.as_slice.result.now) j) c.in_ok-inner.ensures c.in_ok-start.ensures);
    }
