-- A comprehension has begun.
use Rattle.std.proofs.Common.{[], ◌∷◌, subst, ap}
use Rattle.pi_syntax.specs.ExpLists.{exps_of}
use Rattle.pi_meaning.specs.OverNames.Texts.{Names}
use Rattle.pi_rewrite_spec.specs.Loops.{started, in_order}
use Rattle.pi_rewrite_spec.specs.Written.{Inner}
use Rattle.pi_rewrite_slots.specs.Indexed.{names_in}
use Rattle.pi_rewrite_sites.specs.SiteOf.{site_of}
use Rattle.pi_rewrite_loops.specs.Parts.{AreGoals, goals_before}
use Rattle.pi_rewrite_loops.specs.Helpers.{ending_of}
use Rattle.pi_rewrite_goals.specs.Started.{Begins, loop_text, turns_at}
use Rattle.pi_rewrite_goals.proofs.whole.begin_comprehension.Goals as goal

pub returns : goal.returns
returns c = record {
  first = c.push_started.new.goals.items;
  within = c.in_ok-within.within;
  inner = c.in_ok-inner.ensures;
  site = c.in_ok-there.ensures;
  starts = subst (λ (names : Names). AreGoals (goals_before (started c.args.site.now.filled names c.args.slots.now)) c.args.goals.now.items c.push_started.new.goals.items c.push_started.new.slots) (ap names_in c.as_slice.ensures.value) c.in_ok-push_started.ensures;
  has_begun = c.in_ok-within.ensures;
  begins = subst (λ (j : Inner). Begins c.in_ok-start.start.whole (loop_text (site_of c.in_ok-there.there) (in_order c.args.is_array) ([] ∷ []) j (exps_of c.args.units.now)) c.in_ok-within.within (turns_at (site_of c.in_ok-start.start.inside.site) (ending_of c.in_ok-start.start.ending) c.in_ok-start.start.inside.goals.items c.in_ok-start.start.inside.slots) c.begin.new.slots) c.in_ok-inner.ensures c.in_ok-start.ensures;
}
