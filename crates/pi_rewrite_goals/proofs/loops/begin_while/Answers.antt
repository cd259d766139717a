-- The loop whose turns have begun.
use Rattle.std.proofs.Common.{subst}
use Rattle.std.proofs.lemmas.Result.{IfOk-weaker}
use Rattle.pi_syntax.specs.ExpTree.{exp_tree}
use Rattle.pi_rewrite_sites.specs.SiteOf.{site_of}
use Rattle.pi_rewrite_goals.specs.Turning.{HasTurns}
use Rattle.pi_rewrite_goals.proofs.loops.begin_while.Goals as goal

pub returns : goal.returns
returns c = IfOk-weaker c.begin_turns.result _ _ (λ turns so. subst (λ l. HasTurns (site_of c.args.site.now) l (exp_tree c.args.test.now) turns) c.in_ok-whole.ensures so) c.begin_turns.ensures
