use Rattle.std.proofs.Common.{[], ◌∷◌, ◌++◌, refl, ap, ◌∙◌, rules, arith}
use Rattle.pi_meaning.specs.Shared.View.{query_view}
use Rattle.pi_top.specs.declared.runs.QueryRun.{QueryRun}
use Rattle.pi_top.proofs.starting.begin.Goals as goal

pub returns-clause-starts : goal.returns-clause-starts
returns-clause-starts g c = λ empty runnable some. record {
  runnable = runnable;
  runs = c.in-Ok.ensures.runs empty runnable.sound runnable.calls runnable.free runnable.rules (query_view []) refl;
  counts_ticks = c.in-Ok.ensures.mode;
  running = c.in-Ok.ensures.running;
  unspent = refl;
  workless = refl;
  within = record { ticks = omega arith; work = search rules };
  asked = some;
}

pub returns-clause-bounded : goal.returns-clause-bounded
returns-clause-bounded g c = record { within = record { ticks = omega arith; work = search rules }; its_bounds = refl }

pub returns-clause-listed : goal.returns-clause-listed
returns-clause-listed g c = c.in-Ok-push.ensures.ok ∙ ap (λ (r : QueryRun). c.args.queries.now ++ r ∷ []) c.run_of.ensures
