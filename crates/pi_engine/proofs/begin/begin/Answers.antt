use Rattle.std.proofs.Common.{sym, subst}
use Rattle.pi_engine_arenas.specs.Arenas.{view_of}
use Rattle.pi_engine.specs.Turns.{IsRunning}
use Rattle.pi_engine.proofs.RunBegins.{run-begun}
use Rattle.pi_engine.proofs.begin.begin.Goals as goal

pub returns-clause-begins : goal.returns-clause-begins
returns-clause-begins g c = λ names empty none sound calls free.
    run-begun g.S.StateStore.order (g.S.StateStore.seen c.args.run.now.store) (g.S.StateStore.seen c.build_code.new.store) (view_of c.args.run.now.arenas) c.push_empty.new.self c.one_goal.result c.in_ok-code.code c.in_ok-code.place c.args.core.now.preds c.args.helpers
    c.args.goal.now names c.args.slots empty c.in_ok-code.ensures.stays c.in_ok-code.ensures.source c.in_ok-code.ensures.filled sound calls free none c.in_ok-push_empty.ensures.ok c.push_empty.ensures.kept c.one_goal.ensures

pub returns-clause-running : goal.returns-clause-running
returns-clause-running g c = subst IsRunning (sym c.one_goal.ensures) tt
