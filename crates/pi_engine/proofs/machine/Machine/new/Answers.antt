use Rattle.std.proofs.Common.{refl, sym, ◌∙◌, ap, subst}
use Rattle.pi_core.specs.CoreTree.{program_tree, query_tree}
use Rattle.pi_engine_arenas.specs.Arenas.{view_of}
use Rattle.pi_engine.proofs.RunsTold.{goes-on-in, new-runs}
use Rattle.pi_constraints.specs.Store.{Stays}
use Rattle.pi_engine.proofs.RunBegins.{undone-stays}
use Rattle.pi_engine.proofs.machine.Machine.new.Goals as goal

pub returns-in-Ok-begin-clause-runs : goal.returns-in-Ok-begin-clause-runs
returns-in-Ok-begin-clause-runs g c = λ empty sound calls free rules v view.
    new-runs v (record { code = c.in-Ok-begin.code; names = c.args.query.names; mode = c.args.mode; store = g.S.StateStore.seen c.begin.new.run.store; order = g.S.StateStore.order; arenas = view_of c.begin.new.run.arenas; now = c.begin.new.run.now })
    (program_tree c.args.core.now) (query_tree c.args.query) view refl sound rules
    (c.in-Ok-begin.ensures.begins c.args.query.names (c.in-Ok.ensures.ok.stays.state ∙ ap (λ s. (g.S.StateStore.seen s).now.state) c.new-run.ensures.store ∙ empty) c.new-run.ensures.arenas sound calls free)

pub returns-in-Ok-begin-clause-running : goal.returns-in-Ok-begin-clause-running
returns-in-Ok-begin-clause-running g c = goes-on-in c.begin.new.run.now c.in-Ok-begin.ensures.running

pub returns-clause-err : goal.returns-clause-err
returns-clause-err g c =
    subst (λ s. Stays (g.S.StateStore.seen c.args.store) (g.S.StateStore.seen s)) (sym c.into_store-in-Err.ensures)
    (subst (λ s. Stays (g.S.StateStore.seen s) (g.S.StateStore.seen c.undo.new.self)) c.new-run.ensures.store
    (undone-stays g.S.StateStore.order (g.S.StateStore.seen c.new-run.result.store) (g.S.StateStore.seen c.mark.new.self) (g.S.StateStore.seen c.begin.new.run.store) (g.S.StateStore.seen c.undo.new.self) c.in-Ok.start c.in-Ok.ensures.ok c.begin.ensures.keeps
    (c.undo.ensures (c.begin.ensures.keeps.good c.in-Ok.start c.in-Ok.ensures.ok.good))))
