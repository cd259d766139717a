use Rattle.std.proofs.Common.{Ok, ap}
use Rattle.pi_effects.specs.declared.fault.Stop.{Stop}
use Rattle.pi_lib_builtin.proofs.EqualityLemmas.{undone-stays, answered-behind}
use Rattle.pi_lib_builtin.proofs.ResultLemmas.{memory-stops, stopped-same}
use Rattle.pi_lib_builtin.proofs.equality.differ.Goals as goal

pub returns-in_err-mark-clause-stays : goal.returns-in_err-mark-clause-stays
returns-in_err-mark-clause-stays g c = c.in_err-mark.ensures.err

pub returns-in_err-mark-clause-shows : goal.returns-in_err-mark-clause-shows
returns-in_err-mark-clause-shows g c = λ t u is one two. stopped-same (g.S.StateStore.seen c.args.s.now) c.from_residual.result Stop.Memory _ c.from_residual.ensures.1 tt

pub returns-in_err-one-clause-stays : goal.returns-in_err-one-clause-stays
returns-in_err-one-clause-stays g c =
    undone-stays g.S.StateStore.order (g.S.StateStore.seen c.args.s.now) (g.S.StateStore.seen c.mark.new.self) (g.S.StateStore.seen c.make_equal-found.new.s) (g.S.StateStore.seen c.undo.new.self) c.in_ok-mark.mark c.in_ok-mark.ensures.ok c.make_equal-found.ensures.keeps c.undo.ensures

pub returns-in_err-one-clause-shows : goal.returns-in_err-one-clause-shows
returns-in_err-one-clause-shows g c = λ t u is one two.
    let v = g.S.StateStore.seen c.args.s.now in
    stopped-same v c.from_residual-in_err-one.result _ _ c.from_residual-in_err-one.ensures.1 (memory-stops v _ _ c.in_err-one.ensures.err)

pub returns-clause-stays : goal.returns-clause-stays
returns-clause-stays g c =
    undone-stays g.S.StateStore.order (g.S.StateStore.seen c.args.s.now) (g.S.StateStore.seen c.mark.new.self) (g.S.StateStore.seen c.make_equal-found.new.s) (g.S.StateStore.seen c.undo.new.self) c.in_ok-mark.mark c.in_ok-mark.ensures.ok c.make_equal-found.ensures.keeps c.undo.ensures

pub returns-clause-shows : goal.returns-clause-shows
returns-clause-shows g c = λ t u is one two.
    ap Ok (answered-behind (g.S.StateStore.seen c.args.s.now) (g.S.StateStore.seen c.mark.new.self) c.args.a c.args.b t u c.in_ok-one.one (g.S.StateStore.seen c.make_equal-found.new.s).now.state c.in_ok-mark.ensures.ok.stays c.in_ok-one.ensures.unifies is one two)
