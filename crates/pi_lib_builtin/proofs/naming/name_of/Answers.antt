use Rattle.pi_lib_builtin.proofs.NamingLemmas.{not-callable}
use Rattle.pi_constraints.specs.Store.{IsTerm}
use Rattle.pi_effects.specs.declared.fault.Stop.{Stop}
use Rattle.pi_lib_builtin.proofs.ResultLemmas.{stays-none, stopped-shows}
use Rattle.pi_lib_builtin.proofs.naming.name_of.Goals as goal

pub returns-in_default-clause-shows : goal.returns-in_default-clause-shows
returns-in_default-clause-shows g c = λ t a is. (not-callable (g.S.StateStore.seen c.args.s.now) c.args.a t c.look.result is c.in_default.not-Atom c.in_default.not-Comp (c.look.ensures.shows t is a)).0

pub returns-in_err-put_name-in-Atom-clause-stays : goal.returns-in_err-put_name-in-Atom-clause-stays
returns-in_err-put_name-in-Atom-clause-stays g c = c.in_err-put_name-in-Atom.ensures.stays

pub returns-in_err-put_name-in-Atom-clause-shows : goal.returns-in_err-put_name-in-Atom-clause-shows
returns-in_err-put_name-in-Atom-clause-shows g c = λ t a is. stopped-shows (IsTerm (g.S.StateStore.seen c.put_name.new.s)) (g.S.StateStore.seen c.args.s.now) c.from_residual.result Stop.Memory _ c.from_residual.ensures.1 tt

pub returns-in_err-put_name-in-Comp-clause-stays : goal.returns-in_err-put_name-in-Comp-clause-stays
returns-in_err-put_name-in-Comp-clause-stays g c = c.in_err-put_name-in-Comp.ensures.stays

pub returns-in_err-put_name-in-Comp-clause-shows : goal.returns-in_err-put_name-in-Comp-clause-shows
returns-in_err-put_name-in-Comp-clause-shows g c = λ t a is. stopped-shows (IsTerm (g.S.StateStore.seen c.put_name-in-Comp.new.s)) (g.S.StateStore.seen c.args.s.now) c.from_residual-in_err-put_name-in-Comp.result Stop.Memory _ c.from_residual-in_err-put_name-in-Comp.ensures.1 tt

pub returns-in_ok-put_name-in-Atom-clause-stays : goal.returns-in_ok-put_name-in-Atom-clause-stays
returns-in_ok-put_name-in-Atom-clause-stays g c = c.in_ok-put_name-in-Atom.ensures.stays

pub returns-in_ok-put_name-in-Comp-clause-stays : goal.returns-in_ok-put_name-in-Comp-clause-stays
returns-in_ok-put_name-in-Comp-clause-stays g c = c.in_ok-put_name-in-Comp.ensures.stays

pub returns-in_default-clause-stays : goal.returns-in_default-clause-stays
returns-in_default-clause-stays g c = stays-none (g.S.StateStore.seen c.args.s.now)
