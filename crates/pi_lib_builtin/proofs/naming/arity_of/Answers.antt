use Rattle.std.proofs.Common.{pos, ap, subst, codes}
use Rattle.pi_terms.specs.Tree.{int}
use Rattle.pi_constraints.specs.State.{bindings, followed}
use Rattle.pi_constraints.specs.Store.{IsTerm, ShowsCell}
use Rattle.pi_effects.specs.Exception.{type_error}
use Rattle.pi_effects.specs.Answer.{or_raised}
use Rattle.pi_effects.specs.Naming.{arity_at}
use Rattle.pi_lib_builtin.proofs.NamingLemmas.{not-callable}
use Rattle.pi_effects.specs.declared.fault.Stop.{Stop}
use Rattle.pi_lib_builtin.proofs.ResultLemmas.{stays-none, stopped-shows}
use Rattle.pi_lib_builtin.proofs.naming.arity_of.Goals as goal

pub returns-in_default-clause-shows : goal.returns-in_default-clause-shows
returns-in_default-clause-shows g c = λ t a is. (not-callable (g.S.StateStore.seen c.args.s.now) c.args.a t c.look.result is c.in_default.not-Atom c.in_default.not-Comp (c.look.ensures.shows t is a)).1

pub returns-in_err-put_int-in-Atom-clause-stays : goal.returns-in_err-put_int-in-Atom-clause-stays
returns-in_err-put_int-in-Atom-clause-stays g c = c.in_err-put_int-in-Atom.ensures.err

pub returns-in_err-put_int-in-Atom-clause-shows : goal.returns-in_err-put_int-in-Atom-clause-shows
returns-in_err-put_int-in-Atom-clause-shows g c = λ t a is. stopped-shows (IsTerm (g.S.StateStore.seen c.put_int.new.self)) (g.S.StateStore.seen c.args.s.now) c.from_residual.result Stop.Memory _ c.from_residual.ensures.1 tt

pub returns-in_err-put_int-in-Comp-clause-stays : goal.returns-in_err-put_int-in-Comp-clause-stays
returns-in_err-put_int-in-Comp-clause-stays g c = c.in_err-put_int-in-Comp.ensures.err

pub returns-in_err-put_int-in-Comp-clause-shows : goal.returns-in_err-put_int-in-Comp-clause-shows
returns-in_err-put_int-in-Comp-clause-shows g c = λ t a is. stopped-shows (IsTerm (g.S.StateStore.seen c.put_int-in-Comp.new.self)) (g.S.StateStore.seen c.args.s.now) c.from_residual-in_err-put_int-in-Comp.result Stop.Memory _ c.from_residual-in_err-put_int-in-Comp.ensures.1 tt

pub returns-in_ok-put_int-in-Atom-clause-stays : goal.returns-in_ok-put_int-in-Atom-clause-stays
returns-in_ok-put_int-in-Atom-clause-stays g c = c.in_ok-put_int-in-Atom.ensures.ok.changes

pub returns-in_ok-put_int-in-Atom-clause-shows : goal.returns-in_ok-put_int-in-Atom-clause-shows
returns-in_ok-put_int-in-Atom-clause-shows g c = λ t a is.
    let v = g.S.StateStore.seen c.args.s.now in
    let u = followed (bindings v.now.state) t in
    let shows = subst (ShowsCell v u) c.in-Atom.is (c.look.ensures.shows t is a) in
    (int (pos 0), ap (λ w. or_raised (arity_at w) (type_error (codes "callable") t v.now.state)) shows.2, c.in_ok-put_int-in-Atom.ensures.ok.term)

pub returns-in_ok-put_int-in-Comp-clause-stays : goal.returns-in_ok-put_int-in-Comp-clause-stays
returns-in_ok-put_int-in-Comp-clause-stays g c = c.in_ok-put_int-in-Comp.ensures.ok.changes

pub returns-in_default-clause-stays : goal.returns-in_default-clause-stays
returns-in_default-clause-stays g c = stays-none (g.S.StateStore.seen c.args.s.now)
