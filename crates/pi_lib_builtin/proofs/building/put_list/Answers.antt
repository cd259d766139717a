use Rattle.pi_terms.specs.Tree.{atom}
use Rattle.pi_terms.specs.ListNames.{nil}
use Rattle.pi_lib_builtin.proofs.RowLemmas.{items-kept}
use Rattle.pi_unify.proofs.KeepsLemmas.{stays_then}
use Rattle.std.proofs.lemmas.Result.{IfOk-from_err}
use Rattle.pi_lib_builtin.proofs.building.put_list.Goals as goal

pub returns-clause-ok : goal.returns-clause-ok
returns-clause-ok g c = λ ts items.
    let v = g.S.StateStore.seen c.args.s.now in
    let w = g.S.StateStore.seen c.put_atom.new.self in
    c.in_ok-made.ensures.ok ts (atom nil) (items-kept v w c.args.items.now ts c.in_ok-nil.ensures.ok.changes.keeps items) c.in_ok-nil.ensures.ok.term

pub returns-in_err-nil-clause-stays : goal.returns-in_err-nil-clause-stays
returns-in_err-nil-clause-stays g c = c.in_err-nil.ensures.err

pub returns-in_err-nil-clause-ok : goal.returns-in_err-nil-clause-ok
returns-in_err-nil-clause-ok g c = IfOk-from_err c.from_residual.result _ c.from_residual.ensures.0

pub returns-in_err-made-clause-stays : goal.returns-in_err-made-clause-stays
returns-in_err-made-clause-stays g c =
    let v = g.S.StateStore.seen c.args.s.now in
    stays_then v (g.S.StateStore.seen c.put_atom.new.self) (g.S.StateStore.seen c.put_onto.new.s) v.now.state c.in_ok-nil.ensures.ok.changes c.in_err-made.ensures.stays

pub returns-in_err-made-clause-ok : goal.returns-in_err-made-clause-ok
returns-in_err-made-clause-ok g c = IfOk-from_err c.from_residual-in_err-made.result _ c.from_residual-in_err-made.ensures.0

pub returns-clause-stays : goal.returns-clause-stays
returns-clause-stays g c =
    let v = g.S.StateStore.seen c.args.s.now in
    stays_then v (g.S.StateStore.seen c.put_atom.new.self) (g.S.StateStore.seen c.put_onto.new.s) v.now.state c.in_ok-nil.ensures.ok.changes c.in_ok-made.ensures.stays
