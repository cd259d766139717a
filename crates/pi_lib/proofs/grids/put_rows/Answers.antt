use Rattle.std.proofs.Common.{◌*◌, arith}
use Rattle.pi_unify.specs.Copying.{with_variables}
use Rattle.pi_unify.proofs.KeepsLemmas.{stays_then}
use Rattle.pi_lib.proofs.StoreLemmas.{makes_then_some}
use Rattle.pi_lib.proofs.GridLemmas.{rows_begin, one_row, makes_row, grid_put}
use Rattle.pi_lib.proofs.grids.put_rows.Goals as goal

pub loop-row-init : goal.loop-row-init
loop-row-init g c =
    let begin = rows_begin (g.S.StateStore.seen c.args.s.now) c.args.columns c.new-made.result.items c.new-made.ensures.items in
    record { makes = begin.0; rows = begin.1 }

pub loop-row-preserved : goal.loop-row-preserved
loop-row-preserved g c =
    let v = g.S.StateStore.seen c.args.s.now in
    let w = g.S.StateStore.seen c.loop-row.s in
    let x = g.S.StateStore.seen c.put_array.new.s in
    let gives = c.in_ok-row.ensures.ok in
    record {
      makes = makes_row v w x c.loop-row._row c.args.columns c.loop-row.invariant.makes gives.changes;
      rows = one_row v w x c.loop-row.made.items c.push.new.self.items c.loop-row._row c.args.columns c.in_ok-row.row c.loop-row.invariant.makes c.loop-row.invariant.rows gives c.in_ok-push.ensures.items;
    }

pub returns-in_err-row-clause-makes : goal.returns-in_err-row-clause-makes
returns-in_err-row-clause-makes g c =
    makes_then_some (g.S.StateStore.seen c.args.s.now) (g.S.StateStore.seen c.loop-row.s) (g.S.StateStore.seen c.put_array.new.s) (c.loop-row._row * c.args.columns) c.loop-row.invariant.makes c.in_err-row.ensures.makes

pub returns-in_err-push-clause-makes : goal.returns-in_err-push-clause-makes
returns-in_err-push-clause-makes g c =
    let v = g.S.StateStore.seen c.args.s.now in
    let w = g.S.StateStore.seen c.loop-row.s in
    let x = g.S.StateStore.seen c.put_array.new.s in
    makes_then_some v w x (c.loop-row._row * c.args.columns) c.loop-row.invariant.makes c.in_ok-row.ensures.makes

pub returns-in_err-grid-clause-makes : goal.returns-in_err-grid-clause-makes
returns-in_err-grid-clause-makes g c =
    let v = g.S.StateStore.seen c.args.s.now in
    let w = g.S.StateStore.seen c.loop-row.s in
    let y = g.S.StateStore.seen c.put_comp.new.self in
    (c.loop-row._row * c.args.columns, stays_then v w y (with_variables (c.loop-row._row * c.args.columns) v.now.state) c.loop-row.invariant.makes c.in_err-grid.ensures.stays)

pub returns-clause-makes : goal.returns-clause-makes
returns-clause-makes g c =
    let v = g.S.StateStore.seen c.args.s.now in
    let w = g.S.StateStore.seen c.loop-row.s in
    let y = g.S.StateStore.seen c.put_comp.new.self in
    (c.loop-row._row * c.args.columns, stays_then v w y (with_variables (c.loop-row._row * c.args.columns) v.now.state) c.loop-row.invariant.makes c.in_ok-grid.ensures.stays)

pub returns-clause-ok : goal.returns-clause-ok
returns-clause-ok g c =
    let v = g.S.StateStore.seen c.args.s.now in
    let w = g.S.StateStore.seen c.loop-row.s in
    let y = g.S.StateStore.seen c.put_comp.new.self in
    grid_put v w y c.loop-row.made.items c.deref.result.now c.loop-row._row c.args.rows c.args.columns c.in_ok-grid.grid (omega arith) c.deref.ensures.value c.loop-row.invariant.makes c.loop-row.invariant.rows c.in_ok-grid.ensures.stays c.in_ok-grid.ensures.ok
