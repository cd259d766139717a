use Rattle.std.proofs.Common.{refl}
use Rattle.pi_lib_builtin.proofs.FindLemmas.{first-here, first-behind, first-nowhere}
use Rattle.pi_lib_builtin.proofs.lookup.find.Goals as goal

pub loop-row-init : goal.loop-row-init
loop-row-init g c = refl

pub returns-then-eq : goal.returns-then-eq
returns-then-eq g c = first-here c.args.name.now c.args.rows.now c.loop-row.row-index c.row-item.result c.eq.result c.loop-row-test.true c.row-item.is c.eq.ensures c.if-eq.true c.loop-row.invariant

pub loop-row-preserved : goal.loop-row-preserved
loop-row-preserved g c = first-behind c.args.name.now c.args.rows.now c.loop-row.row-index c.row-item.result c.eq.result c.loop-row-test.true c.row-item.is c.eq.ensures c.if-eq.false c.loop-row.invariant

pub returns : goal.returns
returns g c = first-nowhere c.args.name.now c.args.rows.now c.loop-row.row-index c.loop-row-test.false c.loop-row.invariant

pub offset_bounds-rows-row-index : goal.offset_bounds-rows-row-index
offset_bounds-rows-row-index g c = c.loop-row.auto.row-index-end

pub bounds-rows-row-index : goal.bounds-rows-row-index
bounds-rows-row-index g c = c.loop-row-test.true

pub fact_in-name : goal.fact_in-name
fact_in-name g c = c.utf8.name
