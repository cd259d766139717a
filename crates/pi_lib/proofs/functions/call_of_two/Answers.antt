use Rattle.std.proofs.Common.{refl}
use Rattle.pi_unify.proofs.KeepsLemmas.{keeps_none}
use Rattle.pi_constraints.specs.Store.{Stays}
use Rattle.pi_lib_builtin.specs.declared.functions.FunctionOfTwo.{FunctionOfTwo}
use Rattle.pi_lib.proofs.FunctionBodies.{two-shown, two-made}
use Rattle.pi_lib.proofs.functions.call_of_two.Goals as goal

pub returns-in-Operation-clause-shows : goal.returns-in-Operation-clause-shows
returns-in-Operation-clause-shows g c = λ t u e a left right done.
    two-shown (g.S.StateStore.seen c.args.s.now) (g.S.StateStore.seen c.evaluate_two.new.s) c.evaluate_two.result c.args.function (FunctionOfTwo.Operation c.in-Operation.op) t u e _ c.in-Operation.is refl c.evaluate_two.ensures.stays (c.evaluate_two.ensures.shows t u a left right) done

pub returns-in-Least-clause-shows : goal.returns-in-Least-clause-shows
returns-in-Least-clause-shows g c = λ t u e a left right done.
    two-shown (g.S.StateStore.seen c.args.s.now) (g.S.StateStore.seen c.least.new.s) c.least.result c.args.function FunctionOfTwo.Least t u e _ c.in-Least.is refl c.least.ensures.stays (c.least.ensures.shows t u a left right) done

pub returns-in-Greatest-clause-shows : goal.returns-in-Greatest-clause-shows
returns-in-Greatest-clause-shows g c = λ t u e a left right done.
    two-shown (g.S.StateStore.seen c.args.s.now) (g.S.StateStore.seen c.greatest.new.s) c.greatest.result c.args.function FunctionOfTwo.Greatest t u e _ c.in-Greatest.is refl c.greatest.ensures.stays (c.greatest.ensures.shows t u a left right) done

pub returns-in-Append-clause-shows : goal.returns-in-Append-clause-shows
returns-in-Append-clause-shows g c = λ t u e a left right done.
    two-shown (g.S.StateStore.seen c.args.s.now) (g.S.StateStore.seen c.append.new.s) c.append.result c.args.function FunctionOfTwo.Append t u e _ c.in-Append.is refl c.append.ensures.stays (c.append.ensures.shows t u a left right) done

pub returns-in-DeleteAll-clause-shows : goal.returns-in-DeleteAll-clause-shows
returns-in-DeleteAll-clause-shows g c = λ t u e a left right done.
    two-shown (g.S.StateStore.seen c.args.s.now) (g.S.StateStore.seen c.delete_all.new.s) c.delete_all.result c.args.function FunctionOfTwo.DeleteAll t u e _ c.in-DeleteAll.is refl c.delete_all.ensures.stays (c.delete_all.ensures.shows t u a left right) done

pub returns-in-Zip-clause-shows : goal.returns-in-Zip-clause-shows
returns-in-Zip-clause-shows g c = λ t u e a left right done.
    two-shown (g.S.StateStore.seen c.args.s.now) (g.S.StateStore.seen c.zip.new.s) c.zip.result c.args.function FunctionOfTwo.Zip t u e _ c.in-Zip.is refl c.zip.ensures.stays (c.zip.ensures.shows t u a left right) done

pub returns-in-Range-clause-shows : goal.returns-in-Range-clause-shows
returns-in-Range-clause-shows g c = λ t u e a left right done.
    two-shown (g.S.StateStore.seen c.args.s.now) (g.S.StateStore.seen c.range.new.s) c.range.result c.args.function FunctionOfTwo.Range t u e _ c.in-Range.is refl c.range.ensures.stays (c.range.ensures.shows t u a left right) done

pub returns-in-Item-clause-shows : goal.returns-in-Item-clause-shows
returns-in-Item-clause-shows g c = λ t u e a left right done.
    let v = g.S.StateStore.seen c.args.s.now in
    let stays : Stays v v = record { keeps = keeps_none v; state = refl } in
    two-shown v v c.item_at.result c.args.function FunctionOfTwo.Item t u e _ c.in-Item.is refl stays (c.item_at.ensures t u a left right) done

pub returns-in-NewGrid-clause-shows : goal.returns-in-NewGrid-clause-shows
returns-in-NewGrid-clause-shows g c = λ t u e a left right done.
    two-made (g.S.StateStore.seen c.args.s.now) (g.S.StateStore.seen c.new_grid.new.s) c.new_grid.result c.args.function FunctionOfTwo.NewGrid t u e c.in-NewGrid.is (c.new_grid.ensures.shows t u a left right) done

pub returns-in-NewGrid-clause-keeps : goal.returns-in-NewGrid-clause-keeps
returns-in-NewGrid-clause-keeps g c = c.new_grid.ensures.makes.1.keeps

pub returns-in-RangeCount-clause-shows : goal.returns-in-RangeCount-clause-shows
returns-in-RangeCount-clause-shows g c = λ t u e a left right done.
    two-shown (g.S.StateStore.seen c.args.s.now) (g.S.StateStore.seen c.range_count.new.s) c.range_count.result c.args.function FunctionOfTwo.RangeCount t u e _ c.in-RangeCount.is refl c.range_count.ensures.stays (c.range_count.ensures.shows t u a left right) done
