use Rattle.pi_lib_builtin.proofs.CollectionLemmas.{part-shown, part-raised}
use Rattle.pi_lib_builtin.proofs.reading.argument_of_cell.Goals as goal

pub returns-in-Cell : goal.returns-in-Cell
returns-in-Cell g c = λ t part a is at.
    let found = c.in_ok-_items.ensures t a is in
    part-shown (g.S.StateStore.seen c.args.s.now) c.args.list c.arg.result t c.args.i part found.0 a is at found.1 (c.in-Cell.ensures t a is) c.arg.ensures

pub returns : goal.returns
returns g c = λ t part a is at.
    let found = c.in_ok-_items.ensures t a is in
    part-raised (g.S.StateStore.seen c.args.s.now) c.args.list t c.part_at.result part found.0 is found.1 (c.part_at.ensures t a is) c.in_default.not-Cell
