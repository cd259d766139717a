use Rattle.std.proofs.Common.{◌≤◌, rules}
use Rattle.pi_terms.specs.Tree.{cells}
use Rattle.pi_rewrite_slots.proofs.CellLemmas.{copied-more, copied-all}
use Rattle.pi_rewrite_slots.proofs.terms.push_copy.Goals as goal

pub loop-i-preserved : goal.loop-i-preserved
loop-i-preserved c =
    copied-more c.args.cells.now.items c.loop-i.cells.items c.push.new.self.items c.args.term.now c.loop-i.i c.head_at.result c.in_ok-bare_cell.field-0 c.loop-i.invariant c.head_at.ensures c.in_ok-push.ensures.items c.in_ok-bare_cell.ensures

pub returns : goal.returns
returns c =
    let past : cells c.args.term.now ≤ c.loop-i.i = search rules in
    copied-all c.args.cells.now.items c.loop-i.cells.items c.args.term.now c.loop-i.i c.loop-i.invariant past
