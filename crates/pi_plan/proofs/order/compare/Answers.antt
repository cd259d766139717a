use Rattle.std.proofs.Common.{◌≡◌, ◌∙◌, sym, refl, arith}
use Rattle.std.specs.Prelude.{min}
use Rattle.pi_terms.specs.Tree.{cells}
use Rattle.pi_plan.proofs.RootLemmas.{stand_from_start, stand_decided, stand_on, stand_end}
use Rattle.pi_plan.proofs.order.compare.Goals as goal

pub loop-i-init : goal.loop-i-init
loop-i-init c = stand_from_start c.args.one.now c.args.other.now

pub returns-then-is_ne : goal.returns-then-is_ne
returns-then-is_ne c =
    stand_decided c.args.one.now c.args.other.now c.loop-i.i c.head_at.result c.head_at-in-loop-i.result c.compare_heads-found.result c.loop-i.invariant
    c.head_at.ensures c.head_at-in-loop-i.ensures c.compare_heads-found.ensures (sym c.if-is_ne.ensures)

pub loop-i-preserved : goal.loop-i-preserved
loop-i-preserved c =
    stand_on c.args.one.now c.args.other.now c.loop-i.i c.head_at.result c.head_at-in-loop-i.result c.compare_heads-found.result c.loop-i.invariant
    c.head_at.ensures c.head_at-in-loop-i.ensures c.compare_heads-found.ensures (sym c.if-is_ne.ensures)

pub returns : goal.returns
returns c =
    let last : c.loop-i.i ≡ c.min-count.result = omega arith in
    let count : c.loop-i.i ≡ min (cells c.args.one.now) (cells c.args.other.now) =
    last ∙ (c.min-count.ensures ∙ rw (c.cells.ensures, c.cells-2.ensures) refl) in
    c.cmp.ensures ∙ rw (c.cells-3.ensures, c.cells-4.ensures) (stand_end c.args.one.now c.args.other.now c.loop-i.i c.loop-i.invariant count)
