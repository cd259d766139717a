use Rattle.std.proofs.Common.{◌≤◌, sym, ◌∙◌, rules}
use Rattle.pi_terms.specs.Tree.{cells}
use Rattle.pi_rewrite_slots.proofs.FlatLemmas.{below-start, below-more, below-not, below-end}
use Rattle.pi_rewrite_slots.proofs.flat.is_below.Goals as goal

pub loop-i-init : goal.loop-i-init
loop-i-init c = below-start c.args.head c.args.term.now

pub loop-i-preserved : goal.loop-i-preserved
loop-i-preserved c = below-more c.args.head c.args.term.now c.loop-i.i c.head_at.result c.head_at.ensures (sym c.is_head_below.ensures ∙ c.if-not-is_head_below.false) c.loop-i.invariant

pub returns-then-not-is_head_below : goal.returns-then-not-is_head_below
returns-then-not-is_head_below c = below-not c.args.head c.args.term.now c.loop-i.i c.head_at.result c.head_at.ensures (sym c.is_head_below.ensures ∙ c.if-not-is_head_below.true) c.loop-i.invariant

pub returns : goal.returns
returns c =
    let past : cells c.args.term.now ≤ c.loop-i.i = search rules in
    below-end c.args.head c.args.term.now c.loop-i.i past c.loop-i.invariant
