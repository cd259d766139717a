-- One more item stands in front.
use Rattle.std.proofs.Common.{◌∙◌, rules}
use Rattle.pi_core.specs.CoreTree.{pattern_tree, pattern_trees}
use Rattle.pi_rewrite_spec.specs.Values.{cells_onto}
use Rattle.pi_rewrite_slots.proofs.PatternLemmas.{onto-popped, pair-form, onto-none}
use Rattle.pi_rewrite_slots.proofs.patterns.cells_onto.Goals as goal

pub loop-item-preserved : goal.loop-item-preserved
loop-item-preserved c =
    onto-popped c.loop-item.items.items c.pop.new.self.items c.in-Some.item (pattern_tree c.loop-item.made) (pattern_tree c.in_ok-made.made) (cells_onto (pattern_trees c.args.items.items) (pattern_tree c.args.rest)) c.in-Some.ensures.items
    (c.in_ok-made.ensures ∙ pair-form c.in_ok-parts.parts.items c.in-Some.item c.loop-item.made c.in_ok-parts.ensures) c.loop-item.invariant

pub returns : goal.returns
returns c = onto-none c.loop-item.items.items (pattern_tree c.loop-item.made) (cells_onto (pattern_trees c.args.items.items) (pattern_tree c.args.rest)) (search rules) c.loop-item.invariant
