use Rattle.std.proofs.Common.{◌≡◌, vec_len}
use Rattle.pi_core.specs.CoreTree.{pattern_tree, pattern_trees}
use Rattle.pi_rewrite_spec.specs.Values.{cells_onto}
use Rattle.pi_rewrite_slots.proofs.patterns.cells_onto.Given as goal

-- the items that are left stand in front of what is made
abbrev pub invariant-loop-item : goal.invariant-loop-item
invariant-loop-item l = cells_onto (pattern_trees l.items.items) (pattern_tree l.made) ≡ cells_onto (pattern_trees l.fn.items.items) (pattern_tree l.fn.rest)

abbrev pub decreases-loop-item : goal.decreases-loop-item
decreases-loop-item l = vec_len l.items
