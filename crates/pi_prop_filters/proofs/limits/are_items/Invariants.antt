use Rattle.std.proofs.Common.{◌↔◌, drop}
use Rattle.pi_constraints.specs.Constraint.{AreItems}
use Rattle.pi_prop_filters.proofs.limits.are_items.Given as goal

-- all are items just where those that are left are
abbrev pub invariant-loop-i : goal.invariant-loop-i
invariant-loop-i l = AreItems (drop l.i l.items) ↔ AreItems l.items
