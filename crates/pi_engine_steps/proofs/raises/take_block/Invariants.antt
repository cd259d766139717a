use Rattle.std.proofs.Common.{◌≡◌, Some, map, take, drop}
use Rattle.pi_constraints.specs.Store.{Terms}
use Rattle.pi_terms.specs.Tree.{Trees}
use Rattle.pi_engine_stands.specs.Here.{HoldsArguments}
use Rattle.pi_engine_steps.proofs.raises.take_block.Given as goal

-- what the first slots hold
abbrev pub invariant-loop-i : goal.invariant-loop-i
invariant-loop-i l = (t : Terms) (ts : Trees) → HoldsArguments t l.blocks.slots l.first l.count ts → map (λ r. Some r) l.terms.items ≡ take l.i (drop l.first l.blocks.slots)
