use Rattle.std.proofs.Common.{◌≡◌, ◌++◌, Some, map, take}
use Rattle.pi_engine_arenas.specs.Blocks.{KeepsBlocks}
use Rattle.pi_engine_arenas.proofs.blocks.Blocks.push_terms.Given as goal

abbrev pub invariant-loop-term : goal.invariant-loop-term
invariant-loop-term l =
    (l.self.slots ≡ l.initial.self.slots ++ map (λ t. Some t) (take l.term-index l.terms)) × (l.self.kept ≡ l.initial.self.kept) × KeepsBlocks l.initial.self l.self
