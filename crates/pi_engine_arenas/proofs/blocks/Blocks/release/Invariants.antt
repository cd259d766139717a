use Rattle.std.proofs.Common.{◌≡◌, ℕ, ◌+◌, ◌≤◌, length}
use Rattle.pi_engine_arenas.specs.declared.blocks.BlocksMark.{BlocksMark}
use Rattle.pi_engine_arenas.specs.Blocks.{brought_back}
use Rattle.pi_engine_arenas.proofs.blocks.Blocks.release.Given as goal

-- a write is forgotten in each turn, and none of the first ones
abbrev pub invariant-loop-i : goal.invariant-loop-i
invariant-loop-i l =
    (length l.self.trail + l._i ≡ length l.initial.self.trail + l.noted) × (l.self.slots ≡ l.initial.self.slots) × (l.self.kept ≡ l.initial.self.kept)
    × ((m : BlocksMark) → m.slots ≤ l.initial.self.kept → m.trail ≤ l.noted → brought_back m l.self ≡ brought_back m l.initial.self)
    × ((n : ℕ) → n ≤ l.noted → n ≤ length l.initial.self.trail → n ≤ length l.self.trail)
