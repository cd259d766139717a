use Rattle.std.proofs.Common.{◌≡◌, ◌+◌, take, drop, length}
use Rattle.pi_engine_arenas.specs.Blocks.{slots_before}
use Rattle.pi_engine_arenas.proofs.blocks.Blocks.cut.Given as goal

-- so many writes are taken back that were noted since the mark
abbrev pub invariant-loop-i : goal.invariant-loop-i
invariant-loop-i l =
    (length l.self.trail + l._i ≡ length l.initial.self.trail + l.mark.trail)
    × (slots_before (drop l.mark.trail l.self.trail) l.self.slots ≡ slots_before (drop l.mark.trail l.initial.self.trail) l.initial.self.slots)
    × (take l.mark.trail l.self.trail ≡ take l.mark.trail l.initial.self.trail)
    × (l.self.kept ≡ l.initial.self.kept)
