use Rattle.std.proofs.Common.{◌≡◌, ◌≤◌, length}
use Rattle.pi_store.specs.Heads.{Pads}
use Rattle.pi_store.proofs.heads.pad.Given as goal

abbrev pub invariant-loop : goal.invariant-loop
invariant-loop l = (l.initial.words.trail ≤ length l.initial.words.region) × Pads l.initial.words l.words × (length l.words.heads ≡ l.counter)
