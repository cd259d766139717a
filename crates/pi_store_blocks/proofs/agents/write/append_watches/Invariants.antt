use Rattle.std.proofs.Common.{◌≡◌, take}
use Rattle.pi_region.specs.Image.{appended}
use Rattle.pi_store_blocks.specs.Events.{watch_words, HaveSlots}
use Rattle.pi_store_blocks.proofs.agents.write.append_watches.Given as goal

abbrev pub invariant-loop-watch : goal.invariant-loop-watch
invariant-loop-watch l = record {
  words : l.words ≡ appended l.initial.words (watch_words (take l.watch-index l.watches));
  slots : HaveSlots (take l.watch-index l.watches);
}
