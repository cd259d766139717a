use Rattle.std.proofs.Common.{◌≡◌, map, take}
use Rattle.pi_region.specs.Entry.{data_of}
use Rattle.pi_region.specs.Image.{appended}
use Rattle.pi_store_blocks.specs.Domain.{bounds_of}
use Rattle.pi_store_blocks.proofs.domains.write.append_spans.Given as goal

abbrev pub invariant-loop-span : goal.invariant-loop-span
invariant-loop-span l = l.words ≡ appended l.initial.words (map data_of (bounds_of (take l.span-index l.spans)))
