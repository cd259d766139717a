use Rattle.std.proofs.Common.{◌≡◌, ◌<◌, ◌-◌, length}
use Rattle.pi_outside.specs.Held.{HasPiece, IsThere}
use Rattle.pi_outside.specs.Reads.{ByReads}
use Rattle.pi_top.specs.Reading.{ReadsOn}
use Rattle.pi_top.proofs.files.read_file.Given as goal

abbrev pub invariant-loop-piece : goal.invariant-loop-piece
invariant-loop-piece g l = record {
  no_fault : g.F.Files.faults l.files ≡ g.F.Files.faults l.initial.files;
  reads : ByReads g.F.Files.has_read l.initial.files l.files (ReadsOn l.name l.bytes.items);
  has : HasPiece (g.F.Files.held l.files) l.name 0 l.bytes.items;
  there : 0 < length l.bytes.items → IsThere (g.F.Files.held l.files) l.name;
  room : 0 < length l.piece;
}

abbrev pub decreases-loop-piece : goal.decreases-loop-piece
decreases-loop-piece g l = 16777217 - length l.bytes.items
