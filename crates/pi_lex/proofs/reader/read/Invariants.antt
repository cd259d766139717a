use Rattle.std.proofs.Common.{◌+◌, ◌≤◌, length}
use Rattle.pi_lex.specs.Store.{listed, IsSound, HasRoom, StandsBefore}
use Rattle.pi_lex.proofs.ReaderLemmas.{HasRead}
use Rattle.pi_lex.proofs.reader.read.Given as goal

abbrev pub invariant-items : goal.invariant-items
invariant-items l = record {
  sound : IsSound l.store;
  reads : HasRead l.chars (listed l.store) l.line l.rest;
  room : HasRoom l.store (length l.rest);
  before : StandsBefore l.store l.line;
  lines : l.line + length l.rest ≤ length l.chars + 1;
}

abbrev pub decreases-items : goal.decreases-items
decreases-items l = length l.rest
