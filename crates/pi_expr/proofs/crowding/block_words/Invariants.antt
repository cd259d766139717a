use Rattle.std.proofs.Common.{◌≡◌, ◌+◌, ◌≤◌}
use Rattle.std.specs.Prelude.{count_by}
use Rattle.pi_lex.specs.Kinds.{kinds}
use Rattle.pi_syntax.specs.Crowding.{is_block_word}
use Rattle.pi_expr.specs.Faults.{stretch}
use Rattle.pi_expr.proofs.crowding.block_words.Given as goal

abbrev pub invariant-loop-i : goal.invariant-loop-i
invariant-loop-i l = record {
  counts : l.words + count_by is_block_word (stretch (kinds l.tokens) l.i l.to) ≡ count_by is_block_word (stretch (kinds l.tokens) l.from l.to);
  few : l.words ≤ l.i;
}
