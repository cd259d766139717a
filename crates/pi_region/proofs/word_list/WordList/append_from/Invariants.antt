use Rattle.std.proofs.Common.{◌≡◌, ◌+◌, ◌≤◌, ◌++◌, length, drop}
use Rattle.pi_region.proofs.word_list.WordList.append_from.Given as goal

abbrev pub invariant-loop-n : goal.invariant-loop-n
invariant-loop-n l = record {
  room : length l.more ≤ l.self-inside.words.spare + l.n;
  words : l.self-inside.words.words ++ drop l.n l.more ≡ l.initial.self-inside.words.words ++ drop l.place l.more;
}
