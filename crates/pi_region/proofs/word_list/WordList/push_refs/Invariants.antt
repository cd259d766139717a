use Rattle.std.proofs.Common.{◌≡◌, ◌+◌, ◌<◌, ◌++◌, length, take}
use Rattle.pi_region.specs.Image.{numbers_of}
use Rattle.pi_region.proofs.word_list.WordList.push_refs.Given as goal

abbrev pub invariant-loop-r : goal.invariant-loop-r
invariant-loop-r l = record {
  room : length l.refs < l.self-inside.words.spare + l.r-index;
  words : l.self-inside.words.words ≡ l.initial.self-inside.words.words ++ numbers_of (take l.r-index l.refs);
}
