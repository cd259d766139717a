use Rattle.std.proofs.Common.{◌≡◌, drop}
use Rattle.pi_syntax.specs.Tokens.{is_one_of}
use Rattle.pi_print_program.specs.Words.{words_shown}
use Rattle.pi_print_program.proofs.signs.is_among.Given as goal

-- the words from here on say what all say
abbrev pub invariant-loop-word : goal.invariant-loop-word
invariant-loop-word l = is_one_of (words_shown (drop l.word-index l.words)) l.name ≡ is_one_of (words_shown l.words) l.name
