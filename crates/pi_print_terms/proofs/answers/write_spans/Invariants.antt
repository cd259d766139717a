use Rattle.std.proofs.Common.{◌≡◌, ◌++◌, drop}
use Rattle.std.specs.String.{string_bytes}
use Rattle.pi_print_terms.specs.PrintAnswer.{more_spans_text}
use Rattle.pi_print_terms.proofs.answers.write_spans.Given as goal

abbrev pub invariant-loop-span : goal.invariant-loop-span
invariant-loop-span l = string_bytes l.line ++ more_spans_text (drop l.span-index l.rest) ≡ string_bytes l.initial.line ++ more_spans_text l.rest
