use Rattle.std.proofs.Common.{arith, ◌<◌}
use Rattle.std.proofs.lemmas.Grind.{common_steps}
use Rattle.pi_syntax.specs.Tokens.{digits_end}
use Rattle.pi_lex.proofs.LexLemmas.{first_digit}
use Rattle.pi_lex.proofs.integers.integer.Goals as goal
use Rattle.pi_lex.proofs.integers.integer.Goals.{then-radix-eq10, else-radix-eq10}

pub returns-else-is_letter-clause-within : goal.returns-else-is_letter-clause-within
returns-else-is_letter-clause-within c =
    let text = c.args.text.now in
    let some : 0 < digits_end 10 0 text = first_digit text c.requires in
    elim c.if-radix-eq10.branch [
      | then-radix-eq10 w ↦ grind (arith, common_steps)
      | else-radix-eq10 w ↦ grind (arith, common_steps)
    ]
