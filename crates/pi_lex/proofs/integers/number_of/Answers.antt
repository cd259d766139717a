use Rattle.std.proofs.Common.{arith, ◌≤◌, ◌^◌, ◌+◌, ◌*◌, get_or, drop}
use Rattle.std.proofs.lemmas.Grind.{common_steps}
use Rattle.std.proofs.lemmas.Bool.Decides.{nat_tests}
use Rattle.std.specs.Char.{digit_value}
use Rattle.pi_syntax.specs.Tokens.{number_of}
use Rattle.pi_lex.proofs.LexLemmas.{number_after-drop, le-number_after}
use Rattle.pi_lex.proofs.integers.number_of.Goals as goal
use Rattle.pi_lex.proofs.integers.number_of.Goals.{then-c-ne95+in_ok-number, else-c-ne95}

pub returns-in_err-number : goal.returns-in_err-number
returns-in_err-number c =
    let l = c.loop-c in
    let ds = c.args.digits.now in
    let i = l.c-index in
    let next = l.number * c.args.radix + digit_value (get_or ds i 0) in
    let turn = number_after-drop c.args.radix l.number ds i c.loop-c-test.true in
    let grown = le-number_after c.args.radix next (drop (i + 1) ds) (omega (arith, c.requires.low)) in
    let large : 2 ^ 127 ≤ number_of c.args.radix ds = grind (arith, nat_tests, common_steps) in
    grind (arith, nat_tests, common_steps)

pub loop-c-preserved : goal.loop-c-preserved
loop-c-preserved c =
    let l = c.loop-c in
    let turn = number_after-drop c.args.radix l.number c.args.digits.now l.c-index c.loop-c-test.true in
    elim c.if-c-ne95.branch [
      | then-c-ne95+in_ok-number w ↦ grind (arith, nat_tests, common_steps)
      | else-c-ne95 w ↦ grind (arith, nat_tests, common_steps)
    ]
