use Rattle.std.specs.Str.Iter.{chars_rest}
use Rattle.pi_lex.proofs.SpellingLemmas.{none_left, other_left, less_left}
use Rattle.pi_lex.proofs.spelling.is_spelled.Goals as goal

pub returns-in_default-clause-found : goal.returns-in_default-clause-found
returns-in_default-clause-found c = λ same.
    absurd (none_left c.args.text.now c.args.spelling.now (chars_rest c.loop-c.rest) c.loop-c.c-index c.c-item.result c.loop-c-test.true c.c-item.is c.in_default.ensures.steps.0.0 c.loop-c.invariant same)

pub returns-then-found-c-clause-found : goal.returns-then-found-c-clause-found
returns-then-found-c-clause-found c = λ same.
    absurd (c.if-found-c.true (other_left c.args.text.now c.args.spelling.now (chars_rest c.loop-c.rest) (chars_rest c.next.new.self) c.loop-c.c-index c.in-Some.found c.c-item.result
    c.loop-c-test.true c.c-item.is c.in-Some.ensures.steps.0 c.loop-c.invariant same).0)

pub loop-c-preserved : goal.loop-c-preserved
loop-c-preserved c =
    less_left c.args.text.now c.args.spelling.now (chars_rest c.loop-c.rest) (chars_rest c.next.new.self) c.loop-c.c-index c.in-Some.found c.c-item.result
    c.loop-c-test.true c.c-item.is c.in-Some.ensures.steps.0 c.if-found-c.false c.loop-c.invariant
