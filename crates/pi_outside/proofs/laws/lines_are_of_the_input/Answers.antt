use Rattle.pi_outside.proofs.Input.{ends-with-its-lines, passes-with-first-lines, fails-with-lines-so-far}
use Rattle.pi_outside.proofs.laws.lines_are_of_the_input.Goals as goal

pub returns : goal.returns
returns c = record { ends = ends-with-its-lines; passes = passes-with-first-lines; fails = fails-with-lines-so-far }
