use Rattle.std.proofs.Common.{arith}
use Rattle.std.proofs.lemmas.Int.{ints}
use Rattle.pi_label.proofs.ChoiceLemmas.{first-by_up, first-by_down}
use Rattle.pi_label.proofs.alternatives.first_choice.Goals as goal

pub returns-in-Up : goal.returns-in-Up
returns-in-Up c = λ d is are. first-by_up c.args.word _ d c.args.ends c.in-Up.is (omega (arith, ints, c.requires.low.0, c.requires.low.1)) is are

pub returns-in-Down : goal.returns-in-Down
returns-in-Down c = λ d is are. first-by_down c.args.word _ d c.args.ends c.in-Down.is (omega (arith, ints, c.requires.high.0, c.requires.high.1)) is are
