use Rattle.pi_settling.specs.Choices.{at_most}
use Rattle.pi_label.proofs.ChoiceLemmas.{half-up, half-down, at-most-no-value}
use Rattle.pi_label.proofs.alternatives.upper_half.Goals as goal

pub returns-in-Up : goal.returns-in-Up
returns-in-Up c = λ d. half-up c.args.word d (at_most c.args.n) c.in-Up.is (λ m. at-most-no-value m c.args.n)

pub returns-in-Down : goal.returns-in-Down
returns-in-Down c = λ d. half-down c.args.word d (at_most c.args.n) c.in-Down.is (λ m. at-most-no-value m c.args.n)
