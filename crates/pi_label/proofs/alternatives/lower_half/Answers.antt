use Rattle.pi_settling.specs.Choices.{above}
use Rattle.pi_label.proofs.ChoiceLemmas.{half-up, half-down, above-no-value}
use Rattle.pi_label.proofs.alternatives.lower_half.Goals as goal

pub returns-in-Up : goal.returns-in-Up
returns-in-Up c = λ d. half-up c.args.word d (above c.args.n) c.in-Up.is (λ m. above-no-value m c.args.n)

pub returns-in-Down : goal.returns-in-Down
returns-in-Down c = λ d. half-down c.args.word d (above c.args.n) c.in-Down.is (λ m. above-no-value m c.args.n)
