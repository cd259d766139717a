use Rattle.std.proofs.Common.{subst, w64}
use Rattle.std.proofs.lemmas.Int.{to_z-of_z}
use Rattle.pi_label.specs.Beside.{IsNextAbove, IsNextBelow}
use Rattle.pi_label.proofs.ChoiceLemmas.{by-up, by-down}
use Rattle.pi_label.proofs.alternatives.beside.Goals as goal

pub returns-in_ok-found-in-Up : goal.returns-in_ok-found-in-Up
returns-in_ok-found-in-Up c =
    by-up c.args.word c.args.d.now c.args.n c.in_ok-found-in-Up.found _ c.in-Up.is c.requires
    (subst (λ n. IsNextAbove c.args.d.now n c.in_ok-found-in-Up.found) (to_z-of_z w64 c.args.n c.ranges.n) c.in_ok-found-in-Up.ensures) c.value.ensures

pub returns-in_ok-found-in-Down : goal.returns-in_ok-found-in-Down
returns-in_ok-found-in-Down c =
    by-down c.args.word c.args.d.now c.args.n c.in_ok-found-in-Down.found _ c.in-Down.is c.requires
    (subst (λ n. IsNextBelow c.args.d.now n c.in_ok-found-in-Down.found) (to_z-of_z w64 c.args.n c.ranges.n) c.in_ok-found-in-Down.ensures) c.value-in-Down.ensures
