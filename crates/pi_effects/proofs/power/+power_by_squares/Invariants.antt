use Rattle.pi_effects.proofs.power.+power_by_squares.Given as goal

abbrev pub decreases-power_by_squares : goal.decreases-power_by_squares
decreases-power_by_squares l = l.exponent
