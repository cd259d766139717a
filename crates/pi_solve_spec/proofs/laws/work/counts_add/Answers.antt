use Rattle.pi_solve_spec.proofs.WorkLemmas.{loads_add, depth_adds, known_adds, sums_are_monotone}
use Rattle.pi_solve_spec.proofs.laws.work.counts_add.Goals as goal

pub returns-clause-loads : goal.returns-clause-loads
returns-clause-loads g c = loads_add

pub returns-clause-depth : goal.returns-clause-depth
returns-clause-depth g c = depth_adds

pub returns-clause-known : goal.returns-clause-known
returns-clause-known g c = known_adds

pub returns-clause-sums : goal.returns-clause-sums
returns-clause-sums g c = sums_are_monotone
