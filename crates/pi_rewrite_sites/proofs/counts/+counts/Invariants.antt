use Rattle.pi_rewrite_sites.proofs.CountLemmas.{AllTo, BranchesTo, UnitsTo}
use Rattle.pi_rewrite_sites.proofs.counts.+counts.Given as goal

-- those so far, and those that are left
abbrev pub invariant-helpers_in_all-loop-exp : goal.invariant-helpers_in_all-loop-exp
invariant-helpers_in_all-loop-exp l = AllTo l.exps l.exp-index l.count

abbrev pub invariant-helpers_in_branches-loop-branch : goal.invariant-helpers_in_branches-loop-branch
invariant-helpers_in_branches-loop-branch l = BranchesTo l.branches l.branch-index l.count

abbrev pub invariant-helpers_in_units-loop-unit : goal.invariant-helpers_in_units-loop-unit
invariant-helpers_in_units-loop-unit l = UnitsTo l.units l.unit-index l.count
