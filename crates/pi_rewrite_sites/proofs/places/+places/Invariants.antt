use Rattle.pi_rewrite_slots.specs.Indexed.{names_in}
use Rattle.pi_rewrite_sites.proofs.PlaceLemmas.{AllTo, BranchesTo}
use Rattle.pi_rewrite_sites.proofs.places.+places.Given as goal

-- what is put so far, and the names of those that are left
abbrev pub invariant-push_names_of_all-loop-exp : goal.invariant-push_names_of_all-loop-exp
invariant-push_names_of_all-loop-exp l = AllTo l.in_loops (names_in l.initial.names.items) l.exps l.exp-index (names_in l.names.items)

abbrev pub invariant-push_names_of_branches-loop-branch : goal.invariant-push_names_of_branches-loop-branch
invariant-push_names_of_branches-loop-branch l = BranchesTo l.in_loops (names_in l.initial.names.items) l.branches l.branch-index (names_in l.names.items)
