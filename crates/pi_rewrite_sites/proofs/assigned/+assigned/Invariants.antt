use Rattle.pi_rewrite_slots.specs.Indexed.{names_in}
use Rattle.pi_rewrite_sites.proofs.AssignedLemmas.{AllTo, BranchesTo}
use Rattle.pi_rewrite_sites.proofs.assigned.+assigned.Given as goal

-- what is put so far, and the names that those assign that are left
abbrev pub invariant-push_assigned_in_all-loop-exp : goal.invariant-push_assigned_in_all-loop-exp
invariant-push_assigned_in_all-loop-exp l = AllTo (names_in l.initial.names.items) l.exps l.exp-index (names_in l.names.items)

abbrev pub invariant-push_assigned_in_branches-loop-branch : goal.invariant-push_assigned_in_branches-loop-branch
invariant-push_assigned_in_branches-loop-branch l = BranchesTo (names_in l.initial.names.items) l.branches l.branch-index (names_in l.names.items)
