-- In each loop those that are left decide it.
use Rattle.pi_syntax.specs.ExpLists.{exps_of}
use Rattle.pi_rewrite_sound.specs.Built.{are_built_values, are_built_goals, are_built_branches, are_built_units}
use Rattle.pi_rewrite_sound.proofs.EachLemmas.{LeftDecide, are_built_pairs}
use Rattle.pi_rewrite_sound.proofs.goals.+goal.Given as goal

abbrev pub invariant-are_built_values-loop-exp : goal.invariant-are_built_values-loop-exp
invariant-are_built_values-loop-exp l = LeftDecide (λ es. are_built_values (exps_of es)) l.exps l.exp-index

abbrev pub invariant-are_built_goals-loop-exp : goal.invariant-are_built_goals-loop-exp
invariant-are_built_goals-loop-exp l = LeftDecide (λ es. are_built_goals (exps_of es)) l.exps l.exp-index

abbrev pub invariant-are_built_branches-loop-exp : goal.invariant-are_built_branches-loop-exp
invariant-are_built_branches-loop-exp l = LeftDecide (λ es. are_built_branches (exps_of es)) l.exps l.exp-index

abbrev pub invariant-have_built_goals-loop-branch : goal.invariant-have_built_goals-loop-branch
invariant-have_built_goals-loop-branch l = LeftDecide are_built_pairs l.branches l.branch-index

abbrev pub invariant-are_built_units-loop-unit : goal.invariant-are_built_units-loop-unit
invariant-are_built_units-loop-unit l = LeftDecide (λ es. are_built_units (exps_of es)) l.units l.unit-index
