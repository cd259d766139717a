use Rattle.pi_syntax.specs.ExpLists.{exps_of}
use Rattle.pi_rewrite_sound.specs.Built.{are_built_patterns}
use Rattle.pi_rewrite_sound.proofs.EachLemmas.{LeftDecide}
use Rattle.pi_rewrite_sound.proofs.patterns.+pattern.Given as goal

abbrev pub invariant-are_built_patterns-loop-exp : goal.invariant-are_built_patterns-loop-exp
invariant-are_built_patterns-loop-exp l = LeftDecide (λ es. are_built_patterns (exps_of es)) l.exps l.exp-index
