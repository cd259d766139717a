use Rattle.pi_syntax.specs.ExpLists.{exps_of}
use Rattle.pi_rewrite_sound.specs.Built.{are_built_terms}
use Rattle.pi_rewrite_sound.proofs.EachLemmas.{LeftDecide}
use Rattle.pi_rewrite_sound.proofs.terms.+term.Given as goal

abbrev pub invariant-are_built_terms-loop-exp : goal.invariant-are_built_terms-loop-exp
invariant-are_built_terms-loop-exp l = LeftDecide (λ es. are_built_terms (exps_of es)) l.exps l.exp-index
