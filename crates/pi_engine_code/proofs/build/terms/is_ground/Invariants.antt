use Rattle.std.proofs.Common.{take}
use Rattle.pi_terms.specs.Tree.{subterms}
use Rattle.pi_engine_code.proofs.LaidTerms.{NoVariables}
use Rattle.pi_engine_code.proofs.build.terms.is_ground.Given as goal

-- the first so many are no variables
abbrev pub invariant-loop-i : goal.invariant-loop-i
invariant-loop-i l = NoVariables (take l.i (subterms l.term))
