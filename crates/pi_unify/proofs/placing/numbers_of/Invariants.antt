use Rattle.std.proofs.Common.{◌≡◌, take}
use Rattle.pi_terms.specs.Tree.{subterms}
use Rattle.pi_terms.specs.Variables.{firsts}
use Rattle.pi_unify.specs.Copying.{root_variables}
use Rattle.pi_unify.proofs.placing.numbers_of.Given as goal

abbrev pub invariant-loop-i : goal.invariant-loop-i
invariant-loop-i l = l.numbers ≡ firsts (root_variables (take l.i (subterms l.t)))
