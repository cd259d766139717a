use Rattle.std.proofs.lemmas.Bool.{both_ways}
use Rattle.pi_constraints.specs.declared.constraint.Constraint.{Constraint}
use Rattle.pi_sat_spec.specs.Logs.{Refutes}
use Rattle.pi_sat_search.proofs.LeafLemmas.{none-so-far, none-at-all}
use Rattle.pi_sat_search.proofs.leaves.refuting.Goals as goal

pub loop-i-preserved : goal.loop-i-preserved
loop-i-preserved c =
    none-so-far c.args.constraints.now c.loop-i.i c.index-constraints-i.result (λ (b : Constraint). Refutes b c.args.present.now) c.loop-i-test.true c.index-constraints-i.is
    (λ r. both_ways c.in_ok-refutes.field-0 c.if-branch.false (c.in_ok-refutes.ensures.1 r)) c.loop-i.invariant

pub returns : goal.returns
returns c = none-at-all c.args.constraints.now c.loop-i.i (λ (b : Constraint). Refutes b c.args.present.now) c.loop-i-test.false c.loop-i.invariant
