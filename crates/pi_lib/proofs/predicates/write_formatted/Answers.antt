use Rattle.std.proofs.Common.{◌≡◌, Some, refl, codes}
use Rattle.pi_unify.proofs.KeepsLemmas.{keeps_none}
use Rattle.pi_constraints.specs.Store.{Stays}
use Rattle.pi_effects.specs.BuiltIns.{built_in_predicate}
use Rattle.pi_effects.specs.Format.{formatted}
use Rattle.pi_effects.specs.Items.{each_tree}
use Rattle.pi_lib.specs.Outcomes.{ShowsOutcome}
use Rattle.pi_lib.proofs.FunctionCalls.{terms-first}
use Rattle.pi_lib.proofs.PredicateBodies.{printf-shown, text-shown}
use Rattle.pi_lib.proofs.predicates.write_formatted.Goals as goal

pub returns : goal.returns
returns g c = λ ts e a terms done.
    let v = g.S.StateStore.seen c.args.s.now in
    let stays : Stays v v = record { keeps = keeps_none v; state = refl } in
    terms-first v c.args.args.now c.in-Some.format.now c.in-Some.rest.now ts (λ us. built_in_predicate (codes "printf") us v.now.state ≡ Some e → ShowsOutcome v v c.written.result e) c.in-Some.ensures.cases.0 terms
    (λ t us is others d. printf-shown v c.written.result t us e (text-shown v c.printf.result c.written.result (formatted v.now.state t (each_tree us)) c.written.ensures stays (c.printf.ensures t us a is others)) d) done
