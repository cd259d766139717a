use Rattle.std.proofs.Common.{Ok, refl, ap, sym}
use Rattle.pi_effects.specs.Effect.{Writes}
use Rattle.pi_lib_builtin.specs.declared.predicates.PredicateOfNone.{PredicateOfNone}
use Rattle.pi_lib.specs.declared.predicates.Outcome.{Outcome}
use Rattle.pi_lib.proofs.PredicateBodies.{none-shown}
use Rattle.pi_lib.proofs.predicates.call_of_none.Goals as goal

pub returns-in-True : goal.returns-in-True
returns-in-True g c = λ e done. let v = g.S.StateStore.seen c.args.s.now in none-shown v v (Ok Outcome.Yes) c.args.predicate PredicateOfNone.True e c.in-True.is refl done

pub returns-in-Fail : goal.returns-in-Fail
returns-in-Fail g c = λ e done. let v = g.S.StateStore.seen c.args.s.now in none-shown v v (Ok Outcome.No) c.args.predicate PredicateOfNone.Fail e c.in-Fail.is refl done

pub returns-in_ok-text-in-LineFeed : goal.returns-in_ok-text-in-LineFeed
returns-in_ok-text-in-LineFeed g c = λ e done.
    let v = g.S.StateStore.seen c.args.s.now in
    none-shown v v (Ok (Outcome.Out c.in_ok-text-in-LineFeed.text)) c.args.predicate PredicateOfNone.LineFeed e c.in-LineFeed.is (ap (λ text. Writes text v.now.state) (sym c.in_ok-text-in-LineFeed.ensures.ok)) done
