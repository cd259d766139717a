use Rattle.std.specs.Prelude.{pos}
use Rattle.pi_constraints.specs.Store.{IsTerm}
use Rattle.pi_effects.specs.Answer.{integer_then}
use Rattle.pi_effects.specs.Ranges.{range}
use Rattle.pi_effects.proofs.FaultLemmas.{integer-stops, integers-stop}
use Rattle.pi_lib.proofs.StoreLemmas.{stays_none}
use Rattle.pi_lib.proofs.StopLemmas.{stop_shown}
use Rattle.pi_lib.proofs.ranges.range.Goals as goal

pub returns-in_err-low-clause-stays : goal.returns-in_err-low-clause-stays
returns-in_err-low-clause-stays g c = stays_none (g.S.StateStore.seen c.args.s.now)

pub returns-in_err-low-clause-shows : goal.returns-in_err-low-clause-shows
returns-in_err-low-clause-shows g c = λ t u a first second.
    let v = g.S.StateStore.seen c.args.s.now in
    stop_shown (IsTerm v) v c.from_residual.result _ _ c.from_residual.ensures.1 (integer-stops v _ t (λ low. integer_then v.now.state u (λ high. range low (pos 1) high)) (c.in_err-low.ensures t a first))

pub returns-in_err-high-clause-stays : goal.returns-in_err-high-clause-stays
returns-in_err-high-clause-stays g c = stays_none (g.S.StateStore.seen c.args.s.now)

pub returns-in_err-high-clause-shows : goal.returns-in_err-high-clause-shows
returns-in_err-high-clause-shows g c = λ t u a first second.
    let v = g.S.StateStore.seen c.args.s.now in
    stop_shown (IsTerm v) v c.from_residual-in_err-high.result _ _ c.from_residual-in_err-high.ensures.1
    (integers-stop v _ t u (λ low high. range low (pos 1) high) c.in_ok-low.low (c.in_ok-low.ensures t a first) (c.in_err-high.ensures u a second))

pub returns-clause-stays : goal.returns-clause-stays
returns-clause-stays g c = c.put_range.ensures.stays
