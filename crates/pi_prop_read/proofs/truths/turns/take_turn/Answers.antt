use Rattle.std.proofs.Common.{sym, subst}
use Rattle.pi_prop_read.specs.TruthFrames.{IsTurn, ShowsNext}
use Rattle.pi_prop_read.proofs.TruthTurns.{turn-shown}
use Rattle.pi_prop_read.proofs.truths.turns.take_turn.Goals as goal

pub returns-in-Read : goal.returns-in-Read
returns-in-Read g c = λ whole s t.
    let v = g.S.StateStore.seen c.args.s.now in
    let old = c.args.frames.now.items in
    let b = c.begin.new.making in
    let new = c.begin.new.frames.items in
    subst (λ x. ShowsNext v.now b x new whole) (sym c.next_turn.ensures) (turn-shown v.now b c.begin.result new whole (c.begin.ensures whole s (subst (λ x. IsTurn v.now c.args.making.now x old whole) c.in-Read.is t)))
