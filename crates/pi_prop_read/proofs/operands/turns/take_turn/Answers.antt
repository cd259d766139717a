use Rattle.std.proofs.Common.{sym, subst}
use Rattle.pi_prop_read.specs.OperandFrames.{IsTurn, ShowsNext}
use Rattle.pi_prop_read.proofs.LoopLemmas.{turn-shown}
use Rattle.pi_prop_read.proofs.operands.turns.take_turn.Goals as goal

pub returns-in-Read : goal.returns-in-Read
returns-in-Read g c = λ whole s t.
    let v = g.S.StateStore.seen c.args.s.now in
    let a = c.args.making.now in
    let old = c.args.frames.now.items in
    let new = c.begin.new.frames.items in
    subst (λ x. ShowsNext v.now a x new whole) (sym c.next_turn.ensures) (turn-shown v.now a c.begin.result new whole (c.begin.ensures a whole s (subst (λ x. IsTurn v.now a x old whole) c.in-Read.is t)))
