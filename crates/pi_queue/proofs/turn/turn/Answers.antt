use Rattle.std.proofs.Common.{rules, true, false, ◌≡◌}
use Rattle.pi_queue.proofs.LeaveLemmas.{itself}
use Rattle.pi_queue.proofs.TurnLemmas.{turn-narrower, turn-fails, turn-goes}
use Rattle.pi_queue.proofs.turn.turn.Goals as goal

pub returns-in_err-constraint-clause-narrower : goal.returns-in_err-constraint-clause-narrower
returns-in_err-constraint-clause-narrower g c = λ m. itself (g.S.StateStore.seen c.args.s.now).now.state m.state m.settles

pub returns-in_err-some-clause-narrower : goal.returns-in_err-some-clause-narrower
returns-in_err-some-clause-narrower g c =
    turn-narrower (g.S.StateStore.seen c.args.s.now).now.state (g.S.StateStore.seen c.narrow.new.s).now.state c.args.i c.in_ok-constraint.constraint c.new-lost.result.items c.in_ok-constraint.ensures c.new-lost.ensures.items c.narrow.ensures.narrower

pub returns-then-not-some-clause-narrower : goal.returns-then-not-some-clause-narrower
returns-then-not-some-clause-narrower g c =
    turn-narrower (g.S.StateStore.seen c.args.s.now).now.state (g.S.StateStore.seen c.narrow.new.s).now.state c.args.i c.in_ok-constraint.constraint c.new-lost.result.items c.in_ok-constraint.ensures c.new-lost.ensures.items c.narrow.ensures.narrower

pub returns-then-not-some-clause-turns : goal.returns-then-not-some-clause-turns
returns-then-not-some-clause-turns g c =
    let none : c.in_ok-some.some ≡ false = search rules in
    turn-fails (g.S.StateStore.seen c.args.s.now).now.state (g.S.StateStore.seen c.narrow.new.s).now.state c.args.i c.in_ok-constraint.constraint c.new-lost.result.items c.narrow.new.lost.items c.in_ok-some.some c.in_ok-constraint.ensures c.new-lost.ensures.items c.in_ok-some.ensures.leaves none

pub returns-in_err-wake-clause-narrower : goal.returns-in_err-wake-clause-narrower
returns-in_err-wake-clause-narrower g c =
    turn-narrower (g.S.StateStore.seen c.args.s.now).now.state (g.S.StateStore.seen c.narrow.new.s).now.state c.args.i c.in_ok-constraint.constraint c.new-lost.result.items c.in_ok-constraint.ensures c.new-lost.ensures.items c.narrow.ensures.narrower

pub returns-clause-narrower : goal.returns-clause-narrower
returns-clause-narrower g c =
    turn-narrower (g.S.StateStore.seen c.args.s.now).now.state (g.S.StateStore.seen c.narrow.new.s).now.state c.args.i c.in_ok-constraint.constraint c.new-lost.result.items c.in_ok-constraint.ensures c.new-lost.ensures.items c.narrow.ensures.narrower

pub returns-clause-turns : goal.returns-clause-turns
returns-clause-turns g c =
    let all : c.in_ok-some.some ≡ true = search rules in
    turn-goes (g.S.StateStore.seen c.args.s.now).now.state (g.S.StateStore.seen c.narrow.new.s).now.state c.args.i c.in_ok-constraint.constraint c.new-lost.result.items c.narrow.new.lost.items c.args.waiting.now c.wake.new.waiting c.as_slice.result.now c.in_ok-some.some c.in_ok-constraint.ensures c.new-lost.ensures.items c.in_ok-some.ensures.leaves all
    c.as_slice.ensures.value c.in_ok-wake.ensures
