use Rattle.std.proofs.Common.{rules, ◌≡◌, ◌≤◌, true, false, refl}
use Rattle.std.proofs.lemmas.Result.{err_from_is_err_and}
use Rattle.pi_queue.proofs.StoreLemmas.{keeps-itself, keeps-then}
use Rattle.pi_settling.specs.Runs.{work_of}
use Rattle.pi_queue.proofs.EndLemmas.{none-counted, one-counted, begins, may-turn, goes-on, turn-by, failure-by, done, failed, spent, under-way, in-a-turn}
use Rattle.pi_queue.proofs.propagation.run_all.Goals as goal

pub loop-i-init : goal.loop-i-init
loop-i-init g c = (keeps-itself (g.S.StateStore.seen c.args.s.now), λ may. begins (g.S.StateStore.seen c.args.s.now).now.state c.args.waiting.now c.args.limit c.args.work.now, none-counted c.args.limit c.args.work.now)

pub loop-i-preserved : goal.loop-i-preserved
loop-i-preserved g c =
    let s0 = (g.S.StateStore.seen c.args.s.now).now.state in
    let r = (g.S.StateStore.seen c.loop-i.s).now.state in
    let q = (g.S.StateStore.seen c.turn.new.s).now.state in
    let all : c.in_ok-some.some ≡ true = search rules in
    let unspent : c.args.limit ≤ work_of c.loop-i.work → ⊥ = λ h. let hit : c.is_spent.result ≡ true = c.is_spent.ensures.1 h in let miss : c.is_spent.result ≡ false = c.if-is_spent.false in cc in (
      keeps-then (g.S.StateStore.seen c.args.s.now) (g.S.StateStore.seen c.loop-i.s) (g.S.StateStore.seen c.turn.new.s) c.loop-i.invariant.0 c.turn.ensures.keeps,
      λ may.
          let b = c.loop-i.invariant.1 may in
          let m = may-turn s0 c.args.waiting.now c.args.limit c.args.work.now c.loop-i.work r c.loop-i.waiting c.in-Some.i c.take.new.self may b c.in-Some.ensures.first in
          goes-on s0 c.args.waiting.now c.args.limit c.args.work.now c.loop-i.work _ r q c.loop-i.waiting c.in-Some.i c.take.new.self c.turn.new.waiting b c.in-Some.ensures.first
          unspent
          (record { goals = refl; runs = refl; expansions = refl })
          (turn-by r q c.in-Some.i c.take.new.self c.turn.new.waiting c.in_ok-some.some (c.in_ok-some.ensures.turns m) all),
      one-counted c.args.limit c.args.work.now c.loop-i.work _ c.loop-i.invariant.2 unspent (record { goals = refl; runs = refl; expansions = refl }),
    )

pub returns-then-is_spent-clause-keeps : goal.returns-then-is_spent-clause-keeps
returns-then-is_spent-clause-keeps g c = c.loop-i.invariant.0

pub returns-then-is_spent-clause-ends : goal.returns-then-is_spent-clause-ends
returns-then-is_spent-clause-ends g c = λ may.
    let s0 = (g.S.StateStore.seen c.args.s.now).now.state in
    let r = (g.S.StateStore.seen c.loop-i.s).now.state in
    spent s0 c.args.waiting.now c.args.limit c.args.work.now c.loop-i.work r c.loop-i.waiting c.in-Some.i c.take.new.self (c.loop-i.invariant.1 may) c.in-Some.ensures.first (c.is_spent.ensures.0 c.if-is_spent.true)

pub returns-then-is_spent-clause-under_way : goal.returns-then-is_spent-clause-under_way
returns-then-is_spent-clause-under_way g c = λ may.
    let s0 = (g.S.StateStore.seen c.args.s.now).now.state in
    let r = (g.S.StateStore.seen c.loop-i.s).now.state in
    under-way s0 c.args.waiting.now c.args.limit c.args.work.now c.loop-i.work r c.loop-i.waiting may (c.loop-i.invariant.1 may)

pub returns-in_err-some-clause-keeps : goal.returns-in_err-some-clause-keeps
returns-in_err-some-clause-keeps g c = keeps-then (g.S.StateStore.seen c.args.s.now) (g.S.StateStore.seen c.loop-i.s) (g.S.StateStore.seen c.turn.new.s) c.loop-i.invariant.0 c.turn.ensures.keeps

pub returns-in_err-some-clause-ends : goal.returns-in_err-some-clause-ends
returns-in_err-some-clause-ends g c = λ may. let p = err_from_is_err_and c.from_residual.result c.from_residual.ensures.1 in rw (p.1, p.2) tt

pub returns-in_err-some-clause-under_way : goal.returns-in_err-some-clause-under_way
returns-in_err-some-clause-under_way g c = λ may.
    let s0 = (g.S.StateStore.seen c.args.s.now).now.state in
    let r = (g.S.StateStore.seen c.loop-i.s).now.state in
    let b = c.loop-i.invariant.1 may in
    let m = may-turn s0 c.args.waiting.now c.args.limit c.args.work.now c.loop-i.work r c.loop-i.waiting c.in-Some.i c.take.new.self may b c.in-Some.ensures.first in
    in-a-turn s0 c.args.waiting.now c.args.limit c.args.work.now c.loop-i.work _ r (g.S.StateStore.seen c.turn.new.s).now.state c.loop-i.waiting c.in-Some.i c.take.new.self b c.in-Some.ensures.first (record { goals = refl; runs = refl; expansions = refl }) (c.turn.ensures.narrower m)

pub returns-then-not-some-clause-keeps : goal.returns-then-not-some-clause-keeps
returns-then-not-some-clause-keeps g c = keeps-then (g.S.StateStore.seen c.args.s.now) (g.S.StateStore.seen c.loop-i.s) (g.S.StateStore.seen c.turn.new.s) c.loop-i.invariant.0 c.turn.ensures.keeps

pub returns-then-not-some-clause-ends : goal.returns-then-not-some-clause-ends
returns-then-not-some-clause-ends g c = λ may.
    let s0 = (g.S.StateStore.seen c.args.s.now).now.state in
    let r = (g.S.StateStore.seen c.loop-i.s).now.state in
    let none : c.in_ok-some.some ≡ false = search rules in
    let b = c.loop-i.invariant.1 may in
    let m = may-turn s0 c.args.waiting.now c.args.limit c.args.work.now c.loop-i.work r c.loop-i.waiting c.in-Some.i c.take.new.self may b c.in-Some.ensures.first in
    failed s0 c.args.waiting.now c.args.limit c.args.work.now c.loop-i.work _ r c.loop-i.waiting c.in-Some.i c.take.new.self b c.in-Some.ensures.first (record { goals = refl; runs = refl; expansions = refl })
    (failure-by r (g.S.StateStore.seen c.turn.new.s).now.state c.in-Some.i c.take.new.self c.turn.new.waiting c.in_ok-some.some (c.in_ok-some.ensures.turns m) none)

pub returns-then-not-some-clause-under_way : goal.returns-then-not-some-clause-under_way
returns-then-not-some-clause-under_way g c = λ may.
    let s0 = (g.S.StateStore.seen c.args.s.now).now.state in
    let r = (g.S.StateStore.seen c.loop-i.s).now.state in
    let b = c.loop-i.invariant.1 may in
    let m = may-turn s0 c.args.waiting.now c.args.limit c.args.work.now c.loop-i.work r c.loop-i.waiting c.in-Some.i c.take.new.self may b c.in-Some.ensures.first in
    in-a-turn s0 c.args.waiting.now c.args.limit c.args.work.now c.loop-i.work _ r (g.S.StateStore.seen c.turn.new.s).now.state c.loop-i.waiting c.in-Some.i c.take.new.self b c.in-Some.ensures.first (record { goals = refl; runs = refl; expansions = refl }) (c.turn.ensures.narrower m)

pub returns-clause-keeps : goal.returns-clause-keeps
returns-clause-keeps g c = c.loop-i.invariant.0

pub returns-clause-ends : goal.returns-clause-ends
returns-clause-ends g c = λ may.
    let s0 = (g.S.StateStore.seen c.args.s.now).now.state in
    let r = (g.S.StateStore.seen c.loop-i.s).now.state in
    done s0 c.args.waiting.now c.args.limit c.args.work.now c.loop-i.work r c.loop-i.waiting (c.loop-i.invariant.1 may) c.in_default.ensures.first

pub returns-clause-under_way : goal.returns-clause-under_way
returns-clause-under_way g c = λ may.
    let s0 = (g.S.StateStore.seen c.args.s.now).now.state in
    let r = (g.S.StateStore.seen c.loop-i.s).now.state in
    under-way s0 c.args.waiting.now c.args.limit c.args.work.now c.loop-i.work r c.loop-i.waiting may (c.loop-i.invariant.1 may)

pub returns-in_err-some-clause-within : goal.returns-in_err-some-clause-within
returns-in_err-some-clause-within g c =
    one-counted c.args.limit c.args.work.now c.loop-i.work _ c.loop-i.invariant.2
    (λ h. let hit : c.is_spent.result ≡ true = c.is_spent.ensures.1 h in let miss : c.is_spent.result ≡ false = c.if-is_spent.false in cc)
    (record { goals = refl; runs = refl; expansions = refl })

pub returns-then-not-some-clause-within : goal.returns-then-not-some-clause-within
returns-then-not-some-clause-within g c =
    one-counted c.args.limit c.args.work.now c.loop-i.work _ c.loop-i.invariant.2
    (λ h. let hit : c.is_spent.result ≡ true = c.is_spent.ensures.1 h in let miss : c.is_spent.result ≡ false = c.if-is_spent.false in cc)
    (record { goals = refl; runs = refl; expansions = refl })

pub returns-then-is_spent-clause-within : goal.returns-then-is_spent-clause-within
returns-then-is_spent-clause-within g c = c.loop-i.invariant.2

pub returns-clause-within : goal.returns-clause-within
returns-clause-within g c = c.loop-i.invariant.2
