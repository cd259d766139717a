use Rattle.std.proofs.Common.{rules, arith, refl, get_or, true, false, ◌≡◌, length}
use Rattle.std.proofs.lemmas.List.{get_or_default}
use Rattle.pi_constraints.specs.declared.constraint.Item.{Item}
use Rattle.pi_queue.proofs.LoopLemmas.{leaves-start, leaves-narrower, leaves-end}
use Rattle.pi_queue.proofs.ToldLemmas.{told-more, told-none}
use Rattle.pi_queue.proofs.StoreLemmas.{keeps-itself, keeps-then}
use Rattle.pi_queue.proofs.leaving.leave_all.Goals as goal

pub loop-k-init : goal.loop-k-init
loop-k-init g c = (keeps-itself (g.S.StateStore.seen c.args.s.now), λ d before left told m. leaves-start (g.S.StateStore.seen c.args.s.now).now.state d c.args.roots.now before left c.args.lost.now.items m)

pub loop-k-preserved : goal.loop-k-preserved
loop-k-preserved g c =
    let item : Item = get_or c.args.roots.now c.loop-k.k (Item.Var 0) in
    let all : c.in_ok-some.some ≡ true = search rules in (
      keeps-then (g.S.StateStore.seen c.args.s.now) (g.S.StateStore.seen c.loop-k.s) (g.S.StateStore.seen c.leave.new.s) c.loop-k.invariant.0 c.leave.ensures.keeps,
      λ d before left told m. told-more (g.S.StateStore.seen c.args.s.now).now.state (g.S.StateStore.seen c.loop-k.s).now.state (g.S.StateStore.seen c.leave.new.s).now.state d c.loop-k.k c.args.roots.now before left c.args.told.now c.args.lost.now.items c.loop-k.lost.items c.leave.new.lost.items item c.index-told-k.result c.in_ok-some.some told m c.loop-k-test.true (get_or_default c.args.roots.now c.loop-k.k (Item.Var 0) item c.loop-k-test.true) c.index-told-k.is (c.loop-k.invariant.1 d before left told m) c.in_ok-some.ensures.takes all,
    )

pub returns-in_err-some-clause-keeps : goal.returns-in_err-some-clause-keeps
returns-in_err-some-clause-keeps g c = keeps-then (g.S.StateStore.seen c.args.s.now) (g.S.StateStore.seen c.loop-k.s) (g.S.StateStore.seen c.leave.new.s) c.loop-k.invariant.0 c.leave.ensures.keeps

pub returns-in_err-some-clause-narrower : goal.returns-in_err-some-clause-narrower
returns-in_err-some-clause-narrower g c = λ d before left told m.
    leaves-narrower (g.S.StateStore.seen c.args.s.now).now.state (g.S.StateStore.seen c.loop-k.s).now.state (g.S.StateStore.seen c.leave.new.s).now.state d c.loop-k.k c.args.roots.now before left c.args.lost.now.items c.loop-k.lost.items m (c.loop-k.invariant.1 d before left told m) c.in_err-some.ensures.err

pub returns-then-not-some-clause-keeps : goal.returns-then-not-some-clause-keeps
returns-then-not-some-clause-keeps g c = keeps-then (g.S.StateStore.seen c.args.s.now) (g.S.StateStore.seen c.loop-k.s) (g.S.StateStore.seen c.leave.new.s) c.loop-k.invariant.0 c.leave.ensures.keeps

pub returns-then-not-some-clause-narrower : goal.returns-then-not-some-clause-narrower
returns-then-not-some-clause-narrower g c = λ d before left told m.
    let item : Item = get_or c.args.roots.now c.loop-k.k (Item.Var 0) in
    let none : c.in_ok-some.some ≡ false = search rules in
    (told-none (g.S.StateStore.seen c.args.s.now).now.state (g.S.StateStore.seen c.loop-k.s).now.state (g.S.StateStore.seen c.leave.new.s).now.state d c.loop-k.k c.args.roots.now before left c.args.told.now c.args.lost.now.items c.loop-k.lost.items c.leave.new.lost.items item c.index-told-k.result c.in_ok-some.some told m c.loop-k-test.true (get_or_default c.args.roots.now c.loop-k.k (Item.Var 0) item c.loop-k-test.true) c.index-told-k.is (c.loop-k.invariant.1 d before left told m) c.in_ok-some.ensures.takes none).1

pub returns-then-not-some-clause-leaves : goal.returns-then-not-some-clause-leaves
returns-then-not-some-clause-leaves g c = λ d before left told m.
    let item : Item = get_or c.args.roots.now c.loop-k.k (Item.Var 0) in
    let none : c.in_ok-some.some ≡ false = search rules in
    (told-none (g.S.StateStore.seen c.args.s.now).now.state (g.S.StateStore.seen c.loop-k.s).now.state (g.S.StateStore.seen c.leave.new.s).now.state d c.loop-k.k c.args.roots.now before left c.args.told.now c.args.lost.now.items c.loop-k.lost.items c.leave.new.lost.items item c.index-told-k.result c.in_ok-some.some told m c.loop-k-test.true (get_or_default c.args.roots.now c.loop-k.k (Item.Var 0) item c.loop-k-test.true) c.index-told-k.is (c.loop-k.invariant.1 d before left told m) c.in_ok-some.ensures.takes none).0

pub returns-clause-keeps : goal.returns-clause-keeps
returns-clause-keeps g c = c.loop-k.invariant.0

pub returns-clause-narrower : goal.returns-clause-narrower
returns-clause-narrower g c = λ d before left told m.
    leaves-narrower (g.S.StateStore.seen c.args.s.now).now.state (g.S.StateStore.seen c.loop-k.s).now.state (g.S.StateStore.seen c.loop-k.s).now.state d c.loop-k.k c.args.roots.now before left c.args.lost.now.items c.loop-k.lost.items m (c.loop-k.invariant.1 d before left told m) refl

pub returns-clause-leaves : goal.returns-clause-leaves
returns-clause-leaves g c = λ d before left told m.
    let all : c.loop-k.k ≡ length c.args.roots.now = omega (arith, c.loop-k-test.false, c.loop-k.auto.k-end) in
    leaves-end (g.S.StateStore.seen c.args.s.now).now.state (g.S.StateStore.seen c.loop-k.s).now.state d c.loop-k.k c.args.roots.now before left c.args.lost.now.items c.loop-k.lost.items m all (c.loop-k.invariant.1 d before left told m)
