use Rattle.std.proofs.Common.{rules}
use Rattle.pi_queue.proofs.TakeLemmas.{all-kept, none-kept, some-kept-at}
use Rattle.pi_queue.proofs.leaving.keep.Goals as goal

pub returns-then-have_one_size-clause-takes : goal.returns-then-have_one_size-clause-takes
returns-then-have_one_size-clause-takes g c = λ is has inside.
    all-kept (g.S.StateStore.seen c.args.s.now).now.state c.args.v c.args.had.now c.args.kept.now c.args.lost.now.items c.have_one_size.result has c.have_one_size.ensures.first c.have_one_size.ensures.second inside c.have_one_size.ensures.same c.if-have_one_size.true

pub returns-in_default-clause-takes : goal.returns-in_default-clause-takes
returns-in_default-clause-takes g c = λ is has inside.
    none-kept (g.S.StateStore.seen c.args.s.now).now.state c.args.v c.args.kept.now c.args.lost.now.items c.args.lost.now.items (search rules)

pub returns-clause-takes : goal.returns-clause-takes
returns-clause-takes g c = λ is has inside.
    some-kept-at (g.S.StateStore.seen c.args.s.now).now.state (g.S.StateStore.seen c.write.new.s).now.state c.args.v c.args.had.now c.args.kept.now c.in-Some.least _ c.have_one_size.result c.args.lost.now.items _ has c.have_one_size.ensures.first c.have_one_size.ensures.second inside
    c.have_one_size.ensures.same c.if-have_one_size.false c.in-Some.ensures.some.is_value (c.in_ok-write.ensures.one c.args.had.now is has) (c.in_ok-write.ensures.more c.args.had.now is has) c.in_ok-push.ensures.items (search rules)
