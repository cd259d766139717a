use Rattle.std.proofs.Common.{◌≡◌, ◌+◌, drop, get_or, None, sym, ◌∙◌, ap, arith, drop_of_length-le}
use Rattle.pi_engine_code.specs.declared.code.HeadTest.{HeadTest}
use Rattle.pi_engine_stands.proofs.HeadsMatch.{tests-all, tests-fail, tests-pass, tests-some, tests-done}
use Rattle.pi_engine_steps.proofs.heads.pass_tests.Goals as goal

pub loop-i-init : goal.loop-i-init
loop-i-init g c = λ b ps ts e at fits slots count are deep args.
    tests-all (g.S.StateStore.seen c.args.store.now) c.args.blocks.now b c.args.base c.args.tests.now ps ts e slots count are args

pub returns-in_default : goal.returns-in_default
returns-in_default g c = λ b ps ts e at fits slots count are deep args.
    let index : c.saturating_add.result ≡ c.args.base + c.loop-i.i = omega (arith, c.saturating_add.ensures, args.within, c.loop-i-test.true, (c.loop-i.invariant b ps ts e at fits slots count are deep args).as_many, c.get.ensures.most) in
    absurd (tests-some (g.S.StateStore.seen c.args.store.now) c.args.blocks.now c.loop-i.blocks b c.args.base c.loop-i.i c.args.tests.now HeadTest.Deep _ c.loop-i-test.true (c.loop-i.invariant b ps ts e at fits slots count are deep args)
    (ap (λ n. get_or c.loop-i.blocks.slots n None) (sym index) ∙ sym c.get.ensures.is ∙ c.in_default.is))

pub returns-then-not-branch : goal.returns-then-not-branch
returns-then-not-branch g c = λ b ps ts e at fits slots count are deep args.
    let index : c.saturating_add.result ≡ c.args.base + c.loop-i.i = omega (arith, c.saturating_add.ensures, args.within, c.loop-i-test.true, (c.loop-i.invariant b ps ts e at fits slots count are deep args).as_many, c.get.ensures.most) in
    tests-fail (g.S.StateStore.seen c.args.store.now) c.args.blocks.now c.loop-i.blocks c.accepts.new.blocks b c.args.base c.loop-i.i c.args.tests.now _ c.in-Some.arg c.in_ok-accepts.field-0 _ c.loop-i-test.true deep
    (c.loop-i.invariant b ps ts e at fits slots count are deep args)
    (ap (λ n. get_or c.loop-i.blocks.slots n None) (sym index) ∙ sym c.get.ensures.is ∙ c.in-Some.is)
    c.if-not-branch.true (λ p t f. c.in_ok-accepts.ensures b p t f at)

pub loop-i-preserved : goal.loop-i-preserved
loop-i-preserved g c = λ b ps ts e at fits slots count are deep args.
    let index : c.saturating_add.result ≡ c.args.base + c.loop-i.i = omega (arith, c.saturating_add.ensures, args.within, c.loop-i-test.true, (c.loop-i.invariant b ps ts e at fits slots count are deep args).as_many, c.get.ensures.most) in
    tests-pass (g.S.StateStore.seen c.args.store.now) c.args.blocks.now c.loop-i.blocks c.accepts.new.blocks b c.args.base c.loop-i.i c.args.tests.now _ c.in-Some.arg c.in_ok-accepts.field-0 _ c.loop-i-test.true deep (omega (arith, fits, at))
    (c.loop-i.invariant b ps ts e at fits slots count are deep args)
    (ap (λ n. get_or c.loop-i.blocks.slots n None) (sym index) ∙ sym c.get.ensures.is ∙ c.in-Some.is)
    c.if-not-branch.false (λ p t f. c.in_ok-accepts.ensures b p t f at)

pub returns : goal.returns
returns g c = λ b ps ts e at fits slots count are deep args.
    tests-done (g.S.StateStore.seen c.args.store.now) c.args.blocks.now c.loop-i.blocks b c.args.base c.loop-i.i (drop c.loop-i.i c.args.tests.now) _ (c.loop-i.invariant b ps ts e at fits slots count are deep args)
    (drop_of_length-le c.args.tests.now (omega (arith, c.loop-i-test.false, c.loop-i.auto.i-end)))
