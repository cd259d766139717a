use Rattle.std.proofs.Common.{◌≡◌, ◌+◌, ◌++◌, drop, get_or, None, sym, ◌∙◌, ap, arith, drop_of_length-le}
use Rattle.pi_core.specs.declared.core_program.Pattern.{Pattern}
use Rattle.pi_engine_stands.proofs.HeadsMatch.{patterns-all, patterns-some, patterns-fail, patterns-pass, patterns-done}
use Rattle.pi_engine_steps.proofs.heads.matches_patterns.Goals as goal

pub loop-i-init : goal.loop-i-init
loop-i-init g c = λ ts state args.
    patterns-all (g.S.StateStore.seen c.args.store.now) c.args.blocks.now.slots c.empty.new.slots.items c.args.base c.args.count c.args.patterns.now ts c.in_ok-empty.ensures args

pub returns-in_default : goal.returns-in_default
returns-in_default g c = λ b ts many fits same over state args.
    let index : c.saturating_add.result ≡ c.args.base + c.loop-i.i = omega (arith, c.saturating_add.ensures, args.within, c.loop-i-test.true, c.get.ensures.most) in
    absurd (patterns-some (g.S.StateStore.seen c.args.store.now) c.args.blocks.now.slots c.args.base c.loop-i.i c.args.count c.args.patterns.now (Pattern.Slot 0) c.loop-i.slots.items _ c.loop-i-test.true (c.loop-i.invariant ts state args)
    (ap (λ n. get_or c.args.blocks.now.slots n None) (sym index) ∙ sym c.get.ensures.is ∙ c.in_default.is))

pub returns-then-not-branch : goal.returns-then-not-branch
returns-then-not-branch g c = λ b ts many fits same over state args.
    let index : c.saturating_add.result ≡ c.args.base + c.loop-i.i = omega (arith, c.saturating_add.ensures, args.within, c.loop-i-test.true, c.get.ensures.most) in
    patterns-fail (g.S.StateStore.seen c.args.store.now) c.args.blocks.now b c.args.base c.loop-i.i c.args.count c.args.patterns.now _ c.in-Some.arg c.in_ok-match_head.field-0 c.loop-i.slots.items c.match_head.new.slots.items _ c.loop-i-test.true
    (omega (arith, many)) (c.loop-i.invariant ts state args) (ap (λ n. get_or c.args.blocks.now.slots n None) (sym index) ∙ sym c.get.ensures.is ∙ c.in-Some.is) c.if-not-branch.true c.index-patterns-i.result c.index-patterns-i.is
    (λ t is given. c.in_ok-match_head.ensures.terms t is state.acyclic given)

pub loop-i-preserved : goal.loop-i-preserved
loop-i-preserved g c = λ ts state args.
    let index : c.saturating_add.result ≡ c.args.base + c.loop-i.i = omega (arith, c.saturating_add.ensures, args.within, c.loop-i-test.true, c.get.ensures.most) in
    patterns-pass (g.S.StateStore.seen c.args.store.now) c.args.blocks.now.slots c.args.base c.loop-i.i c.args.count c.args.patterns.now _ c.in-Some.arg c.in_ok-match_head.field-0 c.loop-i.slots.items c.match_head.new.slots.items _ c.loop-i-test.true
    (c.loop-i.invariant ts state args) (ap (λ n. get_or c.args.blocks.now.slots n None) (sym index) ∙ sym c.get.ensures.is ∙ c.in-Some.is) c.if-not-branch.false c.index-patterns-i.result c.index-patterns-i.is
    (λ t is given. c.in_ok-match_head.ensures.terms t is state.acyclic given) c.match_head.ensures.fills.as_many (λ one all. c.match_head.ensures.given one state.acyclic all)

pub returns : goal.returns
returns g c = λ b ts many fits same over state args.
    patterns-done (g.S.StateStore.seen c.args.store.now) c.args.blocks.now c.push_slots.new.self b c.args.base c.loop-i.i c.args.count (drop c.loop-i.i c.args.patterns.now) c.loop-i.slots.items _ (c.loop-i.invariant ts state args)
    (drop_of_length-le c.args.patterns.now (omega (arith, c.loop-i-test.false, c.loop-i.auto.i-end))) many same (c.in_ok-push_slots.ensures.ok ∙ ap (λ q. c.args.blocks.now.slots ++ q) c.deref.ensures.value) c.push_slots.ensures.keeps c.push_slots.ensures.kept
