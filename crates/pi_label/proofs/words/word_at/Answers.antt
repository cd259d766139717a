use Rattle.std.proofs.Common.{◌≡◌, arith}
use Rattle.std.specs.Prelude.{Some, None}
use Rattle.pi_constraints.specs.State.{bindings, followed}
use Rattle.pi_label.proofs.WordLemmas.{one-word, other-word}
use Rattle.pi_label.proofs.words.word_at.Goals as goal

pub returns-in-Some : goal.returns-in-Some
returns-in-Some g c = λ t a is.
    let v = g.S.StateStore.seen c.args.s.now in
    let one : c.in-Comp.count ≡ 1 = grind (arith, c.if-count-eq1.true) in
    one-word v (followed (bindings v.now.state) t) c.in-Comp.name c.in-Comp.count (Some c.in-Some.found) (c.in-Comp.ensures.shows t is a) one (λ f x named at. c.in-Some.ensures f x named (c.arg.ensures t x is a at))

pub returns-in-None : goal.returns-in-None
returns-in-None g c = λ t a is.
    let v = g.S.StateStore.seen c.args.s.now in
    let one : c.in-Comp.count ≡ 1 = grind (arith, c.if-count-eq1.true) in
    one-word v (followed (bindings v.now.state) t) c.in-Comp.name c.in-Comp.count None (c.in-Comp.ensures.shows t is a) one (λ f x named at. c.in-None.ensures f x named (c.arg.ensures t x is a at))

pub returns-else-count-eq1 : goal.returns-else-count-eq1
returns-else-count-eq1 g c = λ t a is.
    let v = g.S.StateStore.seen c.args.s.now in
    other-word v (followed (bindings v.now.state) t) c.in-Comp.name c.in-Comp.count (c.in-Comp.ensures.shows t is a) (λ h. grind (arith, h, c.if-count-eq1.false))
