use Rattle.std.proofs.Common.{◌≡◌, [], refl, sym, subst, ◌∙◌}
use Rattle.pi_unify.specs.Comparison.{cell_arity, Takes, TakesPair}
use Rattle.pi_unify.specs.declared.ahead.RefPair.{RefPair}
use Rattle.pi_unify.proofs.TermValues.{term_given}
use Rattle.pi_unify.proofs.ComparisonLemmas.{Goes, Roots, Pushed, started, looked, looked_equal, decided, goes_on, ends_equal, order_of_terms}
use Rattle.pi_unify.proofs.order.compare.Goals as goal

pub loop-init : goal.loop-init
loop-init g c = λ pair a. started (g.S.StateStore.seen c.args.s.now) c.new-rests.result.items _ c.new-rests.ensures.items pair

pub returns-then-is_ne : goal.returns-then-is_ne
returns-then-is_ne g c = λ t u left right a.
    let v = g.S.StateStore.seen c.args.s.now in
    let whole : RefPair = record { left = c.args.a; right = c.args.b } in
    let fs = c.loop.rests.items in
    let p = c.loop.pair in
    let o = c.order_at_root-order.result in
    let count = cell_arity c.look-cell.result in
    let goes : Goes v fs p whole = c.loop.invariant (term_given v c.args.a t left, term_given v c.args.b u right) a in
    let at : Roots v p o count = looked v fs p whole c.look-cell.result c.look.result o count a goes c.look-cell.ensures.shows c.look.ensures.shows c.order_at_root-order.ensures refl in
    decided v fs p whole o count goes at (sym c.is_ne.ensures ∙ c.if-is_ne.true) ∙ order_of_terms v whole t u left right

pub loop-preserved : goal.loop-preserved
loop-preserved g c = λ pair a.
    let v = g.S.StateStore.seen c.args.s.now in
    let whole : RefPair = record { left = c.args.a; right = c.args.b } in
    let fs = c.loop.rests.items in
    let p = c.loop.pair in
    let middle = c.leave_all.new.rests.items in
    let new = c.next_pair.new.rests.items in
    let goes : Goes v fs p whole = c.loop.invariant pair a in
    let done : Pushed v fs middle p =
    looked_equal v fs middle p whole c.look-cell.result c.look.result c.order_at_root-order.result c.argument_count.result a goes c.look-cell.ensures.shows c.look.ensures.shows c.order_at_root-order.ensures c.argument_count.ensures (sym c.is_ne.ensures ∙ c.if-is_ne.false) c.in_ok-leave_all.ensures in
    let taken : Takes v middle new c.in-Some.next = subst (TakesPair v middle new) c.in-Some.is (c.in_ok-next.ensures.values a done.rests) in
    goes_on v fs middle new p c.in-Some.next whole goes done taken

pub returns-in-None : goal.returns-in-None
returns-in-None g c = λ t u left right a.
    let v = g.S.StateStore.seen c.args.s.now in
    let whole : RefPair = record { left = c.args.a; right = c.args.b } in
    let fs = c.loop.rests.items in
    let p = c.loop.pair in
    let middle = c.leave_all.new.rests.items in
    let new = c.next_pair.new.rests.items in
    let goes : Goes v fs p whole = c.loop.invariant (term_given v c.args.a t left, term_given v c.args.b u right) a in
    let done : Pushed v fs middle p =
    looked_equal v fs middle p whole c.look-cell.result c.look.result c.order_at_root-order.result c.argument_count.result a goes c.look-cell.ensures.shows c.look.ensures.shows c.order_at_root-order.ensures c.argument_count.ensures (sym c.is_ne.ensures ∙ c.if-is_ne.false) c.in_ok-leave_all.ensures in
    let none : middle ≡ [] = subst (TakesPair v middle new) c.in-None.is (c.in_ok-next.ensures.values a done.rests) in
    ends_equal v fs middle p whole goes done none ∙ order_of_terms v whole t u left right
