use Rattle.std.proofs.Common.{◌≡◌, ◌==◌, true, false, arith, tests, rules}
use Rattle.pi_lib_constraints.proofs.SideLemmas.{shape-range, shape-steps, shape-named, shape-counted, shape-other}
use Rattle.pi_lib_constraints.proofs.shapes.shape_at.Goals as goal

pub returns-in_default : goal.returns-in_default
returns-in_default g c = λ t a is. shape-other (g.S.StateStore.seen c.args.s.now) t c.look.result a (c.look.ensures.shows t is a) c.in_default.not-Comp

pub returns-then-not-is_range : goal.returns-then-not-is_range
returns-then-not-is_range g c = λ t a is.
    let so : c.is_range.result ≡ false = search rules in
    shape-named (g.S.StateStore.seen c.args.s.now) c.args.term t c.in-Comp.name c.in-Comp.count c.is_range.result a is (c.in-Comp.ensures.shows t is a) c.is_range.ensures so

pub returns-then-count-eq2 : goal.returns-then-count-eq2
returns-then-count-eq2 g c = λ t a is.
    let so : c.is_range.result ≡ true = search rules in
    let two : c.in-Comp.count ≡ 2 = search (rules, arith) in
    shape-range (g.S.StateStore.seen c.args.s.now) c.args.term c.arg.result c.arg-then-count-eq2.result t c.in-Comp.name c.in-Comp.count c.is_range.result a is (c.in-Comp.ensures.shows t is a) c.is_range.ensures so two c.arg.ensures c.arg-then-count-eq2.ensures

pub returns-then-count-eq3 : goal.returns-then-count-eq3
returns-then-count-eq3 g c = λ t a is.
    let so : c.is_range.result ≡ true = search rules in
    let three : c.in-Comp.count ≡ 3 = search (rules, arith) in
    shape-steps (g.S.StateStore.seen c.args.s.now) c.args.term c.arg-then-count-eq3.result c.arg-then-count-eq3-2.result c.arg-then-count-eq3-3.result t c.in-Comp.name c.in-Comp.count c.is_range.result a is (c.in-Comp.ensures.shows t is a) c.is_range.ensures so three
    c.arg-then-count-eq3.ensures c.arg-then-count-eq3-2.ensures c.arg-then-count-eq3-3.ensures

pub returns : goal.returns
returns g c = λ t a is.
    let two : (c.in-Comp.count == 2) ≡ false = grind (arith, tests, c.if-count-eq2.false) in
    let three : (c.in-Comp.count == 3) ≡ false = grind (arith, tests, c.if-count-eq3.false) in
    shape-counted (g.S.StateStore.seen c.args.s.now) c.args.term t c.in-Comp.name c.in-Comp.count a is (c.in-Comp.ensures.shows t is a) two three
