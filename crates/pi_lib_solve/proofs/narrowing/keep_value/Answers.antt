use Rattle.std.proofs.Common.{◌≡◌, true, false, rules, sym, ap, ◌∙◌, to_z, of_z, w64}
use Rattle.std.proofs.lemmas.Int.{to_z-of_z}
use Rattle.pi_constraints.specs.Domain.{has_value}
use Rattle.pi_constraints.specs.Stored.{stored}
use Rattle.pi_lib_solve.proofs.NarrowLemmas.{leads-to, value-kept, value-lost}
use Rattle.pi_lib_solve.proofs.narrowing.keep_value.Goals as goal

pub returns-clause-left : goal.returns-clause-left
returns-clause-left g c = λ d is has.
    let v = g.S.StateStore.seen c.args.s.now in
    let w = g.S.StateStore.seen c.bind_to_integer.new.s in
    let n-is : to_z w64 (of_z w64 c.args.n) ≡ c.args.n = to_z-of_z w64 c.args.n c.ranges.n in
    let there : c.has.result ≡ true = search rules in
    value-kept v.now.state w.now.state c.args.variable d c.args.n _ is has (ap (has_value (stored v.now.state c.args.variable)) (sym n-is) ∙ (sym c.has.ensures.has ∙ there))
    (c.in_ok-bind_to_integer.ensures.ok c.args.variable is (leads-to v c.var_ref-at.result c.args.variable d has c.var_ref-at.ensures)) (sym n-is)

pub returns-then-not-has-clause-left : goal.returns-then-not-has-clause-left
returns-then-not-has-clause-left g c = λ d is has.
    let v = g.S.StateStore.seen c.args.s.now in
    let n-is : to_z w64 (of_z w64 c.args.n) ≡ c.args.n = to_z-of_z w64 c.args.n c.ranges.n in
    let none : c.has.result ≡ false = search rules in
    value-lost v.now.state c.args.variable d c.args.n is has (ap (has_value (stored v.now.state c.args.variable)) (sym n-is) ∙ (sym c.has.ensures.has ∙ none))
