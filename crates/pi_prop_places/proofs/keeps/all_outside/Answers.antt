use Rattle.std.proofs.Common.{arith, ◌∙◌, ap, List}
use Rattle.std.proofs.lemmas.Int.{ints}
use Rattle.pi_constraints.specs.declared.domain.Span.{Span}
use Rattle.pi_constraints.specs.Domain.{has_value}
use Rattle.pi_prop_places.proofs.OneLemmas.{pushed_outside, outside_domain, outside_values}
use Rattle.pi_prop_places.proofs.keeps.all_outside.Goals as goal

pub new-requires : goal.new-requires
new-requires c =
    let l = c.requires.low in
    let o = c.requires.ordered in
    let h = c.requires.high in
    outside_domain c.args.lo c.args.hi c.push-2.new.self.items
    (pushed_outside c.args.lo c.args.hi _ c.push.new.self.items c.push-2.new.self.items _ _ c.new-spans.ensures.items c.in_ok-push.ensures.items c.in_ok-push-2.ensures.items l o h (omega (arith, ints)) (omega (arith, ints)) (omega (arith, ints)) (omega (arith, ints)))

pub returns : goal.returns
returns c =
    let l = c.requires.low in
    let o = c.requires.ordered in
    let h = c.requires.high in
    λ n w. ap (λ (d : List Span). has_value d n) c.new.ensures
    ∙ outside_values c.args.lo c.args.hi n c.push-2.new.self.items
    (pushed_outside c.args.lo c.args.hi _ c.push.new.self.items c.push-2.new.self.items _ _ c.new-spans.ensures.items c.in_ok-push.ensures.items c.in_ok-push-2.ensures.items l o h (omega (arith, ints)) (omega (arith, ints)) (omega (arith, ints)) (omega (arith, ints))) w
