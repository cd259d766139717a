use Rattle.std.proofs.Common.{arith, ◌≡◌, List, ap, sym, ◌∙◌, subst, refl, to_z, of_z}
use Rattle.std.specs.Int.{w128}
use Rattle.std.proofs.lemmas.Int.{ints}
use Rattle.pi_constraints.specs.declared.domain.Span.{Span}
use Rattle.pi_constraints.specs.Domain.{IsDomain, has_value}
use Rattle.pi_constraints.proofs.ClipLemmas.{first_clip, IsDomain-clip, has_value-clip}
use Rattle.pi_constraints.proofs.make.clipped.Goals as goal

pub new-requires : goal.new-requires
new-requires c =
    let made = first_clip c.new-spans.result.items c.push_clipped.new.spans.items _ _ _ _ c.new-spans.ensures.items refl refl c.in_ok-push_clipped.ensures.ok in
    subst IsDomain (sym made) (IsDomain-clip _)

pub returns-clause-values : goal.returns-clause-values
returns-clause-values c n h =
    let lo : to_z w128 (of_z w128 c.args.lo) ≡ c.args.lo = omega (arith, ints) in
    let hi : to_z w128 (of_z w128 c.args.hi) ≡ c.args.hi = omega (arith, ints) in
    let made = first_clip c.new-spans.result.items c.push_clipped.new.spans.items c.args.lo c.args.hi _ _ c.new-spans.ensures.items lo hi c.in_ok-push_clipped.ensures.ok in
    ap (λ (d : List Span). has_value d n) (c.new.ensures ∙ made) ∙ has_value-clip (record { lo = c.args.lo; hi = c.args.hi }) n h
