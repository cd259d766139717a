use Rattle.std.proofs.Common.{arith, pos, ◌≡◌, ◌↔◌, ℤ, ◌≤ℤ◌, IsTrue, true, false, subst, to_z, of_z}
use Rattle.std.specs.Prelude.{int_lt}
use Rattle.std.specs.Int.{w128}
use Rattle.std.specs.List.Sorted.{IsPartitionPoint}
use Rattle.std.proofs.lemmas.Int.{ints}
use Rattle.pi_constraints.specs.declared.domain.Span.{Span}
use Rattle.pi_prop_places.proofs.AskLemmas.{between_nowhere}
use Rattle.pi_queue.proofs.AskedLemmas.{between-by}
use Rattle.pi_queue.proofs.asks.has_value_between.Goals as goal

abbrev blank : Span
blank = record { lo = pos 0; hi = pos 0 }

pub returns-then-len-at : goal.returns-then-len-at
returns-then-len-at g c =
    let lo-is : to_z w128 (of_z w128 c.args.lo) ≡ c.args.lo = omega (arith, ints) in
    let point = subst (λ (n : ℤ). IsPartitionPoint (λ (s : Span). int_lt s.hi n ≡ true) (λ (s : Span). int_lt s.hi n ≡ false) c.args.held.now c.count_below-at.result) lo-is c.count_below-at.ensures in
    (λ t. absurd (cc), λ h. absurd (between_nowhere c.args.held.now c.count_below-at.result c.args.lo c.args.hi blank point (omega (arith, c.if-len-at.true, c.len.ensures.count)) h))

pub returns : goal.returns
returns g c =
    let lo-is : to_z w128 (of_z w128 c.args.lo) ≡ c.args.lo = omega (arith, ints) in
    let hi-is : to_z w128 (of_z w128 c.args.hi) ≡ c.args.hi = omega (arith, ints) in
    let point = subst (λ (n : ℤ). IsPartitionPoint (λ (s : Span). int_lt s.hi n ≡ true) (λ (s : Span). int_lt s.hi n ≡ false) c.args.held.now c.count_below-at.result) lo-is c.count_below-at.ensures in
    let begins = subst (λ (n : ℤ). IsTrue c.begins_up_to.result ↔ (c.span.result.lo ≤ℤ n)) hi-is c.begins_up_to.ensures in
    between-by c.args.held.now c.count_below-at.result c.args.lo c.args.hi c.span.result c.begins_up_to.result c.len.ensures.domain point (omega (arith, c.if-len-at.false, c.len.ensures.count)) (omega (arith, ints, c.if-hi-lo.false)) (c.span.ensures (omega (arith, c.if-len-at.false, c.len.ensures.count))) begins
