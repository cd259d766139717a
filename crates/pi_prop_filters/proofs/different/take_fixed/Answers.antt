use Rattle.std.proofs.Common.{rules, arith, ◌≡◌, ◌∙◌, ℤ, true, subst, FitsSigned, w64, to_z, of_z, ◌<ℤ◌}
use Rattle.std.specs.Prelude.{int_lt}
use Rattle.std.specs.Int.{w128}
use Rattle.std.proofs.lemmas.Int.{ints, to_z-of_z}
use Rattle.std.proofs.lemmas.List.Sorted.{IsPartitionPoint-from_clause}
use Rattle.pi_prop_spec.specs.Ends.{greatest_of}
use Rattle.pi_prop_spec.specs.Places.{domain_at}
use Rattle.pi_prop_filters.proofs.FixedLemmas.{fixed_at, left_start, left_taken, left_own, left_all, above_from, below_start, IsPartitionedBy-below}
use Rattle.pi_prop_filters.proofs.different.take_fixed.Goals as goal
use Rattle.pi_prop_filters.proofs.different.take_fixed.Goals.{then-j-k+in_ok-remove, else-j-k}

below : (x y : ℤ) → FitsSigned w64 x → FitsSigned w64 y → int_lt (to_z w64 (of_z w64 x)) (to_z w64 (of_z w64 y)) ≡ true → x <ℤ y
below x y f g h = grind (arith, ints, to_z-of_z)

pub loop-i-init : goal.loop-i-init
loop-i-init g c = left_start c.args.fixed.now c.partition_point-start.result c.args.k (g.P.Places.domains c.args.places.now)

pub returns-then-value-hi : goal.returns-then-value-hi
returns-then-value-hi g c =
    let ds = g.P.Places.domains c.args.places.now in
    let fixed = c.args.fixed.now in
    let i = c.loop-i.i in
    let inside = c.loop-i-test.true in
    let parted = IsPartitionedBy-below fixed c.least-lo.result c.requires.ascend in
    let point = IsPartitionPoint-from_clause (λ x. int_lt x.0 c.least-lo.result) _ _ c.partition_point-start.ensures.partitioned parted (λ a r q k. search (rules, ints)) in
    let over : c.greatest-hi.result <ℤ (fixed_at fixed i).0 = below _ _ (search rules) (search rules) c.if-value-hi.true in
    let top : greatest_of (domain_at ds c.args.k) <ℤ (fixed_at fixed i).0 = subst (λ (z : ℤ). z <ℤ (fixed_at fixed i).0) c.greatest-hi.ensures.is over in
    left_all fixed c.partition_point-start.result i c.args.k ds _ c.least-lo.ensures.spans
    (below_start fixed c.partition_point-start.result c.least-lo.result _ c.least-lo.ensures.is point)
    (above_from fixed i (greatest_of (domain_at ds c.args.k)) c.requires.ascend top) (omega (arith, inside)) c.loop-i.invariant

pub loop-i-preserved : goal.loop-i-preserved
loop-i-preserved g c =
    let ds = g.P.Places.domains c.args.places.now in
    let fixed = c.args.fixed.now in
    elim c.if-j-k.branch [
      | then-j-k+in_ok-remove w ↦ rw w.places-is (left_taken fixed c.partition_point-start.result c.loop-i.i c.args.k _ ds (g.P.Places.domains c.loop-i.places) _ c.loop-i.auto.i c.loop-i.invariant w.in_ok-remove.ensures
          (to_z-of_z w128 w.from.result (record { sfits = w.from.type_inv }) ∙ (w.from.ensures ∙ to_z-of_z w64 _ (search rules))) w.if-j-k.true)
      | else-j-k w ↦ rw w.places-is (left_own fixed c.partition_point-start.result c.loop-i.i c.args.k ds (g.P.Places.domains c.loop-i.places) w.if-j-k.false c.loop-i.invariant)
    ]

pub returns : goal.returns
returns g c =
    let ds = g.P.Places.domains c.args.places.now in
    let fixed = c.args.fixed.now in
    let parted = IsPartitionedBy-below fixed c.least-lo.result c.requires.ascend in
    let point = IsPartitionPoint-from_clause (λ x. int_lt x.0 c.least-lo.result) _ _ c.partition_point-start.ensures.partitioned parted (λ a r q k. search (rules, ints)) in
    left_all fixed c.partition_point-start.result c.loop-i.i c.args.k ds _ c.least-lo.ensures.spans
    (below_start fixed c.partition_point-start.result c.least-lo.result _ c.least-lo.ensures.is point)
    (λ t l m. let out = c.loop-i-test.false in absurd (omega (arith, out))) (omega (arith, c.loop-i.auto.i-end, c.partition_point-start.ensures.bound)) c.loop-i.invariant
