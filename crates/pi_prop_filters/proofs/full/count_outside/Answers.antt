use Rattle.std.proofs.Common.{rules, arith, ◌≡◌, ◌≤ℤ◌, ◌<ℤ◌, ℤ, pos, true, false, get_or, FitsSigned, w64, to_z, of_z}
use Rattle.std.specs.Prelude.{int_lt}
use Rattle.std.proofs.lemmas.Int.{ints, to_z-of_z}
use Rattle.std.proofs.lemmas.List.Sorted.{IsPartitionPoint-from_clause}
use Rattle.pi_prop_filters.proofs.OutsideLemmas.{starts_before, ends_before, ends_within, IsPartitionedBy-before}
use Rattle.pi_prop_filters.proofs.full.count_outside.Goals as goal

lower : (x y : ℤ) → FitsSigned w64 x → FitsSigned w64 y → int_lt (to_z w64 (of_z w64 x)) (to_z w64 (of_z w64 y)) ≡ true → x <ℤ y
lower x y f g h = grind (arith, ints, to_z-of_z)

not_lower : (x y : ℤ) → FitsSigned w64 x → FitsSigned w64 y → int_lt (to_z w64 (of_z w64 x)) (to_z w64 (of_z w64 y)) ≡ false → y ≤ℤ x
not_lower x y f g h = grind (arith, ints, to_z-of_z)

pub returns-then-least-a-clause-outside : goal.returns-then-least-a-clause-outside
returns-then-least-a-clause-outside c = λ i l. starts_before c.args.a (get_or c.args.full.now i (pos 0)) c.args.ends (lower _ _ (search rules) c.ranges.a c.if-least-a.true)

pub returns-then-least-a-clause-inside : goal.returns-then-least-a-clause-inside
returns-then-least-a-clause-inside c = λ i l m. absurd (omega arith)

pub returns-clause-outside : goal.returns-clause-outside
returns-clause-outside c =
    let parted = IsPartitionedBy-before c.args.full.now c.args.ends.0 c.requires.ascend in
    let point = IsPartitionPoint-from_clause (λ x. int_lt x c.args.ends.0) _ _ c.partition_point.ensures.partitioned parted (λ a r q k. search (rules, ints)) in
    λ i l. ends_before c.args.a (get_or c.args.full.now i (pos 0)) c.args.ends (let t = point.0 i (pos 0) (omega (arith, c.partition_point.ensures.bound)) l in grind (arith, ints))

pub returns-clause-inside : goal.returns-clause-inside
returns-clause-inside c =
    let parted = IsPartitionedBy-before c.args.full.now c.args.ends.0 c.requires.ascend in
    let point = IsPartitionPoint-from_clause (λ x. int_lt x c.args.ends.0) _ _ c.partition_point.ensures.partitioned parted (λ a r q k. search (rules, ints)) in
    λ i l m. ends_within c.args.a (get_or c.args.full.now i (pos 0)) c.args.ends (not_lower _ _ (search rules) c.ranges.a c.if-least-a.false) (let t = point.1 i (pos 0) l m in grind (arith, ints))
