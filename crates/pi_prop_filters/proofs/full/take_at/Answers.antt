use Rattle.std.proofs.Common.{arith, ◌-◌, ℤ, pos, FitsSigned, w64, get_or, sym, subst, not, ◌&&◌}
use Rattle.std.specs.Prelude.{int_le}
use Rattle.std.proofs.lemmas.Int.{to_z-of_z}
use Rattle.pi_constraints.specs.Domain.{IsWithinBounds}
use Rattle.pi_prop_places.proofs.KeepLemmas.{keep_cut, keep_none}
use Rattle.pi_prop_filters.specs.Intervals.{IsOutside}
use Rattle.pi_prop_filters.proofs.OutsideLemmas.{widest_has, has_all}
use Rattle.pi_prop_filters.proofs.TurnLemmas.{back64, fits64}
use Rattle.pi_prop_filters.proofs.full.take_at.Goals as goal

pub take_between-requires-clause-low : goal.take_between-requires-clause-low
take_between-requires-clause-low g c = subst IsWithinBounds (sym (back64 c.args.a c.requires.from)) c.requires.from

pub take_between-requires-clause-high : goal.take_between-requires-clause-high
take_between-requires-clause-high g c =
    let last = c.requires.full (c.count_outside-many.result - 1) (pos 0) (omega (arith, c.if-many-gt0.true, c.count_outside-many.ensures.many)) in
    subst IsWithinBounds (sym (back64 _ last)) last

pub returns-in_ok-take_between : goal.returns-in_ok-take_between
returns-in_ok-take_between g c =
    let full = c.args.full.now in
    let many = c.count_outside-many.result in
    let last : ℤ = get_or full (many - 1) (pos 0) in
    let bound : IsWithinBounds last = c.requires.full (many - 1) (pos 0) (omega (arith, c.if-many-gt0.true, c.count_outside-many.ensures.many)) in
    let f0 : FitsSigned w64 c.args.a = c.ranges.a in
    let f1 : FitsSigned w64 last = fits64 last bound in
    let cut = simp to_z-of_z at c.in_ok-take_between.ensures in
    let outside = simp to_z-of_z at c.count_outside-many.ensures.outside in
    let inside = simp to_z-of_z at c.count_outside-many.ensures.inside in
    keep_cut c.args.k (λ n. not (int_le c.args.a n && int_le n last)) (IsOutside c.args.a full c.args.ends) (g.P.Places.domains c.args.places.now) _
    (λ n h. widest_has c.args.a full c.args.ends many n c.requires.ascend c.if-many-gt0.true c.count_outside-many.ensures.many outside inside) cut

pub returns-else-many-gt0 : goal.returns-else-many-gt0
returns-else-many-gt0 g c =
    let f0 : FitsSigned w64 c.args.a = c.ranges.a in
    let inside = simp to_z-of_z at c.count_outside-many.ensures.inside in
    keep_none c.args.k (IsOutside c.args.a c.args.full.now c.args.ends) (g.P.Places.domains c.args.places.now)
    (λ n h. has_all c.args.a c.args.full.now c.args.ends n (λ i l. inside i (omega (arith, c.if-many-gt0.false)) l))
