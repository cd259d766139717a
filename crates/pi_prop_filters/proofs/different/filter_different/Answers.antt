use Rattle.std.proofs.Common.{arith, List, ℕ, ℤ, sym, subst}
use Rattle.pi_prop_spec.specs.Rules.{DifferentKeeps}
use Rattle.pi_prop_places.specs.Changes.{IsKeptAt}
use Rattle.pi_prop_places.proofs.KeepLemmas.{kept_none, kept_more, kept_all, filtered_like}
use Rattle.pi_prop_filters.specs.Fixed.{AscendByValue}
use Rattle.pi_prop_filters.proofs.FixedLemmas.{LeftByAll, different_keeps}
use Rattle.pi_prop_filters.proofs.different.filter_different.Goals as goal

pub loop-k-init : goal.loop-k-init
loop-k-init g c = kept_none _ (g.P.Places.domains c.args.places.now)

pub take_fixed-requires : goal.take_fixed-requires
take_fixed-requires g c = record { ascend = subst AscendByValue (sym c.as_slice.ensures.value) c.in_ok-fixed.ensures.ascend }

pub loop-k-preserved : goal.loop-k-preserved
loop-k-preserved g c =
    kept_more c.loop-k.k (LeftByAll c.in_ok-fixed.fixed.items) (g.P.Places.domains c.args.places.now) (g.P.Places.domains c.loop-k.places) _ c.loop-k.invariant
    (subst (λ (x : List (ℤ × ℕ)). IsKeptAt c.loop-k.k (LeftByAll x c.loop-k.k) (g.P.Places.domains c.loop-k.places) (g.P.Places.domains c.take_fixed.new.places)) c.as_slice.ensures.value c.in_ok-take_fixed.ensures)

pub returns : goal.returns
returns g c =
    let ds = g.P.Places.domains c.args.places.now in
    filtered_like (LeftByAll c.in_ok-fixed.fixed.items) (DifferentKeeps ds) ds (g.P.Places.domains c.loop-k.places) (λ k n l h. different_keeps ds c.in_ok-fixed.fixed.items k n c.in_ok-fixed.ensures.fixed)
    (kept_all c.loop-k.k (LeftByAll c.in_ok-fixed.fixed.items) ds (g.P.Places.domains c.loop-k.places) (omega (arith, c.count-k-end.ensures, c.loop-k-test.false)) c.loop-k.invariant)
