use Rattle.std.proofs.Common.{arith, ◌≡◌, ◌∙◌, ℕ, ℤ, ap, sym, subst, length, FitsSigned, w64, to_z, of_z}
use Rattle.std.proofs.lemmas.Int.{to_z-of_z}
use Rattle.pi_prop_filters.specs.Fixed.{AreFixedPlaces}
use Rattle.pi_prop_filters.proofs.FixedLemmas.{no_places, place_passed, place_pushed, places_moved, sorted_ascend}
use Rattle.pi_prop_filters.proofs.different.fixed_places.Goals as goal
use Rattle.pi_prop_filters.proofs.different.fixed_places.Goals.{then-value-greatest+in_ok-push, else-value-greatest}

same64 : (x y : ℤ) → FitsSigned w64 x → FitsSigned w64 y → of_z w64 x ≡ of_z w64 y → x ≡ y
same64 x y f g h = sym (to_z-of_z w64 x f) ∙ (ap (to_z w64) h ∙ to_z-of_z w64 y g)

pub loop-k-init : goal.loop-k-init
loop-k-init g c = subst (AreFixedPlaces (g.P.Places.domains c.args.places.now) 0) (sym c.new-fixed.ensures.items) (no_places (g.P.Places.domains c.args.places.now))

pub loop-k-preserved : goal.loop-k-preserved
loop-k-preserved g c =
    let ds = g.P.Places.domains c.args.places.now in
    let f0 : FitsSigned w64 c.least-value.result = record { sfits = c.least-value.type_inv } in
    let f1 : FitsSigned w64 c.greatest.result = record { sfits = c.greatest.type_inv } in
    elim c.if-value-greatest.branch [
      | then-value-greatest+in_ok-push w ↦
          let back : to_z w64 (of_z w64 c.least-value.result) ≡ c.least-value.result = to_z-of_z w64 c.least-value.result f0 in
          let same = same64 c.least-value.result c.greatest.result f0 f1 w.if-value-greatest.true in
          rw (w.fixed-is, w.in_ok-push.ensures.items) (place_pushed ds c.loop-k.k (to_z w64 (of_z w64 c.least-value.result)) c.loop-k.fixed.items (sym c.least-value.ensures.is ∙ sym back, sym c.greatest.ensures.is ∙ (sym same ∙ sym back)) c.loop-k.invariant)
      | else-value-greatest w ↦
          rw w.fixed-is (place_passed ds c.loop-k.k c.loop-k.fixed.items (λ e. w.if-value-greatest.false (ap (of_z w64) (c.least-value.ensures.is ∙ (e ∙ sym c.greatest.ensures.is)))) c.loop-k.invariant)
    ]

pub returns-clause-fixed : goal.returns-clause-fixed
returns-clause-fixed g c =
    let ds = g.P.Places.domains c.args.places.now in
    let all : c.loop-k.k ≡ length ds = omega (arith, c.count-k-end.ensures, c.loop-k-test.false, c.loop-k.auto.k-end) in
    places_moved ds (length ds) c.loop-k.fixed.items c.sort_unstable.new.self.items c.sort_unstable.ensures.permutation (subst (λ (m : ℕ). AreFixedPlaces ds m c.loop-k.fixed.items) all c.loop-k.invariant)

pub returns-clause-ascend : goal.returns-clause-ascend
returns-clause-ascend g c = sorted_ascend c.sort_unstable.new.self.items c.sort_unstable.ensures.sorted
