use Rattle.std.proofs.Common.{arith, ◌≡◌, ◌+◌, suc, ℕ, ℤ, ap, sym, ◌∙◌, of_z, to_z, w64, FitsSigned}
use Rattle.std.proofs.lemmas.Int.{ints, to_z-of_z}
use Rattle.pi_prop_spec.specs.Places.{domain_at}
use Rattle.pi_prop_filters.specs.Choices.{ItemKeeps}
use Rattle.pi_prop_filters.proofs.ElementLemmas.{filtered_none, item_filtered}
use Rattle.pi_prop_filters.proofs.element.keep_item.Goals as goal

same64 : (x y : ℤ) → FitsSigned w64 x → FitsSigned w64 y → of_z w64 x ≡ of_z w64 y → x ≡ y
same64 x y f g h = sym (to_z-of_z w64 x f) ∙ (ap (to_z w64) h ∙ to_z-of_z w64 y g)

pub returns-then-number-greatest : goal.returns-then-number-greatest
returns-then-number-greatest g c =
    let ds = g.P.Places.domains c.args.places.now in
    filtered_none (ItemKeeps c.args.count ds) ds (λ k n a b q. absurd (c.if-number-greatest.true (ap (of_z w64) (c.least-number.ensures.is ∙ ((q.0 ∙ sym q.1) ∙ sym c.greatest.ensures.is)))))

pub returns-then-number-lt1 : goal.returns-then-number-lt1
returns-then-number-lt1 g c =
    let ds = g.P.Places.domains c.args.places.now in
    let is = c.least-number.ensures.is in
    let test = c.if-number-lt1.true in
    filtered_none (ItemKeeps c.args.count ds) ds (λ k n a b q. let e = q.0 in absurd (omega (arith, ints)))

pub returns-then-item-count : goal.returns-then-item-count
returns-then-item-count g c =
    let ds = g.P.Places.domains c.args.places.now in
    let is = c.least-number.ensures.is in
    let low = c.if-number-lt1.false in
    let test = c.if-item-count.true in
    filtered_none (ItemKeeps c.args.count ds) ds (λ k n a b q. let e = q.0 in absurd (omega (arith, ints)))

pub returns : goal.returns
returns g c =
    let is = c.least-number.ensures.is in
    let low = c.if-number-lt1.false in
    let few = c.if-item-count.false in
    let f0 : FitsSigned w64 c.least-number.result = record { sfits = c.least-number.type_inv } in
    let f1 : FitsSigned w64 c.greatest.result = record { sfits = c.greatest.type_inv } in
    let same = same64 c.least-number.result c.greatest.result f0 f1 c.if-number-greatest.false in
    let back = to_z-of_z w64 c.least-number.result f0 in
    let greatest = c.greatest.ensures.is in
    let ds = g.P.Places.domains c.args.places.now in
    let at_end : c.args.count + 1 ≡ suc c.args.count = omega arith in
    item_filtered c.args.count _ ds _ _ c.in_ok-keep.ensures (c.in_ok-value.ensures ∙ ap (λ (k : ℕ). domain_at ds k) at_end) (omega (arith, ints), omega (arith, ints)) (omega (arith, ints)) (omega (arith, ints))
