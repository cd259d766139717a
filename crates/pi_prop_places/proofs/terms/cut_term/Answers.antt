use Rattle.std.proofs.Common.{arith, ℤ, ◌≢◌, ◌*ℤ◌, pos, neg_ℤ, subst, sym}
use Rattle.std.specs.Int.{w128}
use Rattle.std.proofs.lemmas.Int.{to_z-of_z}
use Rattle.pi_prop_places.specs.Changes.{IsCutAt}
use Rattle.pi_prop_places.specs.Terms.{passes}
use Rattle.pi_prop_places.proofs.CutLemmas.{cut_then}
use Rattle.pi_prop_places.proofs.FitLemmas.{negative_back, negative_wrapped_fits, negative_not_zero}
use Rattle.pi_prop_places.proofs.terms.cut_term.Goals as goal

pub overflow_sub-coefficient : goal.overflow_sub-coefficient
overflow_sub-coefficient g c = negative_wrapped_fits c.args.coefficient (omega (arith, c.requires.small))

pub cut_by-requires-2-clause-coefficient : goal.cut_by-requires-2-clause-coefficient
cut_by-requires-2-clause-coefficient g c = subst (λ (z : ℤ). z ≢ pos 0) (sym (negative_back c.args.coefficient (omega (arith, c.requires.small)))) (negative_not_zero c.args.coefficient c.requires.coefficient)

pub returns : goal.returns
returns g c =
    let ds = g.P.Places.domains c.args.places.now in
    let es = g.P.Places.domains c.cut_by.new.places in
    let fs = g.P.Places.domains c.cut_by-2.new.places in
    let co = c.args.coefficient in
    cut_then ds es fs c.args.k (λ n. passes c.args.rests.above (co *ℤ n)) (λ n. passes c.args.rests.below (neg_ℤ co *ℤ n))
    (subst (λ (z : ℤ). IsCutAt c.args.k (λ n. passes c.args.rests.above (z *ℤ n)) ds es) (to_z-of_z w128 co c.ranges.coefficient) c.in_ok-cut_by.ensures)
    (subst (λ (z : ℤ). IsCutAt c.args.k (λ n. passes c.args.rests.below (z *ℤ n)) es fs) (negative_back co (omega (arith, c.requires.small))) c.in_ok-cut_by-2.ensures)
