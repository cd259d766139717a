use Rattle.std.proofs.Common.{ℤ, pos, nat_abs, ◌≡◌, ◌≢◌, ◌≤◌, ◌^◌, ◌∙◌, neg_ℤ, subst, sym, FitsSigned, to_z, of_z, arith}
use Rattle.std.specs.Int.{w128, int_div_euclid}
use Rattle.std.proofs.lemmas.Int.{to_z-of_z}
use Rattle.std.proofs.lemmas.Bool.{false≢true}
use Rattle.pi_prop_places.proofs.FitLemmas.{negative_back, negative_wrapped_fits}
use Rattle.pi_prop_places.proofs.RootLemmas.{cut_root, keep_root}
use Rattle.pi_prop_places.proofs.roots.remove_root.Goals as goal

pub returns-in_ok-remove : goal.returns-in_ok-remove
returns-in_ok-remove g c =
    let q : c.div_euclid-root.result ≡ int_div_euclid (neg_ℤ c.args.rest) c.args.coefficient =
    c.div_euclid-root.ensures ∙ (λ i. int_div_euclid (negative_back c.args.rest (omega (arith, c.requires.rest)) i) (to_z-of_z w128 c.args.coefficient c.ranges.coefficient i)) in
    let co : FitsSigned w128 c.args.coefficient = c.ranges.coefficient in
    let rest : FitsSigned w128 c.args.rest = c.ranges.rest in
    let root : FitsSigned w128 c.div_euclid-root.result = record { sfits = c.div_euclid-root.type_inv } in
    let h = simp to_z-of_z at c.is_root.ensures in
    cut_root (g.P.Places.domains c.args.places.now) _ c.args.k c.args.coefficient c.args.rest c.div_euclid-root.result (to_z w128 (of_z w128 c.div_euclid-root.result)) (to_z-of_z w128 c.div_euclid-root.result root) c.requires.coefficient q (h.0 c.if-is_root.true) c.in_ok-remove.ensures

pub returns-else-is_root : goal.returns-else-is_root
returns-else-is_root g c =
    let q : c.div_euclid-root.result ≡ int_div_euclid (neg_ℤ c.args.rest) c.args.coefficient =
    c.div_euclid-root.ensures ∙ (λ i. int_div_euclid (negative_back c.args.rest (omega (arith, c.requires.rest)) i) (to_z-of_z w128 c.args.coefficient c.ranges.coefficient i)) in
    let co : FitsSigned w128 c.args.coefficient = c.ranges.coefficient in
    let rest : FitsSigned w128 c.args.rest = c.ranges.rest in
    let root : FitsSigned w128 c.div_euclid-root.result = record { sfits = c.div_euclid-root.type_inv } in
    let h = simp to_z-of_z at c.is_root.ensures in
    keep_root (g.P.Places.domains c.args.places.now) c.args.k c.args.coefficient c.args.rest c.div_euclid-root.result c.requires.coefficient q (λ e. false≢true (sym c.if-is_root.false ∙ h.1 e))

pub overflow_sub-rest : goal.overflow_sub-rest
overflow_sub-rest g c = negative_wrapped_fits c.args.rest c.requires.rest

pub is_root-requires-clause-coefficient : goal.is_root-requires-clause-coefficient
is_root-requires-clause-coefficient g c = subst (λ (z : ℤ). z ≢ pos 0) (sym (to_z-of_z w128 c.args.coefficient c.ranges.coefficient)) c.requires.coefficient

pub is_root-requires-clause-narrow : goal.is_root-requires-clause-narrow
is_root-requires-clause-narrow g c = subst (λ (z : ℤ). nat_abs z ≤ 2 ^ 40) (sym (to_z-of_z w128 c.args.coefficient c.ranges.coefficient)) c.requires.narrow

pub is_root-requires-clause-rest : goal.is_root-requires-clause-rest
is_root-requires-clause-rest g c = subst (λ (z : ℤ). nat_abs z ≤ 2 ^ 120) (sym (to_z-of_z w128 c.args.rest c.ranges.rest)) c.requires.rest

pub is_root-requires-clause-root : goal.is_root-requires-clause-root
is_root-requires-clause-root g c =
    let q : c.div_euclid-root.result ≡ int_div_euclid (neg_ℤ c.args.rest) c.args.coefficient =
    c.div_euclid-root.ensures ∙ (λ i. int_div_euclid (negative_back c.args.rest (omega (arith, c.requires.rest)) i) (to_z-of_z w128 c.args.coefficient c.ranges.coefficient i)) in
    let root : FitsSigned w128 c.div_euclid-root.result = record { sfits = c.div_euclid-root.type_inv } in
    to_z-of_z w128 c.div_euclid-root.result root ∙ (q ∙ sym (λ i. int_div_euclid (neg_ℤ (to_z-of_z w128 c.args.rest c.ranges.rest i)) (to_z-of_z w128 c.args.coefficient c.ranges.coefficient i)))
