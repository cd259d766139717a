use Rattle.std.proofs.Common.{◌∙◌, ◌*ℤ◌, ◌-ℤ◌, pos, neg_ℤ, ap, sym, subst, FitsSigned}
use Rattle.std.specs.Int.{w128}
use Rattle.std.proofs.lemmas.Int.{to_z-of_z}
use Rattle.pi_prop_places.proofs.FitLemmas.{zero_minus, negative_fits}
use Rattle.pi_prop_places.proofs.RootLemmas.{same_bits, root_fits}
use Rattle.pi_prop_places.proofs.roots.is_root.Goals as goal

pub overflow_mul-result : goal.overflow_mul-result
overflow_mul-result c =
    let fits : FitsSigned w128 (c.args.coefficient *ℤ c.args.root) = root_fits c.args.coefficient c.args.rest c.args.root c.requires.coefficient c.requires.narrow c.requires.rest c.requires.root in
    subst (FitsSigned w128) (sym (λ i. to_z-of_z w128 c.args.coefficient c.ranges.coefficient i *ℤ to_z-of_z w128 c.args.root c.ranges.root i)) fits

pub returns : goal.returns
returns c =
    let fits : FitsSigned w128 (c.args.coefficient *ℤ c.args.root) = root_fits c.args.coefficient c.args.rest c.args.root c.requires.coefficient c.requires.narrow c.requires.rest c.requires.root in
    same_bits (c.args.coefficient *ℤ c.args.root) (neg_ℤ c.args.rest) _ _ (λ i. to_z-of_z w128 c.args.coefficient c.ranges.coefficient i *ℤ to_z-of_z w128 c.args.root c.ranges.root i)
    (ap (λ x. pos 0 -ℤ x) (to_z-of_z w128 c.args.rest c.ranges.rest) ∙ zero_minus c.args.rest) fits (negative_fits c.args.rest c.requires.rest)
