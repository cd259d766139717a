use Rattle.std.proofs.Common.{ℤ, ◌≡◌, ◌≢◌, ◌≤◌, ◌^◌, ◌+ℤ◌, pos, nat_abs, ap, subst, sym, length, drop, FitsSigned, arith}
use Rattle.std.specs.Int.{w128}
use Rattle.std.proofs.lemmas.Int.{to_z-of_z, fits_signed_from_abs}
use Rattle.pi_prop_spec.specs.Sums.{coefficient_at, least_of_all}
use Rattle.pi_prop_places.specs.Roots.{ShowsOpen}
use Rattle.pi_prop_places.specs.declared.roots.Open.{Open}
use Rattle.pi_prop_places.proofs.FitLemmas.{unwrapped, plus_fits, plus_back_fits, plus_back_small}
use Rattle.pi_prop_places.proofs.RootLemmas.{every_root, one_root, no_root}
use Rattle.pi_prop_places.proofs.roots.remove_roots.Goals as goal

pub returns-in_ok-remove_each-in-Nowhere : goal.returns-in_ok-remove_each-in-Nowhere
returns-in_ok-remove_each-in-Nowhere g c =
    let ds = g.P.Places.domains c.args.places.now in
    let ts = c.args.terms.now in
    let m = c.args.constant in
    let least = c.extremes-all.result.least in
    let f0 : FitsSigned w128 m = c.ranges.constant in
    let f1 : FitsSigned w128 least = fits_signed_from_abs w128 least (omega (arith, c.extremes-all.ensures.small.0)) in
    let f2 : FitsSigned w128 (m +ℤ least) = plus_fits m least c.requires.constant c.extremes-all.ensures.small.0 in
    let sum : (m +ℤ least) ≡ (m +ℤ least_of_all ts (drop c.args.first ds)) = ap (λ (z : ℤ). m +ℤ z) c.extremes-all.ensures.least in
    let cut = simp to_z-of_z at c.in_ok-remove_each-in-Nowhere.ensures in (
      Open.Nowhere,
      subst (λ (spot : Open). ShowsOpen (drop c.args.first ds) (length ts) spot) c.in-Nowhere.is c.open_places.ensures,
      every_root c.args.first ts m (m +ℤ least) ds _ c.requires.count sum cut,
    )

pub returns-in_ok-remove_at-in-Once : goal.returns-in_ok-remove_at-in-Once
returns-in_ok-remove_at-in-Once g c =
    let ds = g.P.Places.domains c.args.places.now in
    let ts = c.args.terms.now in
    let m = c.args.constant in
    let i = c.in-Once.i in
    let least = c.extremes-all.result.least in
    let shows : ShowsOpen (drop c.args.first ds) (length ts) (Open.Once i) = subst (λ (spot : Open). ShowsOpen (drop c.args.first ds) (length ts) spot) c.in-Once.is c.open_places.ensures in
    let f0 : FitsSigned w128 m = c.ranges.constant in
    let f1 : FitsSigned w128 least = fits_signed_from_abs w128 least (omega (arith, c.extremes-all.ensures.small.0)) in
    let f2 : FitsSigned w128 (m +ℤ least) = plus_fits m least c.requires.constant c.extremes-all.ensures.small.0 in
    let f3 : FitsSigned w128 (coefficient_at ts i) = fits_signed_from_abs w128 (coefficient_at ts i) (omega (arith, (c.requires.coefficients i shows.0).1)) in
    let sum : (m +ℤ least) ≡ (m +ℤ least_of_all ts (drop c.args.first ds)) = ap (λ (z : ℤ). m +ℤ z) c.extremes-all.ensures.least in
    let cut = simp to_z-of_z at c.in_ok-remove_at-in-Once.ensures in
    (Open.Once i, shows, one_root c.args.first i ts m (m +ℤ least) ds _ c.requires.count shows.0 sum cut)

pub returns-in-Often : goal.returns-in-Often
returns-in-Often g c =
    let ds = g.P.Places.domains c.args.places.now in
    let ts = c.args.terms.now in
    (Open.Often, subst (λ (spot : Open). ShowsOpen (drop c.args.first ds) (length ts) spot) c.in-Often.is c.open_places.ensures, no_root c.args.first ts c.args.constant ds)

pub overflow_add-sum : goal.overflow_add-sum
overflow_add-sum g c = plus_back_fits c.args.constant c.extremes-all.result.least c.requires.constant c.extremes-all.ensures.small.0

pub remove_each-requires-clause-sum : goal.remove_each-requires-clause-sum
remove_each-requires-clause-sum g c = plus_back_small c.args.constant c.extremes-all.result.least c.requires.constant c.extremes-all.ensures.small.0

pub bounds-terms-i : goal.bounds-terms-i
bounds-terms-i g c =
    let shows = subst (λ (spot : Open). ShowsOpen (drop c.args.first (g.P.Places.domains c.args.places.now)) (length c.args.terms.now) spot) c.in-Once.is c.open_places.ensures in
    shows.0

pub remove_at-requires-clause-coefficient : goal.remove_at-requires-clause-coefficient
remove_at-requires-clause-coefficient g c =
    let shows = subst (λ (spot : Open). ShowsOpen (drop c.args.first (g.P.Places.domains c.args.places.now)) (length c.args.terms.now) spot) c.in-Once.is c.open_places.ensures in
    let co = c.requires.coefficients c.in-Once.i shows.0 in
    subst (λ (z : ℤ). z ≢ pos 0) (sym (unwrapped (coefficient_at c.args.terms.now c.in-Once.i) (omega (arith, co.1)))) co.0

pub remove_at-requires-clause-narrow : goal.remove_at-requires-clause-narrow
remove_at-requires-clause-narrow g c =
    let shows = subst (λ (spot : Open). ShowsOpen (drop c.args.first (g.P.Places.domains c.args.places.now)) (length c.args.terms.now) spot) c.in-Once.is c.open_places.ensures in
    let co = c.requires.coefficients c.in-Once.i shows.0 in
    subst (λ (z : ℤ). nat_abs z ≤ 2 ^ 40) (sym (unwrapped (coefficient_at c.args.terms.now c.in-Once.i) (omega (arith, co.1)))) co.1

pub remove_at-requires-clause-sum : goal.remove_at-requires-clause-sum
remove_at-requires-clause-sum g c = plus_back_small c.args.constant c.extremes-all.result.least c.requires.constant c.extremes-all.ensures.small.0
