use Rattle.std.proofs.Common.{◌≡◌, ℕ, ◌<◌, subst, refl, to_z, of_z}
use Rattle.std.specs.Int.{w128}
use Rattle.std.proofs.lemmas.Int.{to_z-of_z}
use Rattle.pi_constraints.specs.Store.{IsTerm}
use Rattle.pi_effects.specs.Exception.{range_too_long}
use Rattle.pi_effects.specs.Ranges.{most_items, count_by}
use Rattle.pi_lib.proofs.RangeLemmas.{number_of, counted_too_long}
use Rattle.pi_lib.proofs.StoreLemmas.{stays_none}
use Rattle.pi_lib.proofs.StopLemmas.{memory_shown, of_three_bits}
use Rattle.pi_lib.proofs.ranges.put_count.Goals as goal

pub returns-in_err-put_int-in-Some-clause-stays : goal.returns-in_err-put_int-in-Some-clause-stays
returns-in_err-put_int-in-Some-clause-stays g c = c.in_err-put_int-in-Some.ensures.err

pub returns-in_err-put_int-in-Some-clause-shows : goal.returns-in_err-put_int-in-Some-clause-shows
returns-in_err-put_int-in-Some-clause-shows g c = memory_shown (IsTerm (g.S.StateStore.seen c.put_int.new.self)) (g.S.StateStore.seen c.args.s.now) c.from_residual.result _ c.from_residual.ensures.1

pub returns-in_ok-put_int-in-Some-clause-stays : goal.returns-in_ok-put_int-in-Some-clause-stays
returns-in_ok-put_int-in-Some-clause-stays g c = c.in_ok-put_int-in-Some.ensures.ok.changes

pub returns-in-None-clause-stays : goal.returns-in-None-clause-stays
returns-in-None-clause-stays g c = stays_none (g.S.StateStore.seen c.args.s.now)

pub returns-in-None-clause-shows : goal.returns-in-None-clause-shows
returns-in-None-clause-shows g c =
    let low = c.args.low in
    let step = c.args.step in
    let high = c.args.high in
    let many : count_by (to_z w128 (of_z w128 low)) (to_z w128 (of_z w128 step)) (to_z w128 (of_z w128 high)) ≡ count_by low step high =
    of_three_bits count_by low step high (to_z-of_z w128 low c.ranges.low) (to_z-of_z w128 step c.ranges.step) (to_z-of_z w128 high c.ranges.high) in
    (range_too_long, counted_too_long number_of low step high (subst (λ (k : ℕ). most_items < k) many c.in-None.ensures), refl)
