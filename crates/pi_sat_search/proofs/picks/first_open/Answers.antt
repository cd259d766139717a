use Rattle.std.proofs.Common.{rules, ◌+◌, [], ℤ, sym, subst, ◌∙◌}
use Rattle.std.specs.Int.{w64}
use Rattle.std.proofs.lemmas.Bool.{both_ways}
use Rattle.std.proofs.lemmas.Int.{to_z-of_z}
use Rattle.pi_sat_search.specs.Nodes.{IsEarlier}
use Rattle.pi_sat_search.proofs.PickLemmas.{IsFirstOf, first-open, first-closed, first-end}
use Rattle.pi_sat_search.proofs.picks.first_open.Goals.{then-is_open, else-is_open}
use Rattle.pi_sat_search.proofs.picks.first_open.Goals as goal

pub loop-i-preserved : goal.loop-i-preserved
loop-i-preserved c =
    let xs = c.args.present.now in
    let i = c.loop-i.i in
    elim c.if-is_open.branch [
      | then-is_open w ↦
          subst (IsFirstOf xs (i + 1)) (sym w.first-is)
          (first-open xs i c.index-present-i.result c.loop-i.first w.earlier.result c.requires c.loop-i-test.true c.index-present-i.is c.is_open.ensures.domain (c.is_open.ensures.two.0 w.if-is_open.true)
          (subst (λ (n : ℤ). IsEarlier c.loop-i.first (record { var = c.index-present-i.result.var; least = n }) w.earlier.result) (to_z-of_z w64 w.least_of.result (search rules) ∙ w.least_of.ensures) w.earlier.ensures) c.loop-i.invariant)
      | else-is_open w ↦
          subst (IsFirstOf xs (i + 1)) (sym w.first-is)
          (first-closed xs i c.index-present-i.result c.loop-i.first c.loop-i-test.true c.index-present-i.is (λ o. both_ways c.is_open.result w.if-is_open.false (c.is_open.ensures.two.1 o)) c.loop-i.invariant)
    ]

pub returns : goal.returns
returns c = first-end c.args.present.now c.loop-i.i (record { var = 0; domain = [] }) c.loop-i.first c.loop-i-test.false c.loop-i.invariant
