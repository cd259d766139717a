use Rattle.std.proofs.Common.{arith, ◌<◌, ◌≤◌, length, sym, subst, ap, ◌∙◌, ◌+◌}
use Rattle.std.specs.Prelude.{option_map}
use Rattle.pi_constraints.specs.Domain.{size_of}
use Rattle.pi_label.specs.declared.picking.Smallest.{Smallest}
use Rattle.pi_label.proofs.PickLemmas.{IsSmallestTo, smallest-at_first, element, wide-here, closed-here, smallest-taken, smallest-passed, smallest-is}
use Rattle.pi_label.proofs.picking.smallest_open.Goals as goal
use Rattle.pi_label.proofs.picking.smallest_open.Goals.{then-is_open, else-is_open}

pub loop-i-init : goal.loop-i-init
loop-i-init c = smallest-at_first c.args.domains.now

pub loop-i-preserved : goal.loop-i-preserved
loop-i-preserved c =
    let ds = c.args.domains.now in
    let i = c.loop-i.i in
    let x = c.index-domains-i.result in
    let low : i < length ds = omega (arith, c.loop-i-test.true) in
    elim c.if-is_open.branch [
      | then-is_open w ↦ subst (λ o. IsSmallestTo ds o (i + 1)) (sym w.smallest-is)
          (smallest-taken ds c.loop-i.smallest i w.size.result w.smaller.result low (wide-here ds i x low c.index-domains-i.is (c.is_open.ensures.0 w.if-is_open.true))
          (w.size.ensures ∙ ap size_of (sym (element ds i w.index-domains-i-then-is_open.result low w.index-domains-i-then-is_open.is))) w.smaller.ensures c.loop-i.invariant)
      | else-is_open w ↦ subst (λ o. IsSmallestTo ds o (i + 1)) (sym w.smallest-is)
          (smallest-passed ds c.loop-i.smallest i low (closed-here ds i x c.is_open.result low c.index-domains-i.is c.is_open.ensures.1 w.if-is_open.false) c.loop-i.invariant)
    ]

pub returns-in-Some : goal.returns-in-Some
returns-in-Some c =
    let past : length c.args.domains.now ≤ c.loop-i.i = omega (arith, c.loop-i-test.false) in
    ap (option_map (λ (s : Smallest). s.place)) (sym c.in-Some.is) ∙ smallest-is c.args.domains.now c.loop-i.smallest c.loop-i.i past c.loop-i.invariant

pub returns-in-None : goal.returns-in-None
returns-in-None c =
    let past : length c.args.domains.now ≤ c.loop-i.i = omega (arith, c.loop-i-test.false) in
    ap (option_map (λ (s : Smallest). s.place)) (sym c.in-None.is) ∙ smallest-is c.args.domains.now c.loop-i.smallest c.loop-i.i past c.loop-i.invariant
