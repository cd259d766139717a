use Rattle.std.proofs.Common.{arith, ◌<◌, ◌≤◌, length, sym, subst, ◌+◌}
use Rattle.std.specs.Prelude.{option_map}
use Rattle.pi_settling.specs.Options.{backward}
use Rattle.pi_label.proofs.PickLemmas.{IsPickedFrom, open_at, picked-at_first, wide-here, closed-here, last-taken, passed, last-is}
use Rattle.pi_label.proofs.picking.last_open.Goals as goal
use Rattle.pi_label.proofs.picking.last_open.Goals.{then-is_open, else-is_open}

pub loop-i-init : goal.loop-i-init
loop-i-init c = picked-at_first backward c.args.domains.now

pub loop-i-preserved : goal.loop-i-preserved
loop-i-preserved c =
    let ds = c.args.domains.now in
    let i = c.loop-i.i in
    let x = c.index-domains-i.result in
    let low : i < length ds = omega (arith, c.loop-i-test.true) in
    elim c.if-is_open.branch [
      | then-is_open w ↦ subst (λ o. IsPickedFrom backward ds (option_map (open_at ds) o) (i + 1)) (sym w.last-is)
          (last-taken ds c.loop-i.last i low (wide-here ds i x low c.index-domains-i.is (c.is_open.ensures.0 w.if-is_open.true)) c.loop-i.invariant)
      | else-is_open w ↦ subst (λ o. IsPickedFrom backward ds (option_map (open_at ds) o) (i + 1)) (sym w.last-is)
          (passed backward ds (option_map (open_at ds) c.loop-i.last) i low (closed-here ds i x c.is_open.result low c.index-domains-i.is c.is_open.ensures.1 w.if-is_open.false) c.loop-i.invariant)
    ]

pub returns : goal.returns
returns c =
    let past : length c.args.domains.now ≤ c.loop-i.i = omega (arith, c.loop-i-test.false) in
    last-is c.args.domains.now c.loop-i.last c.loop-i.i past c.loop-i.invariant
