-- From the last expression on.
use Rattle.std.proofs.Common.{◌≡◌, ◌+◌, ◌-◌, ◌<◌, ◌≤◌, length, arith, sym, ◌∙◌}
use Rattle.pi_rewrite_slots.specs.ReadAs.{reading_of, readings_of}
use Rattle.pi_rewrite_goals.proofs.PartLemmas.{ends-here, ends-first, flat-before, flat-end}
use Rattle.pi_rewrite_goals.proofs.values.calls_end.Goals as goal

pub loop-end-init : goal.loop-end-init
loop-end-init c = let past : length c.args.exps.now ≤ length c.args.exps.now = omega arith in (past, flat-end (readings_of c.args.readings) c.args.exps.now (length c.args.exps.now) past)

pub returns-then-not-is_flat : goal.returns-then-not-is_flat
returns-then-not-is_flat c =
    let within : c.loop-end.end ≤ length c.args.exps.now = c.loop-end.invariant.0 in
    let next : c.loop-end.end ≡ (c.loop-end.end - 1) + 1 = omega (arith, c.loop-end-test.true) in
    let less : c.loop-end.end - 1 < length c.args.exps.now = omega (arith, within, c.loop-end-test.true) in
    ends-here (readings_of c.args.readings) c.args.exps.now c.loop-end.end (c.loop-end.end - 1) (reading_of c.at.result) c.index-exps-end.result next less c.index-exps-end.is c.at.ensures (sym c.is_flat.ensures ∙ c.if-not-is_flat.true) c.loop-end.invariant.1

pub loop-end-preserved : goal.loop-end-preserved
loop-end-preserved c =
    let within : c.loop-end.end ≤ length c.args.exps.now = c.loop-end.invariant.0 in
    let next : c.loop-end.end ≡ (c.loop-end.end - 1) + 1 = omega (arith, c.loop-end-test.true) in
    let less : c.loop-end.end - 1 < length c.args.exps.now = omega (arith, within, c.loop-end-test.true) in
    let rest : c.loop-end.end - 1 ≤ length c.args.exps.now = omega (arith, less) in
    (rest, flat-before (readings_of c.args.readings) c.args.exps.now c.loop-end.end (c.loop-end.end - 1) (reading_of c.at.result) c.index-exps-end.result next less c.index-exps-end.is c.at.ensures (sym c.is_flat.ensures ∙ c.if-not-is_flat.false) c.loop-end.invariant.1)

pub returns : goal.returns
returns c = ends-first (readings_of c.args.readings) c.args.exps.now c.loop-end.end (omega (arith, c.loop-end-test.false)) c.loop-end.invariant.1
