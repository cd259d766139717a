use Rattle.std.proofs.Common.{◌≡◌, ◌+◌, ◌-◌, ◌<◌, ◌≤◌, arith}
use Rattle.pi_prog.proofs.reading.VariableLemmas.{holds_before, too_many}
use Rattle.pi_prog.proofs.reading.variables.has_too_many_names.Goals as goal

pub returns-then-len-gt-MAX_NAMES : goal.returns-then-len-gt-MAX_NAMES
returns-then-len-gt-MAX_NAMES c =
    let place : c.names.at ≡ (c.names.at - 1) + 1 = omega arith in
    let ordered : c.args.from ≤ c.names.at - 1 = omega arith in
    let short : c.names.at - 1 < c.args.to = omega (arith, c.names.invariant.within) in
    let within : c.names.at - 1 ≤ c.args.to = omega arith in
    too_many _ _ _ _ _ _ ordered within c.len.ensures.len c.if-len-gt-MAX_NAMES.true (holds_before _ _ _ _ _ _ place short c.kind-token.ensures.token (c.in_ok-add_name.ensures _ c.names.invariant.holds))

pub names-preserved : goal.names-preserved
names-preserved c =
    let place : c.names.at ≡ (c.names.at - 1) + 1 = omega arith in
    let short : c.names.at - 1 < c.args.to = omega (arith, c.names.invariant.within) in
    record {
      holds = holds_before _ _ _ _ _ _ place short c.kind-token.ensures.token (c.in_ok-add_name.ensures _ c.names.invariant.holds);
      few = omega (arith, c.len.ensures.len, c.if-len-gt-MAX_NAMES.false);
      ordered = omega arith;
      within = omega arith;
    }
