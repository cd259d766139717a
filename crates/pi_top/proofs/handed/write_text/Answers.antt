use Rattle.std.proofs.Common.{◌≡◌, ◌<◌, ◌-◌, ℕ, List, arith, take, drop, length, refl}
use Rattle.std.proofs.lemmas.Grind.{common_steps}
use Rattle.std.proofs.lemmas.Result.{err_from_is_err_and}
use Rattle.pi_outside.proofs.WriteRuns.{ByWrites-none}
use Rattle.pi_top.proofs.HandedTexts.{GoesOn, goes-on-start}
use Rattle.pi_top.proofs.TextWrites.{write-more, write-fails, write-ends}
use Rattle.pi_top.proofs.handed.write_text.Goals as goal

whole : (at : ℕ) (bytes : List ℕ) → take (length bytes - at) (drop at bytes) ≡ drop at bytes
whole at bytes = grind (arith, common_steps)

pub loop-at-init : goal.loop-at-init
loop-at-init g c =
    let text = c.as_bytes-bytes.result.now in
    record {
      within = omega arith;
      goes_on = ByWrites-none g.O.Sink.wrote g.O.Sink.taken c.args.out.now (GoesOn text text) (goes-on-start text);
      no_fault = refl;
    }

pub loop-at-preserved : goal.loop-at-preserved
loop-at-preserved g c =
    let l = c.loop-at in
    let text = c.as_bytes-bytes.result.now in
    let wrote = c.in_ok-at.ensures in
    let left : 0 < length (drop l.at text) = grind (arith, common_steps) in
    record {
      within = grind (arith, common_steps);
      goes_on = write-more g.O.Sink.wrote g.O.Sink.taken c.args.out.now l.out c.write.new.self text l.at c.in_ok-at.field-0 (rw (whole l.at text) at wrote.moves left)
          (rw (whole l.at text) at wrote.fits) l.invariant.goes_on (rw (whole l.at text) at wrote.did) (rw (whole l.at text) at wrote.takes);
      no_fault = grind (arith, common_steps);
    }

pub returns-in_err-at-clause-hands : goal.returns-in_err-at-clause-hands
returns-in_err-at-clause-hands g c =
    let l = c.loop-at in
    let text = c.as_bytes-bytes.result.now in
    let p = err_from_is_err_and c.from_residual.result c.from_residual.ensures.1 in
    rw (p.1, ← c.as_bytes-bytes.ensures.value)
    (write-fails g.O.Sink.wrote g.O.Sink.taken c.args.out.now l.out c.write.new.self text l.at (grind (arith, common_steps)) l.invariant.goes_on
    (rw (whole l.at text) at c.in_err-at.ensures.did) c.in_err-at.ensures.takes_nothing)

pub returns-clause-hands : goal.returns-clause-hands
returns-clause-hands g c =
    let l = c.loop-at in
    rw (← c.as_bytes-bytes.ensures.value) (write-ends c.as_bytes-bytes.result.now l.at (omega arith) l.invariant.goes_on)
