use Rattle.std.proofs.Common.{◌≡◌, ◌≤◌, ◌-◌, ◌++◌, min, take, length, arith}
use Rattle.std.proofs.lemmas.Grind.{common_steps}
use Rattle.pi_outside.proofs.Memory.{after_piece-kept, HasTaken-after_piece}
use Rattle.pi_outside.proofs.sure_sink.SureSinkSink.write.Goals as goal

pub returns-clause-after : goal.returns-clause-after
returns-clause-after c =
    let sink = c.self.inside in
    let piece = c.args.bytes.now in
    let within : length sink.kept.items ≤ sink.room = omega (arith, c.self.invariant.within) in
    let fits : c.min-fitting.result ≡ min (length piece) (sink.room - length sink.kept.items) = grind arith in
    let kept : c.extend_from_slice.new.self.items ≡ sink.kept.items ++ take c.min-fitting.result piece = grind (arith, common_steps) in
    rw (← c.self.view_is) (after_piece-kept sink.kept.items piece sink.room c.min-fitting.result sink.is_over c.extend_from_slice.new.self.items within fits kept)

pub returns-clause-law : goal.returns-clause-law
returns-clause-law c = λ all has. rw (returns-clause-after c) (HasTaken-after_piece all c.args.bytes.now c.args.self.now has)
