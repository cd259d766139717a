use Rattle.std.proofs.Common.{◌≤◌, length}
use Rattle.pi_region.proofs.ChangeLemmas.{pushed_advances}
use Rattle.pi_region.proofs.trailed.Trailed.push.Goals as goal

pub returns-in-Ok-clause-advances : goal.returns-in-Ok-clause-advances
returns-in-Ok-clause-advances c =
    let sound : c.args.self.now.trail ≤ length c.args.self.now.region = rw (← c.self.view_is) c.self.invariant in
    rw (c.in-Ok.ensures.ok, c.in_ok-add.ensures.ok, c.entry-entry.ensures) (pushed_advances c.args.self.now c.args.table c.args.word sound)
