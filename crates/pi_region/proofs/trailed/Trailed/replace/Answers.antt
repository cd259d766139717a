use Rattle.std.proofs.Common.{◌≡◌, ◌≤◌, length, sym, subst}
use Rattle.pi_region.specs.Image.{replaced}
use Rattle.pi_region.specs.Back.{Advances}
use Rattle.pi_region.proofs.ChangeLemmas.{replaced_advances, replaced_is}
use Rattle.pi_region.proofs.trailed.Trailed.replace.Goals as goal

pub returns-clause-advances : goal.returns-clause-advances
returns-clause-advances c =
    let sound : c.args.self.now.trail ≤ length c.args.self.now.region = rw (← c.self.view_is) c.self.invariant in
    let is : c.put.new.self ≡ replaced c.args.self.now c.args.table c.args.place c.args.word =
    replaced_is c.args.self.now c.log_replacing.new.self c.put.new.self c.args.table c.args.place c.args.word c.get-old.result
    c.get-old.ensures c.in_ok-log_replacing.ensures.ok c.put.ensures in
    subst (Advances c.args.self.now) (sym is) (replaced_advances c.args.self.now c.args.table c.args.place c.args.word sound)
