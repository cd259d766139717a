use Rattle.std.proofs.Common.{◌<◌, ◌≤◌, ◌-◌, ◌∙◌, length, ap, sym, arith}
use Rattle.pi_region.specs.Image.{Image}
use Rattle.pi_region.specs.Back.{cut}
use Rattle.pi_region.proofs.BackLemmas.{trail_once, back_go, back_stop, len_back, older, restored}
use Rattle.pi_region.proofs.trailed.Trailed.undo.Goals as goal

pub loop-self-smaller : goal.loop-self-smaller
loop-self-smaller c =
    let fewer : c.take_back.new.self.trail ≤ c.loop-self.self.trail - 1 = rw c.take_back.ensures (trail_once c.loop-self.self) in
    let smaller : c.take_back.new.self.trail < c.loop-self.self.trail = omega arith in smaller

pub loop-self-preserved : goal.loop-self-preserved
loop-self-preserved c =
    let past : c.args.len < c.loop-self.self.trail = omega arith in
    rw c.take_back.ensures (sym (back_go c.args.len c.loop-self.self past) ∙ c.loop-self.invariant)

pub returns-clause-back : goal.returns-clause-back
returns-clause-back c =
    let within : c.loop-self.self.trail ≤ c.args.len = omega arith in
    rw c.truncate.ensures (ap (cut c.args.len) (c.self.view_is ∙ (sym (back_stop c.args.len c.loop-self.self within) ∙ c.loop-self.invariant)))

pub returns-clause-restores : goal.returns-clause-restores
returns-clause-restores c = λ before a e. returns-clause-back c ∙ restored c.args.len before c.args.self.now a e

pub returns-clause-older : goal.returns-clause-older
returns-clause-older c = λ before a le. rw (returns-clause-back c) (older c.args.len before c.args.self.now a le)

pub returns-clause-len : goal.returns-clause-len
returns-clause-len c = ap (λ (i : Image). length i.region) (returns-clause-back c) ∙ len_back c.args.len c.args.self.now
