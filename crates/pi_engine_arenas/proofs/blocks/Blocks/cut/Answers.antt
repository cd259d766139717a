use Rattle.std.proofs.Common.{rules, ◌≡◌, take, sym, ◌∙◌, ap}
use Rattle.std.proofs.lemmas.List.{take_all}
use Rattle.pi_engine_arenas.specs.Blocks.{IsKept, brought_back}
use Rattle.pi_engine_arenas.proofs.BlocksLemmas.{cut_keeps, taken_back}
use Rattle.pi_engine_arenas.proofs.blocks.Blocks.cut.Goals as goal

-- all noted writes since the mark are taken back, and then the slots past it
back : (c : goal.After-truncate) → IsKept c.args.self.now c.args.mark → c.truncate.new.self.items ≡ brought_back c.args.mark c.args.self.now
back c good =
    c.truncate.ensures.items ∙ ap (λ v. take c.args.mark.slots v.slots) c.self-2.view_is
    ∙ taken_back c.args.mark c.args.self.now c.loop-i.self.slots c.loop-i.self.trail (search rules) c.loop-i.invariant.1

trail : (c : goal.After-truncate) → IsKept c.args.self.now c.args.mark → c.self-2.inside.trail.items ≡ take c.args.mark.trail c.args.self.now.trail
trail c good = ap (λ v. v.trail) c.self-2.view_is ∙ sym (take_all c.args.mark.trail c.loop-i.self.trail (search rules)) ∙ c.loop-i.invariant.2

pub returns-clause-back : goal.returns-clause-back
returns-clause-back c = back c

pub returns-clause-older : goal.returns-clause-older
returns-clause-older c = λ m good h older. cut_keeps c.args.self.now _ c.args.mark m good h older (back c good) (trail c good) (search rules)
