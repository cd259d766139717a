use Rattle.pi_outside.proofs.Memory.{supply_at-add}
use Rattle.pi_outside.proofs.supply.Supply.give.Goals as goal

pub returns-clause-after : goal.returns-clause-after
returns-clause-after c =
    rw (← c.self.view_is) (supply_at-add c.self.inside.bytes.items c.self.inside.at c.self.inside.most c.copy_front-count.result)
