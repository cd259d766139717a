use Rattle.std.proofs.Common.{◌≡◌, length, rules}
use Rattle.pi_plan.proofs.PutLemmas.{puts_by}
use Rattle.pi_plan.proofs.search.Search.put.Goals as goal

pub returns-clause-puts : goal.returns-clause-puts
returns-clause-puts c =
    let number : c.len-number.result ≡ length c.args.self.now.ways.items = search rules in
    puts_by _ _ _ _ _ c.cost-cost.result c.len-number.result c.cost-cost.ensures number c.in_ok-push.ensures.items
    c.in_ok-insert.ensures.updates.1 c.in_ok-insert.ensures.updates.2 c.in_ok-insert-2.ensures.keys
