use Rattle.std.proofs.Common.{rules}
use Rattle.pi_rewrite_slots.specs.Indexed.{names_in}
use Rattle.pi_rewrite_slots.proofs.ViewLemmas.{valued}
use Rattle.pi_rewrite_slots.proofs.slots.Slots.value_slots.Goals as goal

pub returns : goal.returns
returns c = valued c.args.names.now c.args.self.now (names_in c.push_unnamed.new.names.items) (search rules)
