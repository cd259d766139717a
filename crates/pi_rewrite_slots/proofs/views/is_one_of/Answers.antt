use Rattle.pi_rewrite_slots.specs.Indexed.{names_in}
use Rattle.pi_rewrite_slots.proofs.ViewLemmas.{among-is}
use Rattle.pi_rewrite_slots.proofs.views.is_one_of.Goals as goal

pub returns : goal.returns
returns c = among-is (names_in c.args.names.now) c.args.name.now c.place_of.result c.is_some.result c.place_of.ensures c.is_some.ensures
