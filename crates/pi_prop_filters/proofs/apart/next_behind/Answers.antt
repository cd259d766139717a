use Rattle.std.proofs.Common.{Some, ap, ◌∙◌}
use Rattle.std.proofs.lemmas.Option.{slice_get-get_or}
use Rattle.pi_constraints.specs.declared.constraint.Item.{Item}
use Rattle.pi_prop_filters.proofs.ApartLemmas.{apart_integer}
use Rattle.pi_prop_filters.proofs.apart.next_behind.Goals as goal

pub returns-in-Int : goal.returns-in-Int
returns-in-Int c = apart_integer c.args.items.now c.args.i c.args.next _ (slice_get-get_or c.args.items.now c.args.i (Item.Var 0) c.requires ∙ ap Some c.in-Int.is)
