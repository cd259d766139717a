use Rattle.std.proofs.Common.{ap, sym, ◌∙◌, option_copied}
use Rattle.pi_prop_places.proofs.DomainLemmas.{nowhere_greatest}
use Rattle.pi_queue.proofs.held_places.HeldPlacesPlaces.greatest.Goals as goal

pub returns-in-None-clause-is : goal.returns-in-None-clause-is
returns-in-None-clause-is g c = nowhere_greatest c.args.self.now.held.items c.args.k (sym c.at.ensures ∙ ap option_copied c.in-None.is)
