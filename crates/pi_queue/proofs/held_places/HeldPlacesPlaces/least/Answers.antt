use Rattle.std.proofs.Common.{ap, sym, ◌∙◌, option_copied}
use Rattle.pi_prop_places.proofs.DomainLemmas.{nowhere_least, nowhere_spans}
use Rattle.pi_queue.proofs.held_places.HeldPlacesPlaces.least.Goals as goal

pub returns-in-None-clause-is : goal.returns-in-None-clause-is
returns-in-None-clause-is g c = nowhere_least c.args.self.now.held.items c.args.k (sym c.at.ensures ∙ ap option_copied c.in-None.is)

pub returns-in-None-clause-spans : goal.returns-in-None-clause-spans
returns-in-None-clause-spans g c = nowhere_spans c.args.self.now.held.items c.args.k (sym c.at.ensures ∙ ap option_copied c.in-None.is)
