use Rattle.std.proofs.Common.{ap, sym, ◌∙◌, option_copied}
use Rattle.pi_prop_places.proofs.DomainLemmas.{nowhere}
use Rattle.pi_queue.proofs.held_places.HeldPlacesPlaces.domain.Goals as goal

pub returns-in-None : goal.returns-in-None
returns-in-None g c = c.nothing.ensures ∙ sym (nowhere c.args.self.now.held.items c.args.k (sym c.at.ensures ∙ ap option_copied c.in-None.is))
