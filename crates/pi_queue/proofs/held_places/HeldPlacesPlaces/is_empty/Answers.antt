use Rattle.std.proofs.Common.{refl, ap, sym, ◌∙◌, option_copied}
use Rattle.pi_prop_places.proofs.DomainLemmas.{nowhere}
use Rattle.pi_queue.proofs.held_places.HeldPlacesPlaces.is_empty.Goals as goal

pub returns-in-None : goal.returns-in-None
returns-in-None g c = (λ t. nowhere c.args.self.now.held.items c.args.k (sym c.at.ensures ∙ ap option_copied c.in-None.is), λ t. refl)
