use Rattle.std.proofs.Common.{ap, sym, ◌∙◌, option_copied}
use Rattle.pi_prop_places.proofs.DomainLemmas.{nowhere}
use Rattle.pi_prop_places.proofs.AskLemmas.{none_between}
use Rattle.pi_queue.proofs.held_places.HeldPlacesPlaces.has_between.Goals as goal

pub returns-in-None : goal.returns-in-None
returns-in-None g c = (λ t. absurd (cc), λ h. absurd (none_between _ c.args.lo c.args.hi (nowhere c.args.self.now.held.items c.args.k (sym c.at.ensures ∙ ap option_copied c.in-None.is)) h))
