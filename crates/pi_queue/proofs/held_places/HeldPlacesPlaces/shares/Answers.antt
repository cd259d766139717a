use Rattle.std.proofs.Common.{ap, sym, ◌∙◌, inl, inr, option_copied}
use Rattle.pi_prop_places.proofs.DomainLemmas.{nowhere}
use Rattle.pi_prop_places.proofs.AskLemmas.{none_shared}
use Rattle.pi_queue.proofs.held_places.HeldPlacesPlaces.shares.Goals as goal

pub returns-in-None : goal.returns-in-None
returns-in-None g c = (λ t. absurd (cc), λ h. absurd (none_shared _ _ (inl (nowhere c.args.self.now.held.items c.args.j (sym c.at.ensures ∙ ap option_copied c.in-None.is))) h))

pub returns-in-None-at : goal.returns-in-None-at
returns-in-None-at g c = (λ t. absurd (cc), λ h. absurd (none_shared _ _ (inr (nowhere c.args.self.now.held.items c.args.k (sym c.at-in-Some.ensures ∙ ap option_copied c.in-None-at.is))) h))
