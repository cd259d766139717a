use Rattle.std.proofs.Common.{ap, sym, ◌∙◌, ◌++◌, option_copied}
use Rattle.std.proofs.lemmas.List.{append-nil}
use Rattle.pi_prop_places.proofs.DomainLemmas.{nowhere}
use Rattle.pi_queue.proofs.held_places.HeldPlacesPlaces.push_spans.Goals as goal

pub returns-in-None : goal.returns-in-None
returns-in-None g c = sym (append-nil c.args.spans.now.items) ∙ ap (λ d. c.args.spans.now.items ++ d) (sym (nowhere c.args.self.now.held.items c.args.k (sym c.at.ensures ∙ ap option_copied c.in-None.is)))
