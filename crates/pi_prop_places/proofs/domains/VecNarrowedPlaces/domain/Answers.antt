use Rattle.std.proofs.Common.{ap, sym, ◌∙◌, option_copied}
use Rattle.pi_prop_places.proofs.DomainLemmas.{nowhere}
use Rattle.pi_prop_places.proofs.domains.VecNarrowedPlaces.domain.Goals as goal

pub returns-in-None : goal.returns-in-None
returns-in-None c = c.nothing.ensures ∙ sym (nowhere c.args.self.now.items c.args.k (sym c.narrowed_at.ensures ∙ ap option_copied c.in-None.is))
