use Rattle.std.proofs.Common.{ap, sym, ◌∙◌, option_copied}
use Rattle.pi_prop_places.proofs.DomainLemmas.{nowhere_has}
use Rattle.pi_prop_places.proofs.domains.VecNarrowedPlaces.has.Goals as goal

pub returns-in-None : goal.returns-in-None
returns-in-None c = nowhere_has c.args.self.now.items c.args.k c.args.n (sym c.narrowed_at.ensures ∙ ap option_copied c.in-None.is)
