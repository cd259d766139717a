use Rattle.std.proofs.Common.{refl, [], ap, sym, ◌∙◌, option_copied}
use Rattle.std.proofs.lemmas.Option.{get_or_from_slice_get}
use Rattle.pi_prop_places.proofs.DomainLemmas.{nowhere}
use Rattle.pi_prop_places.proofs.domains.VecNarrowedPlaces.is_empty.Goals as goal

pub returns-in-None : goal.returns-in-None
returns-in-None c = (λ t. nowhere c.args.self.now.items c.args.k (sym c.narrowed_at.ensures ∙ ap option_copied c.in-None.is), λ t. refl)

pub returns-in-Some : goal.returns-in-Some
returns-in-Some c = let e = get_or_from_slice_get c.args.self.now.items c.args.k c.in-Some.domain.now [] (sym c.narrowed_at.ensures ∙ ap option_copied c.in-Some.is) in (λ t. e ∙ c.has_none.ensures.0 t, λ t. c.has_none.ensures.1 (sym e ∙ t))
