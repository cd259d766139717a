use Rattle.std.proofs.Common.{[], ap, sym, ◌∙◌, option_copied}
use Rattle.std.specs.Int.{w64}
use Rattle.std.proofs.lemmas.Int.{to_z-of_z}
use Rattle.std.proofs.lemmas.Option.{get_or_from_slice_get}
use Rattle.pi_prop_spec.specs.Ends.{greatest_of}
use Rattle.pi_prop_places.proofs.DomainLemmas.{nowhere_greatest}
use Rattle.pi_prop_places.proofs.HoleLemmas.{bounds_fit}
use Rattle.pi_prop_places.proofs.domains.VecNarrowedPlaces.greatest.Goals as goal

pub returns-in-None-clause-is : goal.returns-in-None-clause-is
returns-in-None-clause-is c = nowhere_greatest c.args.self.now.items c.args.k (sym c.narrowed_at.ensures ∙ ap option_copied c.in-None.is)

pub returns-in-Some-clause-is : goal.returns-in-Some-clause-is
returns-in-Some-clause-is c =
    to_z-of_z w64 c.last.result (bounds_fit c.last.result c.last.ensures.within) ∙ (c.last.ensures.is ∙ ap greatest_of (sym (get_or_from_slice_get c.args.self.now.items c.args.k c.in-Some.domain.now [] (sym c.narrowed_at.ensures ∙ ap option_copied c.in-Some.is))))
