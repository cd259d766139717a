use Rattle.std.proofs.Common.{[], ap, sym, subst, ◌∙◌, option_copied}
use Rattle.std.specs.Int.{w64}
use Rattle.std.proofs.lemmas.Int.{to_z-of_z}
use Rattle.std.proofs.lemmas.Option.{get_or_from_slice_get}
use Rattle.pi_constraints.specs.Domain.{IsDomain}
use Rattle.pi_prop_spec.specs.Ends.{least_of}
use Rattle.pi_prop_places.proofs.DomainLemmas.{nowhere_least, nowhere_spans}
use Rattle.pi_prop_places.proofs.HoleLemmas.{bounds_fit}
use Rattle.pi_prop_places.proofs.domains.VecNarrowedPlaces.least.Goals as goal

pub returns-in-None-clause-is : goal.returns-in-None-clause-is
returns-in-None-clause-is c = nowhere_least c.args.self.now.items c.args.k (sym c.narrowed_at.ensures ∙ ap option_copied c.in-None.is)

pub returns-in-None-clause-spans : goal.returns-in-None-clause-spans
returns-in-None-clause-spans c = nowhere_spans c.args.self.now.items c.args.k (sym c.narrowed_at.ensures ∙ ap option_copied c.in-None.is)

pub returns-in-Some-clause-is : goal.returns-in-Some-clause-is
returns-in-Some-clause-is c =
    to_z-of_z w64 c.first.result (bounds_fit c.first.result c.first.ensures.within) ∙ (c.first.ensures.is ∙ ap least_of (sym (get_or_from_slice_get c.args.self.now.items c.args.k c.in-Some.domain.now [] (sym c.narrowed_at.ensures ∙ ap option_copied c.in-Some.is))))

pub returns-in-Some-clause-spans : goal.returns-in-Some-clause-spans
returns-in-Some-clause-spans c = subst IsDomain (sym (get_or_from_slice_get c.args.self.now.items c.args.k c.in-Some.domain.now [] (sym c.narrowed_at.ensures ∙ ap option_copied c.in-Some.is))) c.first.ensures.spans
