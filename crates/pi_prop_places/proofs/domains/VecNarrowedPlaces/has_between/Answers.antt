use Rattle.std.proofs.Common.{[], ap, sym, subst, ◌∙◌, List, FitsSigned, option_copied}
use Rattle.std.specs.Int.{w128}
use Rattle.std.proofs.lemmas.Int.{to_z-of_z}
use Rattle.std.proofs.lemmas.Option.{get_or_from_slice_get}
use Rattle.std.proofs.lemmas.Bool.{false≢true}
use Rattle.pi_constraints.specs.declared.domain.Span.{Span}
use Rattle.pi_prop_places.specs.Reads.{HasValueBetween}
use Rattle.pi_prop_places.proofs.DomainLemmas.{nowhere}
use Rattle.pi_prop_places.proofs.AskLemmas.{none_between}
use Rattle.pi_prop_places.proofs.domains.VecNarrowedPlaces.has_between.Goals as goal

pub returns-in-None : goal.returns-in-None
returns-in-None c = (λ t. absurd (false≢true t), λ h. absurd (none_between _ c.args.lo c.args.hi (nowhere c.args.self.now.items c.args.k (sym c.narrowed_at.ensures ∙ ap option_copied c.in-None.is)) h))

pub returns-in-Some : goal.returns-in-Some
returns-in-Some c =
    let lo : FitsSigned w128 c.args.lo = c.ranges.lo in
    let hi : FitsSigned w128 c.args.hi = c.ranges.hi in
    let e = get_or_from_slice_get c.args.self.now.items c.args.k c.in-Some.domain.now [] (sym c.narrowed_at.ensures ∙ ap option_copied c.in-Some.is) in
    let says = simp to_z-of_z at c.has_value_between.ensures in
    (λ t. subst (λ (d : List Span). HasValueBetween d c.args.lo c.args.hi) (sym e) (says.0 t), λ h. says.1 (subst (λ (d : List Span). HasValueBetween d c.args.lo c.args.hi) e h))
