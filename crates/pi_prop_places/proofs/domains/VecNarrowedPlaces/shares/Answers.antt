use Rattle.std.proofs.Common.{[], ap, sym, subst, ◌∙◌, List, inl, inr, option_copied}
use Rattle.std.proofs.lemmas.Option.{get_or_from_slice_get}
use Rattle.std.proofs.lemmas.Bool.{false≢true}
use Rattle.pi_constraints.specs.declared.domain.Span.{Span}
use Rattle.pi_prop_spec.specs.Places.{domain_at}
use Rattle.pi_prop_spec.specs.Rules.{ShareAValue}
use Rattle.pi_prop_places.proofs.DomainLemmas.{nowhere}
use Rattle.pi_prop_places.proofs.AskLemmas.{none_shared}
use Rattle.pi_prop_places.proofs.domains.VecNarrowedPlaces.shares.Goals as goal

pub returns-in-None : goal.returns-in-None
returns-in-None c = (λ t. absurd (false≢true t), λ h. absurd (none_shared _ _ (inl (nowhere c.args.self.now.items c.args.j (sym c.narrowed_at.ensures ∙ ap option_copied c.in-None.is))) h))

pub returns-in-None-narrowed_at : goal.returns-in-None-narrowed_at
returns-in-None-narrowed_at c = (λ t. absurd (false≢true t), λ h. absurd (none_shared _ _ (inr (nowhere c.args.self.now.items c.args.k (sym c.narrowed_at-in-Some.ensures ∙ ap option_copied c.in-None-narrowed_at.is))) h))

pub returns-in-Some-narrowed_at : goal.returns-in-Some-narrowed_at
returns-in-Some-narrowed_at c =
    let first = get_or_from_slice_get c.args.self.now.items c.args.j c.in-Some.first.now [] (sym c.narrowed_at.ensures ∙ ap option_copied c.in-Some.is) in
    let second = get_or_from_slice_get c.args.self.now.items c.args.k c.in-Some-narrowed_at.second.now [] (sym c.narrowed_at-in-Some.ensures ∙ ap option_copied c.in-Some-narrowed_at.is) in (
      λ t. subst (λ (x : List Span). ShareAValue x (domain_at c.args.self.now.items c.args.k)) (sym first) (subst (λ (x : List Span). ShareAValue c.in-Some.first.now x) (sym second) (c.share.ensures.0 t)),
      λ h. c.share.ensures.1 (subst (λ (x : List Span). ShareAValue c.in-Some.first.now x) second (subst (λ (x : List Span). ShareAValue x (domain_at c.args.self.now.items c.args.k)) first h)),
    )
