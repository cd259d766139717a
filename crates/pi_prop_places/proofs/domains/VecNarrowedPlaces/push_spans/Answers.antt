use Rattle.std.proofs.Common.{ap, sym, ◌∙◌, ◌++◌, option_copied}
use Rattle.std.proofs.lemmas.List.{append-nil}
use Rattle.pi_prop_places.proofs.DomainLemmas.{nowhere}
use Rattle.pi_prop_places.proofs.domains.VecNarrowedPlaces.push_spans.Goals as goal

pub returns-in-None : goal.returns-in-None
returns-in-None c = sym (append-nil c.args.spans.now.items) ∙ ap (λ d. c.args.spans.now.items ++ d) (sym (nowhere c.args.self.now.items c.args.k (sym c.narrowed_at.ensures ∙ ap option_copied c.in-None.is)))
