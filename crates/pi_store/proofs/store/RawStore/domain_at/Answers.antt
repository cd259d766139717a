use Rattle.std.proofs.Common.{◌∙◌, ap}
use Rattle.pi_store.specs.Domains.{domain_by}
use Rattle.pi_store.proofs.DomainLemmas.{shows_past}
use Rattle.pi_store.proofs.store.RawStore.domain_at.Goals as goal

pub returns : goal.returns
returns c =
    let i = c.self.inside.words in
    rw (← c.self.view_is) (λ good. shows_past c.self.inside.names i c.self.invariant c.args.m.now.length c.args.v c.in_ok-found.found (c.in_ok-found.ensures ∙ ap (domain_by i.region) c.word_at-word.ensures))
