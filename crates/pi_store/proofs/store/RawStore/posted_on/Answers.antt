use Rattle.pi_store.proofs.SoundLemmas.{has_bound, has_lists}
use Rattle.pi_store.proofs.PostedLemmas.{posted_are}
use Rattle.pi_store.proofs.store.RawStore.posted_on.Goals as goal

pub returns : goal.returns
returns c =
    let t = c.self.inside.names in
    let i = c.self.inside.words in
    rw (← c.self.view_is) (posted_are t i (has_bound t i c.self.invariant) c.args.v c.in_ok-found.found (c.in_ok-found.ensures (has_lists t i c.self.invariant)))
