use Rattle.std.proofs.Common.{sym, subst, refl}
use Rattle.pi_store.specs.Sound.{IsSound}
use Rattle.pi_store.proofs.BesideLemmas.{sound_more, put_back}
use Rattle.pi_store.proofs.store.RawStore.put_back.Goals as goal

pub invariant_of-self : goal.invariant_of-self
invariant_of-self c =
    subst (IsSound c.self.inside.names) (sym c.in_ok-words.ensures)
    (sound_more c.kept.inside.names c.self.inside.names c.kept.inside.words (c.if-not-has_all.ensures.given refl) c.self.invariant.cells c.self.invariant.distinct c.kept.invariant)

pub returns-clause-ok : goal.returns-clause-ok
returns-clause-ok c = rw (← c.self.view_is, ← c.kept.view_is, c.in_ok-words.ensures) (λ len from. put_back c.kept.inside.names c.self.inside.names c.self.inside.words c.kept.inside.words len (c.if-not-has_all.ensures.given refl) c.kept.invariant from)
