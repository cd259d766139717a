use Rattle.std.proofs.Common.{sym, subst}
use Rattle.pi_store.specs.Sound.{IsSound}
use Rattle.pi_store.proofs.SoundLemmas.{sound_undo}
use Rattle.pi_store.proofs.KeepLemmas.{returns_to}
use Rattle.pi_store.proofs.store.RawStore.undo.Goals as goal

pub invariant_of-self : goal.invariant_of-self
invariant_of-self c = subst (IsSound c.self.inside.names) (sym c.undo.ensures.back) (sound_undo c.self.inside.names c.self.inside.words c.args.m.now.length c.self.invariant)

pub returns-clause-returns : goal.returns-clause-returns
returns-clause-returns c = rw (← c.self.view_is) (λ good. returns_to c.self.inside.names c.self.inside.words c.undo.new.self c.args.m.now c.undo.ensures.back good)

pub returns-clause-cut : goal.returns-clause-cut
returns-clause-cut c = rw (← c.self.view_is) c.undo.ensures.len
