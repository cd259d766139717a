use Rattle.pi_terms.proofs.GetLemmas.{on_err}
use Rattle.pi_store.specs.Holding.{heap_of}
use Rattle.pi_store.proofs.SoundLemmas.{sound_numbered}
use Rattle.pi_store.proofs.KeepLemmas.{stays_numbered}
use Rattle.pi_store.proofs.store.RawStore.put_atom.Goals as goal

pub invariant_of-self : goal.invariant_of-self
invariant_of-self c = sound_numbered c.self.inside.names c.numbered.new.names c.self.inside.words c.numbered.new.words c.args.name.now c.numbered.ensures.moved c.self.invariant

pub returns-in_err-number-clause-err : goal.returns-in_err-number-clause-err
returns-in_err-number-clause-err c =
    let stays = stays_numbered c.self.inside.names c.numbered.new.names c.self.inside.words c.numbered.new.words c.args.name.now c.numbered.ensures.moved c.self.invariant in
    rw (← c.self.view_is) (on_err c.from_residual.result stays)

pub invariant_of-self-2 : goal.invariant_of-self-2
invariant_of-self-2 c = sound_numbered c.self.inside.names c.numbered.new.names c.self.inside.words c.numbered.new.words c.args.name.now c.numbered.ensures.moved c.self.invariant

pub returns-clause-ok : goal.returns-clause-ok
returns-clause-ok c = rw (← c.self.view_is) (record {
  changes = stays_numbered c.self.inside.names c.numbered.new.names c.self.inside.words c.numbered.new.words c.args.name.now c.numbered.ensures.moved c.self.invariant;
  term = c.put_atom.ensures (heap_of c.numbered.new.names c.numbered.new.words) c.args.name.now c.in_ok-number.ensures.ok;
})
