use Rattle.std.proofs.Common.{refl, sym, subst}
use Rattle.pi_store.specs.Holding.{heap_of}
use Rattle.pi_store.specs.Sound.{IsSound}
use Rattle.pi_store.proofs.SoundLemmas.{sound_numbered}
use Rattle.pi_store.proofs.KeepLemmas.{stays_numbered, sound_appends}
use Rattle.pi_store.proofs.RefLemmas.{compound_stays, compound_made}
use Rattle.pi_store.proofs.store.RawStore.put_comp.Goals as goal

pub invariant_of-self : goal.invariant_of-self
invariant_of-self c = sound_numbered c.self.inside.names c.numbered.new.names c.self.inside.words c.numbered.new.words c.args.name.now c.numbered.ensures.moved c.self.invariant

pub returns-in_err-number-clause-stays : goal.returns-in_err-number-clause-stays
returns-in_err-number-clause-stays c =
    let stays = stays_numbered c.self.inside.names c.numbered.new.names c.self.inside.words c.numbered.new.words c.args.name.now c.numbered.ensures.moved c.self.invariant in
    rw (← c.self.view_is) stays

pub invariant_of-self-in_err-made : goal.invariant_of-self-in_err-made
invariant_of-self-in_err-made c =
    let sound = sound_numbered c.self.inside.names c.numbered.new.names c.self.inside.words c.numbered.new.words c.args.name.now c.numbered.ensures.moved c.self.invariant in
    subst (IsSound c.numbered.new.names) (sym c.in_err-made.ensures.err) sound

pub returns-in_err-made-clause-stays : goal.returns-in_err-made-clause-stays
returns-in_err-made-clause-stays c =
    let stays = stays_numbered c.self.inside.names c.numbered.new.names c.self.inside.words c.numbered.new.words c.args.name.now c.numbered.ensures.moved c.self.invariant in
    rw (← c.self.view_is, c.in_err-made.ensures.err) stays

pub invariant_of-self-2 : goal.invariant_of-self-2
invariant_of-self-2 c =
    let u = c.numbered.new.names in
    let j = c.numbered.new.words in
    let sound = sound_numbered c.self.inside.names c.numbered.new.names c.self.inside.words c.numbered.new.words c.args.name.now c.numbered.ensures.moved c.self.invariant in
    sound_appends u j c.put_compound.new.words c.in_ok-made.ensures.appends
    (c.in_ok-made.ensures.right (heap_of u j) refl (c.args.name.now, c.in_ok-number.ensures.ok) (c.known-args.ensures.are sound.cells)) sound

pub returns-clause-stays : goal.returns-clause-stays
returns-clause-stays c =
    rw (← c.self.view_is) (compound_stays c.self.inside.names c.numbered.new.names c.self.inside.words c.numbered.new.words c.put_compound.new.words c.args.name.now c.self.invariant c.numbered.ensures.moved c.in_ok-made.ensures.appends)

pub returns-clause-ok : goal.returns-clause-ok
returns-clause-ok c =
    let sound = sound_numbered c.self.inside.names c.numbered.new.names c.self.inside.words c.numbered.new.words c.args.name.now c.numbered.ensures.moved c.self.invariant in
    rw (← c.self.view_is) (λ ts are.
    compound_made c.self.inside.names c.numbered.new.names c.self.inside.words c.numbered.new.words c.put_compound.new.words c.args.name.now c.in_ok-number.number c.in_ok-made.made.number
    c.known-args.result.now c.args.args.now ts c.self.invariant c.numbered.ensures.moved c.in_ok-made.ensures.appends c.in_ok-number.ensures.ok (λ refs. c.known-args.ensures.all sound.cells refs) c.in_ok-made.ensures.ok are)
