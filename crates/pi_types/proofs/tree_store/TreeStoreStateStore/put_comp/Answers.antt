use Rattle.std.proofs.Common.{refl, length}
use Rattle.std.proofs.lemmas.Option.{slice_get_within}
use Rattle.pi_types.proofs.TreeStoreGround.{sound_compound, made_compound, compound_tree}
use Rattle.pi_types.proofs.TreeStoreCalls.{gives_named, stays_named}
use Rattle.pi_types.proofs.TreeStoreKeeps.{stays_names}
use Rattle.pi_types.proofs.TreeStoreSoundLemmas.{sound_more_names}
use Rattle.pi_types.proofs.tree_store.TreeStoreStateStore.put_comp.Goals as goal

pub invariant_of-self : goal.invariant_of-self
invariant_of-self c = let g = c.number.ensures.grows in record { sound = sound_more_names _ g.0 _ _ _ g.1 c.number.ensures.distinct c.args.self.now.sound }

pub returns-in_err-number-clause-stays : goal.returns-in_err-number-clause-stays
returns-in_err-number-clause-stays c = let g = c.number.ensures.grows in stays_names _ g.0 _ _ _ c.args.self.now.is_kept g.1 c.args.self.now.sound

pub returns-in_err-term-clause-stays : goal.returns-in_err-term-clause-stays
returns-in_err-term-clause-stays c = let g = c.number.ensures.grows in stays_names _ g.0 _ _ _ c.args.self.now.is_kept g.1 c.args.self.now.sound

pub add-requires : goal.add-requires
add-requires c =
    let g = c.number.ensures.grows in
    let s = sound_more_names _ g.0 _ _ _ g.1 c.number.ensures.distinct c.args.self.now.sound in (
      sound_compound c.number.new.self c.args.self.now.present s.present_is c.in_ok-number.number c.args.args.now c.in_ok-term.term (slice_get_within c.number.new.self c.in_ok-number.number c.args.name.now c.in_ok-number.ensures.ok) c.in_ok-term.ensures.all c.in_ok-term.ensures.lacks,
      made_compound (length c.args.self.now.present.variables) c.args.self.now.present c.in_ok-number.number c.args.args.now c.in_ok-term.term c.in_ok-term.ensures.all c.in_ok-term.ensures.lacks,
    )

pub returns-in_err-made-clause-stays : goal.returns-in_err-made-clause-stays
returns-in_err-made-clause-stays c = let g = c.number.ensures.grows in stays_named _ g.0 _ _ _ _ _ _ _ _ g.1 c.args.self.now.sound c.in_err-made.ensures.err

pub returns-clause-stays : goal.returns-clause-stays
returns-clause-stays c =
    let g = c.number.ensures.grows in
    let s = sound_more_names _ g.0 _ _ _ g.1 c.number.ensures.distinct c.args.self.now.sound in
    let v = gives_named _ g.0 _ _ _ _ _ _ _ _ _ _ _ g.1 c.args.self.now.sound s.present_is c.in_ok-made.ensures.ok c.in_ok-made.ensures.number refl in v.changes

pub returns-clause-ok : goal.returns-clause-ok
returns-clause-ok c = λ ts a.
    let g = c.number.ensures.grows in
    let s = sound_more_names _ g.0 _ _ _ g.1 c.number.ensures.distinct c.args.self.now.sound in
    let t = compound_tree c.args.self.now.atoms g.0 c.number.new.self c.args.self.now.earlier c.args.self.now.present c.args.self.now.is_kept c.args.self.now.sound.present_is c.in_ok-number.number c.args.args.now ts c.in_ok-term.term c.args.name.now g.1 a c.in_ok-number.ensures.ok c.in_ok-term.ensures.all in
    let v = gives_named _ g.0 _ _ _ _ _ _ _ _ _ _ _ g.1 c.args.self.now.sound s.present_is c.in_ok-made.ensures.ok c.in_ok-made.ensures.number t in v.term
