use Rattle.std.proofs.Common.{ap, []}
use Rattle.std.proofs.lemmas.Option.{slice_get_within, get_or_from_slice_get}
use Rattle.pi_terms.specs.Tree.{atom}
use Rattle.pi_terms.proofs.GetLemmas.{on_err}
use Rattle.pi_types.proofs.TreeStoreCalls.{gives_named, stays_named}
use Rattle.pi_types.proofs.TreeStoreKeeps.{stays_names}
use Rattle.pi_types.proofs.TreeStoreSoundLemmas.{sound_more_names}
use Rattle.pi_types.proofs.tree_store.TreeStoreStateStore.put_atom.Goals as goal

pub invariant_of-self : goal.invariant_of-self
invariant_of-self c = let g = c.number.ensures.grows in record { sound = sound_more_names _ g.0 _ _ _ g.1 c.number.ensures.distinct c.args.self.now.sound }

pub returns-in_err-number-clause-err : goal.returns-in_err-number-clause-err
returns-in_err-number-clause-err c = let g = c.number.ensures.grows in on_err c.from_residual.result (stays_names _ g.0 _ _ _ c.args.self.now.is_kept g.1 c.args.self.now.sound)

pub add-requires : goal.add-requires
add-requires c = (slice_get_within _ _ _ c.in_ok-number.ensures.ok, tt)

pub returns-in_err-made-clause-err : goal.returns-in_err-made-clause-err
returns-in_err-made-clause-err c = let g = c.number.ensures.grows in on_err c.from_residual-in_err-made.result (stays_named _ g.0 _ _ _ _ _ _ _ _ g.1 c.args.self.now.sound c.in_err-made.ensures.err)

pub returns-clause-ok : goal.returns-clause-ok
returns-clause-ok c =
    let g = c.number.ensures.grows in
    let s = sound_more_names _ g.0 _ _ _ g.1 c.number.ensures.distinct c.args.self.now.sound in
    gives_named _ g.0 _ _ _ _ _ _ _ _ _ _ _ g.1 c.args.self.now.sound s.present_is c.in_ok-made.ensures.ok c.in_ok-made.ensures.number (ap (λ name. atom name) (get_or_from_slice_get c.number.new.self c.in_ok-number.number c.args.name.now [] c.in_ok-number.ensures.ok))
