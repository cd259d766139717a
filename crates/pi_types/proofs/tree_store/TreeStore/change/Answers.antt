use Rattle.std.proofs.Common.{refl, ap, ◌∙◌, ◌≡◌, ◌++◌, ◌∷◌, []}
use Rattle.pi_types.specs.TreeStoreWalks.{changed}
use Rattle.pi_types.proofs.TreeStoreSoundLemmas.{sound_same, sound_next}
use Rattle.pi_types.proofs.tree_store.TreeStore.change.Goals as goal

pub invariant_of-self-in-Err : goal.invariant_of-self-in-Err
invariant_of-self-in-Err c = record { sound = sound_same _ _ _ _ _ c.in-Err.ensures.err (c.in-Err.ensures.returned ∙ c.replace-kept.ensures.value) c.args.self.now.sound }

pub returns-in-Err-clause-err : goal.returns-in-Err-clause-err
returns-in-Err-clause-err c = record { same_names = refl; same_earlier = c.in-Err.ensures.err; same_present = c.in-Err.ensures.returned ∙ c.replace-kept.ensures.value; same_kept = refl }

pub invariant_of-self-2 : goal.invariant_of-self-2
invariant_of-self-2 c =
    let next : c.change-2.new.self ≡ changed c.args.self.now.present c.args.change = c.in_ok-change-2.ensures.ok ∙ ap (λ s. changed s c.args.change) c.in_ok-next.ensures.ok in
    record { sound = sound_next _ _ _ _ _ _ (c.in_default.ensures.ok ∙ ap (λ s. c.args.self.now.earlier ++ s ∷ []) c.replace-kept.ensures.value) (c.replace-kept.ensures.after ∙ next) c.requires c.args.self.now.sound }
