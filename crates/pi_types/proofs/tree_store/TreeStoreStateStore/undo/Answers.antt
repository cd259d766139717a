use Rattle.std.proofs.Common.{sym, ◌∙◌, ◌<◌, Some, None, arith, length}
use Rattle.pi_types.proofs.TreeStoreUndo.{popped, returns_to, none_kept, sound_kept, sound_left}
use Rattle.pi_types.proofs.tree_store.TreeStoreStateStore.undo.Goals as goal

pub returns-in-Some : goal.returns-in-Some
returns-in-Some c = λ _.
    let l : c.args.m.now < length c.args.self.now.earlier = omega arith in
    let q = popped c.args.self.now.earlier c.truncate.new.self c.pop.new.self c.args.m.now (Some c.in-Some.kept) l c.truncate.ensures c.pop.ensures.rest (sym c.in-Some.is ∙ c.pop.ensures.value) in
    returns_to _ _ _ _ _ c.args.self.now.is_kept _ l q

pub returns-in_default : goal.returns-in_default
returns-in_default c = λ _.
    let l : c.args.m.now < length c.args.self.now.earlier = omega arith in
    let q = popped c.args.self.now.earlier c.truncate.new.self c.pop.new.self c.args.m.now None l c.truncate.ensures c.pop.ensures.rest (sym c.in_default.is ∙ c.pop.ensures.value) in
    absurd (none_kept _ _ _ l q)

pub invariant_of-self : goal.invariant_of-self
invariant_of-self c =
    let l : c.args.m.now < length c.args.self.now.earlier = omega arith in
    let q = popped c.args.self.now.earlier c.truncate.new.self c.pop.new.self c.args.m.now (Some c.in-Some.kept) l c.truncate.ensures c.pop.ensures.rest (sym c.in-Some.is ∙ c.pop.ensures.value) in
    record { sound = sound_kept _ _ _ _ _ _ q c.args.self.now.sound }

pub invariant_of-self-in_default : goal.invariant_of-self-in_default
invariant_of-self-in_default c =
    let l : c.args.m.now < length c.args.self.now.earlier = omega arith in
    let q = popped c.args.self.now.earlier c.truncate.new.self c.pop.new.self c.args.m.now None l c.truncate.ensures c.pop.ensures.rest (sym c.in_default.is ∙ c.pop.ensures.value) in
    record { sound = sound_left _ _ _ _ _ _ q c.args.self.now.sound }
