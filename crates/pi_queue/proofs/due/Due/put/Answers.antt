use Rattle.std.proofs.Common.{ℕ, List, ◌++◌, ◌∷◌, [], sym, ◌∙◌, ap, subst, refl}
use Rattle.std.specs.Prelude.{Contains}
use Rattle.pi_queue.proofs.WaitingLemmas.{kept-by, kept-put}
use Rattle.pi_queue.proofs.due.Due.put.Goals as goal

pub invariant_of-self : goal.invariant_of-self
invariant_of-self c = kept-by c.self.inside.queue.items c.reserve.new.self.items c.self.inside.waiting c.self.inside.waiting c.self.invariant c.reserve.ensures.items refl

pub invariant_of-self-2 : goal.invariant_of-self-2
invariant_of-self-2 c =
    kept-put c.self.inside.queue.items c.push_back_reserved.new.self.items c.self.inside.waiting c.insert.new.self c.args.i c.self.invariant
    (subst (λ (q : List ℕ). Contains q c.args.i → ⊥) (sym c.self.view_is) c.requires)
    (c.push_back_reserved.ensures.items ∙ ap (λ (q : List ℕ). q ++ c.args.i ∷ []) c.reserve.ensures.items) c.in_ok-insert.ensures.updates
