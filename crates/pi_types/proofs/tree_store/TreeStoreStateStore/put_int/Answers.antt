use Rattle.std.proofs.Common.{◌∙◌, ap, Some, rules}
use Rattle.pi_terms.specs.Tree.{int}
use Rattle.pi_types.proofs.TreeStoreKeeps.{gives_term}
use Rattle.pi_types.proofs.tree_store.TreeStoreStateStore.put_int.Goals as goal

pub returns-clause-ok : goal.returns-clause-ok
returns-clause-ok c =
    let v = gives_term _ _ _ _ _ _ _ _ _ _ c.in_ok-made.ensures.ok c.args.self.now.sound.present_is c.in_ok-made.ensures.number in
    record { changes = v.changes; term = v.term ∙ ap (λ n. Some (int n)) (search rules) }
