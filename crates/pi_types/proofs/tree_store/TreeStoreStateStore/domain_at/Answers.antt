use Rattle.std.proofs.Common.{sym, ap, ◌∙◌}
use Rattle.pi_constraints.specs.State.{domain_of}
use Rattle.pi_types.specs.TreeStore.{moment, trees_of}
use Rattle.pi_types.proofs.TreeStoreBinds.{domain_is}
use Rattle.pi_types.proofs.tree_store.TreeStoreStateStore.domain_at.Goals as goal

pub returns : goal.returns
returns c = λ _ _. let s = c.args.self.now in c.in_ok-found.ensures ∙ (sym (domain_is (trees_of s.atoms c.marked.result.now) c.marked.result.now c.args.v) ∙ ap (λ q. domain_of (moment s.atoms q).state c.args.v) c.marked.ensures)
