use Rattle.std.proofs.Common.{sym, ◌∙◌}
use Rattle.pi_types.proofs.TreeStoreBinds.{sound_known, knows_at}
use Rattle.pi_types.proofs.tree_store.TreeStore.know.Goals as goal

pub change-requires : goal.change-requires
change-requires c = sound_known _ _ c.args.self.now.sound.present_is c.args.v _ _ _ (sym c.unbound.ensures ∙ c.in-Some.is) c.var_ref-term.ensures c.requires

pub returns-clause-ok : goal.returns-clause-ok
returns-clause-ok c = λ n e. knows_at _ _ _ _ _ _ _ _ c.var_ref-term.result c.in-Some.n n c.args.known _ (sym c.unbound.ensures ∙ c.in-Some.is) e c.in_ok-change.ensures.ok
