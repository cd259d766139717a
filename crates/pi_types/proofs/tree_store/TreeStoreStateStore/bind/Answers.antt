use Rattle.std.proofs.Common.{refl, false, IsTrue}
use Rattle.pi_types.proofs.TreeStoreBinds.{binds, binds_none, followed_below}
use Rattle.pi_types.proofs.tree_store.TreeStoreStateStore.bind.Goals as goal

pub know-requires : goal.know-requires
know-requires c = followed_below _ _ c.args.self.now.sound.present_is c.args.t _ (c.if-not-has.ensures.0 refl) c.followed-to.ensures

pub returns-clause-ok : goal.returns-clause-ok
returns-clause-ok c = binds _ _ _ _ _ _ _ _ c.args.self.now.sound.present_is c.args.v _ _ c.followed-to.ensures (λ n e. c.in_ok-know.ensures.ok n e)

pub returns-then-not-has-clause-ok : goal.returns-then-not-has-clause-ok
returns-then-not-has-clause-ok c = let s = c.args.self.now in binds_none s.atoms s.earlier s.present s.is_kept c.args.v c.args.t (λ h. let f : IsTrue false = c.if-not-has.ensures.1 h in cc)
