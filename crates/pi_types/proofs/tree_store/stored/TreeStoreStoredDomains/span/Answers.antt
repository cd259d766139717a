use Rattle.std.proofs.Common.{sym}
use Rattle.pi_types.specs.TreeStore.{trees_of}
use Rattle.pi_types.proofs.TreeStoreBinds.{domain_is}
use Rattle.pi_types.proofs.StandingLemmas.{span-by}
use Rattle.pi_types.proofs.tree_store.stored.TreeStoreStoredDomains.span.Goals as goal

pub returns : goal.returns
returns c = let s = c.args.self.now in span-by _ _ c.args.k c.span.result (sym (domain_is (trees_of s.atoms s.present) s.present c.args.n)) c.span.ensures
