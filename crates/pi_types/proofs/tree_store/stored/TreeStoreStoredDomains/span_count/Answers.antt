use Rattle.std.proofs.Common.{sym}
use Rattle.pi_types.specs.TreeStore.{trees_of}
use Rattle.pi_types.proofs.TreeStoreBinds.{domain_is}
use Rattle.pi_types.proofs.StandingLemmas.{count-by, domain-by}
use Rattle.pi_types.proofs.tree_store.stored.TreeStoreStoredDomains.span_count.Goals as goal

pub returns-clause-count : goal.returns-clause-count
returns-clause-count c = let s = c.args.self.now in count-by _ _ _ (sym (domain_is (trees_of s.atoms s.present) s.present c.args.n)) c.span_count.ensures.count

pub returns-clause-domain : goal.returns-clause-domain
returns-clause-domain c = let s = c.args.self.now in domain-by _ _ (sym (domain_is (trees_of s.atoms s.present) s.present c.args.n)) c.span_count.ensures.domain
