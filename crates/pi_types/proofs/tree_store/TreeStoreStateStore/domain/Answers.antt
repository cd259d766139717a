use Rattle.pi_types.proofs.TreeStoreBinds.{domain_found, no_domain}
use Rattle.pi_types.proofs.tree_store.TreeStoreStateStore.domain.Goals as goal

pub returns : goal.returns
returns c = λ t i a. let s = c.args.self.now in domain_found _ s.present _ c.in-Var.n c.in_ok-found.found (c.in-Var.ensures.shows t i a) c.in_ok-found.ensures

pub returns-in_default : goal.returns-in_default
returns-in_default c = λ t i a. let s = c.args.self.now in no_domain s.atoms s.earlier s.present s.is_kept _ c.look.result (c.look.ensures.shows t i a) (λ n e. c.in_default.not-Var n e)
