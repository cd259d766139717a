use Rattle.std.proofs.Common.{ℕ, List}
use Rattle.pi_terms.specs.Tree.{subterms}
use Rattle.pi_unify.specs.Domains.{HasMet}
use Rattle.pi_unify.proofs.DomainsLemmas.{before_node}
use Rattle.pi_unify.proofs.domains.meet_all.Given as goal

-- the variables of the first nodes were met
abbrev pub invariant-loop-i : goal.invariant-loop-i
invariant-loop-i g l = (ns : List ℕ) → HasMet (g.S.StateStore.seen l.store).now.state ns l.fn.met → HasMet (g.S.StateStore.seen l.store).now.state (before_node ns (subterms l.term) l.i) l.met
