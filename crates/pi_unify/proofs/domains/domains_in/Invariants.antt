use Rattle.std.proofs.Common.{take}
use Rattle.pi_unify.specs.Domains.{HasMet}
use Rattle.pi_unify.specs.Domains.{occurring}
use Rattle.pi_unify.proofs.domains.domains_in.Given as goal

-- the variables of the first values were met
abbrev pub invariant-loop-named : goal.invariant-loop-named
invariant-loop-named g l = HasMet (g.S.StateStore.seen l.store).now.state (occurring (take l.named-index l.values)) l.met
