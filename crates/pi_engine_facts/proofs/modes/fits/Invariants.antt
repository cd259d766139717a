use Rattle.pi_terms.specs.Tree.{Trees}
use Rattle.pi_constraints.specs.Value.{IsAcyclic}
use Rattle.pi_constraints.specs.State.{bindings}
use Rattle.pi_constraints.specs.Store.{AreTerms}
use Rattle.pi_engine_facts.proofs.ModeLemmas.{FitsOn}
use Rattle.pi_engine_facts.proofs.modes.fits.Given as goal

-- the places before a number fit
abbrev pub invariant-loop-i : goal.invariant-loop-i
invariant-loop-i g l =
    (ts : Trees) → IsAcyclic (bindings (g.S.StateStore.seen l.s).now.state) → AreTerms (g.S.StateStore.seen l.s) l.args ts → FitsOn (bindings (g.S.StateStore.seen l.s).now.state) l.modes ts l.i
