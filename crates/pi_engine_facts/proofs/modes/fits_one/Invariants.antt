use Rattle.pi_terms.specs.Tree.{Trees}
use Rattle.pi_constraints.specs.Value.{IsAcyclic}
use Rattle.pi_constraints.specs.State.{bindings}
use Rattle.pi_constraints.specs.Store.{AreTerms}
use Rattle.pi_meaning.specs.CoreMeaning.Facts.{fits_modes}
use Rattle.pi_engine_facts.proofs.ModeLemmas.{NoneFits}
use Rattle.pi_engine_facts.proofs.modes.fits_one.Given as goal

-- none of the lists before a number fits
abbrev pub invariant-loop-i : goal.invariant-loop-i
invariant-loop-i g l =
    (ts : Trees) → IsAcyclic (bindings (g.S.StateStore.seen l.s).now.state) → AreTerms (g.S.StateStore.seen l.s) l.args ts → NoneFits (λ modes. fits_modes (bindings (g.S.StateStore.seen l.s).now.state) modes ts) l.lists l.i
