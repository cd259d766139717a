use Rattle.std.proofs.Common.{[], ◌-◌}
use Rattle.pi_terms.specs.Tree.{Trees, comp}
use Rattle.pi_constraints.specs.State.{IsState}
use Rattle.pi_constraints.specs.Store.{IsTerm}
use Rattle.pi_engine_facts.specs.Keyed.{HaveKeys}
use Rattle.pi_engine_facts.proofs.TryingLemmas.{Tried}
use Rattle.pi_engine_facts.proofs.trying.next_unifying.Given as goal

-- none of the facts before a number unifies
abbrev pub invariant-loop-number : goal.invariant-loop-number
invariant-loop-number g l =
    (ts : Trees) → IsState (g.S.StateStore.seen l.initial.s).now.state → IsTerm (g.S.StateStore.seen l.initial.s) l.call (comp [] ts) →
    Tried (HaveKeys (g.S.StateStore.seen l.initial.s).names l.facts.keys.now l.facts.predicate l.facts.clauses.now l.facts.first) (g.S.StateStore.seen l.initial.s) (g.S.StateStore.seen l.s) ts l.facts.clauses.now l.facts.first l.from l.facts.end l.number

abbrev pub decreases-loop-number : goal.decreases-loop-number
decreases-loop-number g l = l.end - l.number
