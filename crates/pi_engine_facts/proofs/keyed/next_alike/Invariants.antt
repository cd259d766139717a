use Rattle.std.proofs.Common.{◌≡◌, ◌+◌, ◌≤◌, length, []}
use Rattle.pi_terms.specs.Tree.{Trees, comp}
use Rattle.pi_constraints.specs.State.{IsState}
use Rattle.pi_constraints.specs.Store.{IsTerm}
use Rattle.pi_engine_facts.specs.Keyed.{HaveKeys, NoneBetween}
use Rattle.pi_engine_facts.proofs.keyed.next_alike.Given as goal

-- none of the facts that were passed over unifies
abbrev pub invariant-loop-i : goal.invariant-loop-i
invariant-loop-i g l =
    (l.from ≤ l.number) × ((ts : Trees) → IsState (g.S.StateStore.seen l.s).now.state → IsTerm (g.S.StateStore.seen l.s) l.call (comp [] ts) → HaveKeys (g.S.StateStore.seen l.s).names l.facts.keys.now l.facts.predicate l.facts.clauses.now l.facts.first →
    l.facts.first ≤ l.from → l.facts.end ≡ l.facts.first + length l.facts.clauses.now → NoneBetween ts (g.S.StateStore.seen l.s).now.state l.facts.clauses.now l.facts.first l.from l.number)
