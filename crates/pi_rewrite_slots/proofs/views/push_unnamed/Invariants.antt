use Rattle.pi_rewrite_slots.proofs.ViewLemmas.{UnnamedTo}
use Rattle.pi_rewrite_slots.proofs.views.push_unnamed.Given as goal

abbrev pub invariant-loop : goal.invariant-loop
invariant-loop l = UnnamedTo l.initial.names.items l.counter l.names.items
