use Rattle.pi_store.proofs.SinceLemmas.{GoesOn}
use Rattle.pi_store.proofs.since.changed_since.Given as goal

abbrev pub invariant-loop-n : goal.invariant-loop-n
invariant-loop-n l = GoesOn l.words l.count l.initial.n-iterator l.found l.n-iterator
