use Rattle.pi_store.proofs.AddLemmas.{Along}
use Rattle.pi_store.proofs.lists.add_along.Given as goal

abbrev pub invariant-loop : goal.invariant-loop
invariant-loop l = Along l.initial.words l.words l.number l.extra l.fn.from l.at
