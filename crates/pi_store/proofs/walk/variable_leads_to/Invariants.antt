use Rattle.std.proofs.Common.{◌≡◌, ◌-◌, length}
use Rattle.pi_store.specs.Walk.{leads_for, leads_at}
use Rattle.pi_store.proofs.walk.variable_leads_to.Given as goal

abbrev pub invariant-loop : goal.invariant-loop
invariant-loop l = leads_for (length l.words.variables - l.counter) l.words.variables l.at l.v ≡ leads_at l.words.variables l.fn.n l.v
