use Rattle.std.proofs.Common.{map, ◌-◌, Bor}
use Rattle.pi_terms.specs.Tree.{Tree}
use Rattle.pi_plan.proofs.WrittenLemmas.{ListWritten}
use Rattle.pi_plan.proofs.written.list_of.Given as goal

abbrev pub invariant-loop-i : goal.invariant-loop-i
invariant-loop-i l = ListWritten l.cells.items (map (λ (a : Bor Tree). a.now) l.actions) (l.count - l.i)
