use Rattle.pi_store_blocks.specs.Built.{Putting}
use Rattle.pi_store.specs.Holding.{seen}
use Rattle.pi_store.proofs.store.RawStore.put_term.Given as goal

abbrev pub invariant-loop-i : goal.invariant-loop-i
invariant-loop-i l = Putting (seen l.initial.self) (seen l.self) l.t l.i l.built.items

abbrev pub decreases-loop-i : goal.decreases-loop-i
decreases-loop-i l = l.i
