use Rattle.pi_store.proofs.ScanLemmas.{Scanned}
use Rattle.pi_store.proofs.posted.posted_on.Given as goal

abbrev pub invariant-loop-n : goal.invariant-loop-n
invariant-loop-n l = Scanned l.words l.v l.n-items l.n-index l.least l.found
