use Rattle.std.proofs.Common.{◌≡◌, ◌+◌, ◌*◌, ◌++◌, drop}
use Rattle.pi_store_blocks.specs.Terms.{terms_of}
use Rattle.pi_store_blocks.proofs.constraints.terms.read_terms.Given as goal

abbrev pub invariant-loop-k : goal.invariant-loop-k
invariant-loop-k l = l.terms ++ terms_of (drop (l.from + 2 * l.k) l.block) ≡ terms_of (drop l.from l.block)
