use Rattle.std.proofs.Common.{◌≡◌, drop}
use Rattle.pi_terms.specs.Tree.{subterms}
use Rattle.pi_rewrite_spec.specs.Values.{is_below}
use Rattle.pi_rewrite_slots.proofs.FlatLemmas.{all_below}
use Rattle.pi_rewrite_slots.proofs.flat.is_below.Given as goal

-- the cells that are left decide it
abbrev pub invariant-loop-i : goal.invariant-loop-i
invariant-loop-i l = all_below l.head (drop l.i (subterms l.term)) ≡ is_below l.head l.term
