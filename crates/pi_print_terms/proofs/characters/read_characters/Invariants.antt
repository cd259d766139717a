use Rattle.std.specs.String.{string_bytes}
use Rattle.pi_terms.specs.Tree.{cells_all}
use Rattle.pi_print_terms.specs.Roots.{SameList}
use Rattle.pi_print_terms.proofs.characters.read_characters.Given as goal

abbrev pub invariant-loop-name : goal.invariant-loop-name
invariant-loop-name l = SameList l.ahead (string_bytes l.text) l.behind

abbrev pub decreases-loop-name : goal.decreases-loop-name
decreases-loop-name l = cells_all l.behind
