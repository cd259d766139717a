use Rattle.std.proofs.Common.{◌+◌, ◌*◌, length}
use Rattle.pi_expr_phrases.specs.Machine.{State, begin}
use Rattle.pi_expr_phrases.specs.Shown.{terminals}
use Rattle.pi_expr.specs.States.{ShowsState}
use Rattle.pi_expr.proofs.ReaderLemmas.{Same, left}
use Rattle.pi_expr.proofs.reader.read.Given as goal

abbrev pub invariant-steps : goal.invariant-steps
invariant-steps l = (s : State) × (ShowsState l.stack.items l.state s × Same (begin (terminals l.ts)) s)

abbrev pub decreases-steps : goal.decreases-steps
decreases-steps l = 2 * left l.state + length l.stack.items
