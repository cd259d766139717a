use Rattle.pi_prog.proofs.reading.VariableLemmas.{holds_more}
use Rattle.pi_prog.proofs.reading.variables.add_name.Goals as goal

pub returns-in_ok-insert-in-Var : goal.returns-in_ok-insert-in-Var
returns-in_ok-insert-in-Var c = λ names held.
    rw c.in-Var.is (holds_more _ _ _ _ names c.in_ok-insert-in-Var.ensures.added c.in_ok-insert-in-Var.ensures.keys c.in_ok-insert-in-Var.ensures.len held)
