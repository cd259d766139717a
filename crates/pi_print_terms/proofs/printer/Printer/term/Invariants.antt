use Rattle.std.proofs.Common.{◌≡◌, ◌++◌}
use Rattle.std.specs.String.{string_bytes}
use Rattle.pi_syntax.specs.PrintTerm.{written}
use Rattle.pi_print_terms.specs.Tasks.{tasks_text, to_do}
use Rattle.pi_print_terms.proofs.printer.Printer.term.Given as goal

abbrev pub invariant-loop-task : goal.invariant-loop-task
invariant-loop-task l =
    string_bytes l.out ++ tasks_text l.self.is_quoted l.self.numbers l.todo.tasks.items l.todo.ahead
    ≡ string_bytes l.fn.out ++ written l.self.is_quoted l.self.numbers l.term

abbrev pub decreases-loop-task : goal.decreases-loop-task
decreases-loop-task l = to_do l.todo
