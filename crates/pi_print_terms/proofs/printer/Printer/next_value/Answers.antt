use Rattle.std.proofs.Common.{◌++◌, ◌∙◌, ap, arith}
use Rattle.std.specs.String.{string_bytes}
use Rattle.pi_terms.specs.Tree.{cells_all}
use Rattle.pi_print_terms.specs.Tasks.{tasks_text}
use Rattle.pi_print_terms.proofs.PrinterLemmas.{value_none, value_some}
use Rattle.pi_print_terms.proofs.printer.Printer.next_value.Goals as goal

pub returns-in_default-clause-ok : goal.returns-in_default-clause-ok
returns-in_default-clause-ok c =
    ap (λ r. string_bytes c.args.out.now ++ r) (ap (λ ts. tasks_text c.args.self.now.is_quoted c.args.self.now.numbers c.args.todo.now.tasks.items ts) c.in_default.ensures.kept
    ∙ value_none _ _ _ _ c.in_default.ensures.root)

pub returns-in_default-clause-less : goal.returns-in_default-clause-less
returns-in_default-clause-less c = omega (arith, ap cells_all c.in_default.ensures.kept)

pub returns-clause-ok : goal.returns-clause-ok
returns-clause-ok c = c.in_ok-value.ensures.ok ∙ ap (λ r. string_bytes c.args.out.now ++ r) (value_some _ _ _ _ _ _ c.in-Some.ensures.root)
