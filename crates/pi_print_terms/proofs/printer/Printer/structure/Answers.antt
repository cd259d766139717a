use Rattle.std.specs.String.{string_bytes}
use Rattle.pi_print_terms.proofs.PrinterLemmas.{structure_none, structure_some}
use Rattle.pi_print_terms.proofs.printer.Printer.structure.Goals as goal

pub returns-then-count-eq0-clause-ok : goal.returns-then-count-eq0-clause-ok
returns-then-count-eq0-clause-ok c =
    structure_none c.args.self.now.is_quoted c.args.self.now.numbers c.args.todo.now.tasks.items c.args.name.now c.args.count c.in_ok-close.close c.args.todo.now.ahead (string_bytes c.args.out.now) _ _ c.if-count-eq0.true c.in_ok-close.ensures.ok c.in_ok-push.ensures.bytes

pub returns-clause-ok : goal.returns-clause-ok
returns-clause-ok c =
    rw (c.in_ok-push-3.ensures.items, c.in_ok-push-2.ensures.items)
    (structure_some c.args.self.now.is_quoted c.args.self.now.numbers c.args.todo.now.tasks.items c.args.name.now c.args.count c.in_ok-close.close c.args.todo.now.ahead (string_bytes c.args.out.now) _ c.if-count-eq0.false c.in_ok-close.ensures.ok)
