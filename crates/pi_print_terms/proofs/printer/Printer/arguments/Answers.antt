use Rattle.std.proofs.Common.{◌++◌, ◌∙◌, ap, arith, lit<}
use Rattle.std.proofs.lemmas.Str.{encode_ascii}
use Rattle.std.specs.String.{string_bytes}
use Rattle.pi_terms.specs.Tree.{cells_all}
use Rattle.pi_print_terms.specs.Tasks.{tasks_text}
use Rattle.pi_print_terms.proofs.PrinterLemmas.{arguments_zero, arguments_none, arguments_some}
use Rattle.pi_print_terms.proofs.printer.Printer.arguments.Goals as goal

pub returns-then-count-eq0-clause-ok : goal.returns-then-count-eq0-clause-ok
returns-then-count-eq0-clause-ok c = arguments_zero _ _ _ _ _ _ _ _ c.if-count-eq0.true c.in_ok-push.ensures.bytes

pub returns-in_default-clause-ok : goal.returns-in_default-clause-ok
returns-in_default-clause-ok c =
    ap (λ ts. string_bytes c.push-in_default.new.self ++ tasks_text c.args.self.now.is_quoted c.args.self.now.numbers c.args.todo.now.tasks.items ts) c.in_default.ensures.kept
    ∙ arguments_none _ _ _ _ _ _ _ _ c.in_default.ensures.root c.in_ok-push-2.ensures.bytes

pub returns-in_default-clause-less : goal.returns-in_default-clause-less
returns-in_default-clause-less c = omega (arith, ap cells_all c.in_default.ensures.kept)

pub returns-clause-ok : goal.returns-clause-ok
returns-clause-ok c =
    arguments_some c.args.self.now.is_quoted c.args.self.now.numbers c.args.todo.now.tasks.items c.args.count c.args.close _ _ _ _ _ _ c.if-count-eq0.false c.in-Some.ensures.root
    (c.in_ok-push-3.ensures.bytes ∙ ap (λ r. string_bytes c.args.out.now ++ r) (encode_ascii 44 (lit< tt)))
    (rw c.in_ok-push-4.ensures.items at c.in_ok-value.ensures.ok)
