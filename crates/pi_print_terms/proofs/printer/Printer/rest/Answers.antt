use Rattle.std.proofs.Common.{◌++◌, ◌∙◌, ap, sym, arith, lit<}
use Rattle.std.proofs.lemmas.Str.{encode_ascii}
use Rattle.std.specs.String.{string_bytes}
use Rattle.pi_terms.specs.Tree.{cells_all}
use Rattle.pi_print_terms.specs.Tasks.{tasks_text}
use Rattle.pi_print_terms.proofs.PrinterLemmas.{rest_none, rest_nil, rest_cell, rest_tail}
use Rattle.pi_print_terms.proofs.printer.Printer.rest.Goals as goal

pub returns-in_default-clause-ok : goal.returns-in_default-clause-ok
returns-in_default-clause-ok c =
    ap (λ r. string_bytes c.args.out.now ++ r) (ap (λ ts. tasks_text c.args.self.now.is_quoted c.args.self.now.numbers c.args.todo.now.tasks.items ts) c.in_default.ensures.kept
    ∙ rest_none _ _ _ _ c.in_default.ensures.root)

pub returns-in_default-clause-less : goal.returns-in_default-clause-less
returns-in_default-clause-less c = omega (arith, ap cells_all c.in_default.ensures.kept)

pub returns-then-is_nil-clause-ok : goal.returns-then-is_nil-clause-ok
returns-then-is_nil-clause-ok c =
    rest_nil c.args.self.now.is_quoted c.args.self.now.numbers c.args.todo.now.tasks.items c.in-Some.head _ _ _ _ c.in-Some.ensures.root (sym c.is_nil.ensures ∙ c.if-is_nil.true)
    (c.in_ok-push.ensures.bytes ∙ ap (λ r. string_bytes c.args.out.now ++ r) (encode_ascii 93 (lit< tt)))

pub returns-then-is_cell-clause-ok : goal.returns-then-is_cell-clause-ok
returns-then-is_cell-clause-ok c =
    rw (c.in_ok-push-4.ensures.items, c.in_ok-push-3.ensures.items)
    (rest_cell c.args.self.now.is_quoted c.args.self.now.numbers c.args.todo.now.tasks.items c.in-Some.head _ _ _ _ c.in-Some.ensures.root c.in-Some.ensures.arguments (sym c.is_cell.ensures ∙ c.if-is_cell.true)
    (c.in_ok-push-2.ensures.bytes ∙ ap (λ r. string_bytes c.args.out.now ++ r) (encode_ascii 44 (lit< tt))))

pub returns-clause-ok : goal.returns-clause-ok
returns-clause-ok c =
    rest_tail c.args.self.now.is_quoted c.args.self.now.numbers c.args.todo.now.tasks.items c.in-Some.head _ _ _ _ _ 93 c.in-Some.ensures.root c.in-Some.ensures.arguments
    (sym c.is_cell.ensures ∙ c.if-is_cell.false) (sym c.is_nil.ensures ∙ c.if-is_nil.false)
    (c.in_ok-push-5.ensures.bytes ∙ ap (λ r. string_bytes c.args.out.now ++ r) (encode_ascii 124 (lit< tt))) (encode_ascii 93 (lit< tt))
    (rw c.in_ok-push-6.ensures.items at c.in_ok-value.ensures.ok)
