use Rattle.std.proofs.Common.{◌++◌, ◌∙◌, ap, arith, lit<}
use Rattle.std.proofs.lemmas.Str.{encode_ascii}
use Rattle.std.specs.String.{string_bytes}
use Rattle.pi_terms.specs.Tree.{cells_all}
use Rattle.pi_print_terms.proofs.WritingLemmas.{matched_some, matched_none}
use Rattle.pi_print_terms.proofs.PrinterLemmas.{list_characters, list_items, dropped-le}
use Rattle.pi_print_terms.proofs.printer.Printer.list.Goals as goal

pub returns-in-Some-clause-ok : goal.returns-in-Some-clause-ok
returns-in-Some-clause-ok c =
    let f = matched_some _ _ _ _ c.in_ok-found.ensures.ok c.in-Some.is in
    list_characters c.args.self.now.is_quoted c.args.self.now.numbers c.args.todo.now.tasks.items c.args.todo.now.ahead _ _ _ _ f.0 f.1.proper f.1.text f.1.behind
    (c.in_ok-push_str.ensures.bytes ∙ ap (λ r. string_bytes c.args.out.now ++ r) c.as_str.ensures.value)

pub returns-in-Some-clause-fewer : goal.returns-in-Some-clause-fewer
returns-in-Some-clause-fewer c =
    let f = matched_some _ _ _ _ c.in_ok-found.ensures.ok c.in-Some.is in
    omega (arith, dropped-le 2 c.args.todo.now.ahead, ap cells_all f.1.behind)

pub returns-clause-ok : goal.returns-clause-ok
returns-clause-ok c =
    rw (c.in_ok-push-3.ensures.items, c.in_ok-push-2.ensures.items)
    (list_items c.args.self.now.is_quoted c.args.self.now.numbers c.args.todo.now.tasks.items c.args.todo.now.ahead _ _ c.requires (matched_none _ _ _ c.in_ok-found.ensures.ok c.in_default.is)
    (c.in_ok-push.ensures.bytes ∙ ap (λ r. string_bytes c.args.out.now ++ r) (encode_ascii 91 (lit< tt))))
