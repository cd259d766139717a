use Rattle.std.proofs.Common.{◌++◌, ◌∙◌, ap, rules}
use Rattle.std.specs.Fmt.{signed_decimal}
use Rattle.std.specs.String.{string_bytes}
use Rattle.pi_syntax.specs.PrintTerm.{written}
use Rattle.pi_print_terms.specs.Ahead.{built, count_of}
use Rattle.pi_print_terms.proofs.PrinterLemmas.{leaf, written_var, written_int, written_atom}
use Rattle.pi_print_terms.proofs.printer.Printer.value.Goals as goal

pub returns-in_ok-var-in-Var-clause-ok : goal.returns-in_ok-var-in-Var-clause-ok
returns-in_ok-var-in-Var-clause-ok c =
    leaf c.args.self.now.is_quoted c.args.self.now.numbers c.args.head _ _ _ _ _ (ap (λ h. written c.args.self.now.is_quoted c.args.self.now.numbers (built h c.args.todo.now.ahead)) c.in-Var.is ∙ written_var _ _ _) (ap count_of c.in-Var.is) c.in_ok-var-in-Var.ensures.ok

pub returns-in_ok-write-in-Int-clause-ok : goal.returns-in_ok-write-in-Int-clause-ok
returns-in_ok-write-in-Int-clause-ok c =
    leaf c.args.self.now.is_quoted c.args.self.now.numbers c.args.head _ _ _ _ _ (ap (λ h. written c.args.self.now.is_quoted c.args.self.now.numbers (built h c.args.todo.now.ahead)) c.in-Int.is ∙ written_int _ _ _) (ap count_of c.in-Int.is)
    (c.in_ok-write-in-Int.ensures.bytes ∙ ap (λ n. string_bytes c.args.out.now ++ signed_decimal n) (search rules))

pub returns-in_ok-atom-in-Atom-clause-ok : goal.returns-in_ok-atom-in-Atom-clause-ok
returns-in_ok-atom-in-Atom-clause-ok c =
    leaf c.args.self.now.is_quoted c.args.self.now.numbers c.args.head _ _ _ _ _ (ap (λ h. written c.args.self.now.is_quoted c.args.self.now.numbers (built h c.args.todo.now.ahead)) c.in-Atom.is ∙ written_atom _ _ _) (ap count_of c.in-Atom.is) c.in_ok-atom-in-Atom.ensures.ok
