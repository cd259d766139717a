use Rattle.std.proofs.Common.{◌≡◌, ◌++◌, drop}
use Rattle.std.specs.List.{flat_map}
use Rattle.pi_print_terms.specs.PrintAnswer.{domain_of, domain_line_if, domain_lines}
use Rattle.pi_print_terms.proofs.answers.write_domains.Given as goal

abbrev pub invariant-loop-var : goal.invariant-loop-var
invariant-loop-var l =
    l.lines ++ flat_map (λ n. domain_line_if l.printer.numbers n (domain_of l.domains n)) (drop l.var-index l.printer.numbers)
    ≡ l.initial.lines ++ domain_lines l.printer.numbers l.domains
