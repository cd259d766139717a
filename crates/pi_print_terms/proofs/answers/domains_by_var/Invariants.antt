use Rattle.std.proofs.Common.{drop}
use Rattle.pi_print_terms.specs.Answers.{HasDomains}
use Rattle.pi_print_terms.proofs.answers.domains_by_var.Given as goal

abbrev pub invariant-loop-at : goal.invariant-loop-at
invariant-loop-at l = HasDomains (drop l.at l.domains) l.by_var
