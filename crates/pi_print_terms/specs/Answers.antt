-- The domains of an answer by their variables.
use Rattle.std.specs.Prelude.{◌≡◌, ℕ, List, nat_eq, option_copied}
use Rattle.std.specs.Borrow.{Bor}
use Rattle.std.specs.HashMap.{HashMap, get}
use Rattle.pi_print_terms.specs.PrintAnswer.{domain_of}
use Rattle.pi_constraints.specs.declared.var_domain.VarDomain.{VarDomain}
use Rattle.pi_constraints.specs.declared.domain.Span.{Span}

-- the table has the domain of each variable
pub record HasDomains {S : Type 0} (domains : List VarDomain) (by_var : HashMap ℕ (Bor (List Span)) S) : Type 0 where
  pub domain : (n : ℕ) → option_copied (get nat_eq by_var n) ≡ domain_of domains n
