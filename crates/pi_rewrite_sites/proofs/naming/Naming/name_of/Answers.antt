-- What is written of a number that 64 bits hold are its digits.
use Rattle.std.proofs.Common.{rules, ◌≡◌, ◌++◌, ◌∙◌, ap, arith}
use Rattle.std.specs.Fmt.{decimal}
use Rattle.pi_rewrite_sites.proofs.DigitLemmas.{written-digits}
use Rattle.pi_rewrite_sites.proofs.naming.Naming.name_of.Goals as goal

pub returns : goal.returns
returns c =
    let written : c.in_ok-made.made ≡ c.args.self.now.prefix ++ decimal c.args.number = search rules in
    written ∙ ap (λ ds. c.args.self.now.prefix ++ ds) (written-digits c.args.number (omega arith))
