use Rattle.std.proofs.Common.{◌≡◌, suc}
use Rattle.std.specs.String.{string_bytes}
use Rattle.pi_rewrite.specs.Built.{tildes}
use Rattle.pi_rewrite.proofs.naming.longer_than.Given as goal

abbrev pub invariant-loop-i : goal.invariant-loop-i
invariant-loop-i l = string_bytes l.prefix ≡ tildes (suc l._i)
