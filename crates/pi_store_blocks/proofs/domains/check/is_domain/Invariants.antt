use Rattle.std.proofs.Common.{◌≡◌, drop}
use Rattle.pi_store_blocks.specs.Domain.{is_domain, ascend_from}
use Rattle.pi_store_blocks.proofs.domains.check.is_domain.Given as goal

abbrev pub invariant-loop-span : goal.invariant-loop-span
invariant-loop-span l = is_domain l.spans ≡ ascend_from l.least (drop l.span-index l.spans)
