use Rattle.std.proofs.Common.{◌≡◌, true, neg_ℤ}
use Rattle.pi_constraints.specs.declared.domain.TheConstants.{MAX_VALUE}
use Rattle.pi_store_blocks.specs.Domain.{ascend_from}
use Rattle.pi_store_blocks.proofs.DomainLemmas.{test_is, none_is_domain}
use Rattle.pi_store_blocks.proofs.domains.read.read_domain.Goals as goal

pub new-requires : goal.new-requires
new-requires c = let e : ascend_from (neg_ℤ MAX_VALUE) c.in_ok-spans.spans.items ≡ true = cc in test_is (neg_ℤ MAX_VALUE) c.in_ok-spans.spans.items e

pub new-requires-3 : goal.new-requires-3
new-requires-3 c = none_is_domain c.new-2.result.items c.new-2.ensures.items
