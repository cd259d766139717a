use Rattle.pi_store_blocks.proofs.DomainLemmas.{back, are_domains}
use Rattle.pi_store_blocks.proofs.laws.domains_read_back.Goals as goal

pub returns-clause-back : goal.returns-clause-back
returns-clause-back c = back

pub returns-clause-domains : goal.returns-clause-domains
returns-clause-domains c = are_domains
