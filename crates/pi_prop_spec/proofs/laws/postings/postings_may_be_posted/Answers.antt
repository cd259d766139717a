use Rattle.pi_prop_spec.proofs.PostingLemmas.{postings_may_be_posted}
use Rattle.pi_prop_spec.proofs.laws.postings.postings_may_be_posted.Goals as goal

pub returns : goal.returns
returns c = record { may = postings_may_be_posted }
