use Rattle.pi_label_laws.proofs.PostedLemmas.{without_constraints_may_be_labelled, postings_may_be_labelled}
use Rattle.pi_label_laws.proofs.laws.labelling.postings_may_be_labelled.Goals as goal

pub returns-clause-empty : goal.returns-clause-empty
returns-clause-empty c = without_constraints_may_be_labelled

pub returns-clause-posted : goal.returns-clause-posted
returns-clause-posted c = postings_may_be_labelled
