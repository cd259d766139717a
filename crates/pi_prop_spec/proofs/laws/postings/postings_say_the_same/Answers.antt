use Rattle.pi_prop_spec.proofs.PostingLemmas.{operands_have_their_values, postings_say_the_same, new_values_are_given}
use Rattle.pi_prop_spec.proofs.laws.postings.postings_say_the_same.Goals as goal

pub returns-clause-says : goal.returns-clause-says
returns-clause-says c = postings_say_the_same

pub returns-clause-given : goal.returns-clause-given
returns-clause-given c = new_values_are_given

pub returns-clause-operands : goal.returns-clause-operands
returns-clause-operands c = operands_have_their_values
