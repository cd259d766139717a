use Rattle.pi_prop_spec.proofs.CoefficientLemmas.{coefficients_add, coefficients_scale, coefficients_tell_terms}
use Rattle.pi_prop_spec.proofs.laws.postings.terms_are_coefficients.Goals as goal

pub returns-clause-add : goal.returns-clause-add
returns-clause-add c = coefficients_add

pub returns-clause-scale : goal.returns-clause-scale
returns-clause-scale c = coefficients_scale

pub returns-clause-tell : goal.returns-clause-tell
returns-clause-tell c = coefficients_tell_terms
