-- No entries are no terms.
use Rattle.std.specs.Prelude.{false}
use Rattle.pi_prop_made.proofs.TermLemmas.{kept_none, terms_none}
use Rattle.pi_prop_made.proofs.terms.Terms.new.Goals as goal

pub invariant_of-result : goal.invariant_of-result
invariant_of-result c = kept_none _ c.none.result c.new.ensures.empty c.none.ensures.plain c.none.ensures.negated

pub returns : goal.returns
returns c = terms_none false _ c.new.ensures.empty
