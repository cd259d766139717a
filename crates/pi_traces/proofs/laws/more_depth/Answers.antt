use Rattle.pi_traces.proofs.BelowLemmas.{below-refl, below-trans, below-antisym, below-whole, depth-enough, below-alt, below-then, below-first, below-negated, below-chosen, below-collected, below-counted, below-caught, below-emit, below-events}
use Rattle.pi_traces.proofs.laws.more_depth.Goals as goal

pub returns-clause-reflexive : goal.returns-clause-reflexive
returns-clause-reflexive g c = below-refl

pub returns-clause-transitive : goal.returns-clause-transitive
returns-clause-transitive g c = below-trans

pub returns-clause-antisymmetric : goal.returns-clause-antisymmetric
returns-clause-antisymmetric g c = below-antisym

pub returns-clause-whole : goal.returns-clause-whole
returns-clause-whole g c = below-whole

pub returns-clause-enough : goal.returns-clause-enough
returns-clause-enough g c = depth-enough

pub returns-clause-alternatives : goal.returns-clause-alternatives
returns-clause-alternatives g c = below-alt

pub returns-clause-follows : goal.returns-clause-follows
returns-clause-follows g c = below-then

pub returns-clause-first : goal.returns-clause-first
returns-clause-first g c = below-first

pub returns-clause-negated : goal.returns-clause-negated
returns-clause-negated g c = below-negated

pub returns-clause-chosen : goal.returns-clause-chosen
returns-clause-chosen g c = below-chosen

pub returns-clause-collected : goal.returns-clause-collected
returns-clause-collected g c = below-collected

pub returns-clause-counted : goal.returns-clause-counted
returns-clause-counted g c = below-counted

pub returns-clause-caught : goal.returns-clause-caught
returns-clause-caught g c = below-caught

pub returns-clause-emitted : goal.returns-clause-emitted
returns-clause-emitted g c = below-emit

pub returns-clause-events : goal.returns-clause-events
returns-clause-events g c = below-events
