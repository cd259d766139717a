use Rattle.std.proofs.Common.{refl}
use Rattle.pi_traces.specs.Trace.{alt, then}
use Rattle.pi_traces.proofs.TraceLemmas.{alt-done, alt-assoc, then-one, then-assoc, then-alt}
use Rattle.pi_traces.proofs.laws.sequences.Goals as goal

pub returns-clause-done_before : goal.returns-clause-done_before
unfolding alt
returns-clause-done_before g c = λ t. refl

pub returns-clause-done_after : goal.returns-clause-done_after
returns-clause-done_after g c = alt-done

pub returns-clause-alternatives : goal.returns-clause-alternatives
returns-clause-alternatives g c = alt-assoc

pub returns-clause-of_one : goal.returns-clause-of_one
unfolding alt then
returns-clause-of_one g c = λ x f. alt-done (f x)

pub returns-clause-one : goal.returns-clause-one
returns-clause-one g c = then-one

pub returns-clause-follows : goal.returns-clause-follows
returns-clause-follows g c = then-assoc

pub returns-clause-over_alternatives : goal.returns-clause-over_alternatives
returns-clause-over_alternatives g c = then-alt
