use Rattle.pi_traces.proofs.TraceLemmas.{emit-append}
use Rattle.pi_traces.proofs.CutLemmas.{cut-prefix, cut-emit, cut-at_tick, cut-all, cuts-tell, cut-below, depths-agree}
use Rattle.pi_traces.proofs.laws.cuts.Goals as goal

pub returns-clause-emitted : goal.returns-clause-emitted
returns-clause-emitted g c = emit-append

pub returns-clause-prefix : goal.returns-clause-prefix
returns-clause-prefix g c = cut-prefix

pub returns-clause-over_events : goal.returns-clause-over_events
returns-clause-over_events g c = cut-emit

pub returns-clause-at_tick : goal.returns-clause-at_tick
returns-clause-at_tick g c = cut-at_tick

pub returns-clause-all : goal.returns-clause-all
returns-clause-all g c = cut-all

pub returns-clause-known : goal.returns-clause-known
returns-clause-known g c = cuts-tell

pub returns-clause-below : goal.returns-clause-below
returns-clause-below g c = cut-below

pub returns-clause-depths : goal.returns-clause-depths
returns-clause-depths g c = depths-agree
