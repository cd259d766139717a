use Rattle.std.proofs.Common.{take}
use Rattle.pi_sat_spec.specs.Domains.{allowed}
use Rattle.pi_sat_search.specs.LemmaStates.{ShowsState}
use Rattle.pi_sat_search.proofs.hints.state_of.Given as goal

abbrev pub invariant-loop-literal : goal.invariant-loop-literal
invariant-loop-literal l = ShowsState l.found (allowed l.present (take l.literal-index l.lemma))
