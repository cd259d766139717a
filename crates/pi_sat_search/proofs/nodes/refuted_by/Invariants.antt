use Rattle.std.proofs.Common.{◌≢◌, ℕ, ◌<◌, []}
use Rattle.pi_sat_spec.specs.Domains.{allowed}
use Rattle.pi_sat_spec.specs.Logs.{lemma_at}
use Rattle.pi_sat_search.proofs.nodes.refuted_by.Given as goal

abbrev pub invariant-loop-number : goal.invariant-loop-number
invariant-loop-number l = (h : ℕ) → h < l.number → allowed l.present (lemma_at l.entries h) ≢ []
