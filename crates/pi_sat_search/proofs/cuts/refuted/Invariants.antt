use Rattle.std.proofs.Common.{◌≡◌, drop}
use Rattle.pi_sat_spec.specs.Domains.{refuted}
use Rattle.pi_sat_search.proofs.cuts.refuted.Given as goal

abbrev pub invariant-loop-literal : goal.invariant-loop-literal
invariant-loop-literal l = refuted l.present.items (drop l.literal-index l.lemma) ≡ refuted l.domains l.lemma
