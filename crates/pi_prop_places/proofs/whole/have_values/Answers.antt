use Rattle.std.proofs.Common.{sym, ◌∙◌}
use Rattle.std.proofs.lemmas.Bool.{false≢true}
use Rattle.pi_prop_places.proofs.WholeLemmas.{one_more}
use Rattle.pi_prop_places.proofs.whole.have_values.Goals as goal

pub loop-k-preserved : goal.loop-k-preserved
loop-k-preserved g c = one_more (g.P.Places.domains c.args.places.now) c.loop-k.k (λ e. false≢true (sym c.if-is_empty.false ∙ c.is_empty.ensures.1 e)) c.loop-k.invariant
