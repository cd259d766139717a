use Rattle.std.proofs.Common.{sym, ◌∙◌}
use Rattle.std.proofs.lemmas.Bool.{false≢true}
use Rattle.pi_prop_filters.proofs.LeftLemmas.{sum_apart}
use Rattle.pi_prop_filters.proofs.ApartLemmas.{new_none, new_more, new_all, reified_apart}
use Rattle.pi_prop_filters.proofs.apart.is_truth_apart.Goals as goal

pub loop-i-init : goal.loop-i-init
loop-i-init c = new_none c.args.terms.now c.args.truth

pub loop-i-preserved : goal.loop-i-preserved
loop-i-preserved c = new_more c.args.terms.now c.loop-i.i c.args.truth c.loop-i-test.true (λ e. false≢true (sym c.if-is_variable.false ∙ c.is_variable.ensures.1 e)) c.loop-i.invariant

pub returns : goal.returns
returns c = λ t. reified_apart c.args.truth c.args.terms.now (sum_apart c.args.terms.now c.requires) (new_all c.args.terms.now c.loop-i.i c.args.truth c.loop-i-test.false c.loop-i.invariant)
