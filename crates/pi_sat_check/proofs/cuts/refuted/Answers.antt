use Rattle.std.proofs.lemmas.List.{get_or_default}
use Rattle.std.proofs.Common.{ap, ◌∙◌}
use Rattle.pi_sat_spec.specs.Domains.{cut}
use Rattle.pi_sat_spec.proofs.StepLemmas.{refuted-step, refuted-end}
use Rattle.pi_sat_check.proofs.cuts.refuted.Goals as goal

pub loop-literal-preserved : goal.loop-literal-preserved
loop-literal-preserved c = refuted-step c.loop-literal.present.items c.cut.new.present.items c.args.lemma.now c.loop-literal.literal-index _ _ c.loop-literal-test.true (get_or_default c.args.lemma.now c.loop-literal.literal-index _ _ c.loop-literal-test.true) (c.in_ok-cut.ensures ∙ ap (cut c.loop-literal.present.items) c.negated.ensures) c.loop-literal.invariant

pub returns : goal.returns
returns c = refuted-end c.loop-literal.present.items c.args.lemma.now c.loop-literal.literal-index _ c.loop-literal-test.false c.loop-literal.invariant
