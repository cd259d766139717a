use Rattle.std.proofs.Common.{ap, sym, ◌∙◌}
use Rattle.pi_print_terms.specs.Numbers.{noted_all}
use Rattle.pi_terms.specs.Variables.{occurrences_all}
use Rattle.pi_print_terms.proofs.NumberLemmas.{noted_ahead, occurrences_whole, occurrences_none, noted_none}
use Rattle.pi_print_terms.proofs.numbers.meet_term.Goals as goal

pub loop-head-init : goal.loop-head-init
loop-head-init c = ap (noted_all c.args.numbers.now) (ap occurrences_all c.new-ahead.ensures ∙ occurrences_whole c.args.term.now)

pub loop-head-preserved : goal.loop-head-preserved
loop-head-preserved c = noted_ahead _ _ _ _ _ c.in-Some.ensures.root c.in_ok-meet_root.ensures.ok ∙ c.loop-head.invariant

pub returns : goal.returns
returns c = record { ok = sym (noted_none c.loop-head.numbers) ∙ (ap (noted_all c.loop-head.numbers) (sym (ap occurrences_all c.in_default.ensures.root ∙ occurrences_none)) ∙ c.loop-head.invariant) }
