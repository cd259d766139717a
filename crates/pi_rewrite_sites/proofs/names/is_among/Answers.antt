-- One more name.
use Rattle.std.proofs.Common.{[], sym, ◌∙◌}
use Rattle.pi_rewrite_sites.proofs.NameLemmas.{among-found, among-more, among-none}
use Rattle.pi_rewrite_sites.proofs.names.is_among.Goals as goal

pub returns-then-eq : goal.returns-then-eq
returns-then-eq c = among-found c.args.name.now c.args.names.now c.loop-other.other-index (record { ref_ptr = (0, 0); now = [] }) c.loop-other-test.true (sym c.eq.ensures ∙ c.if-eq.true) c.loop-other.invariant

pub loop-other-preserved : goal.loop-other-preserved
loop-other-preserved c = among-more c.args.name.now c.args.names.now c.loop-other.other-index (record { ref_ptr = (0, 0); now = [] }) c.loop-other-test.true (sym c.eq.ensures ∙ c.if-eq.false) c.loop-other.invariant

pub returns : goal.returns
returns c = among-none c.args.name.now c.args.names.now c.loop-other.other-index c.loop-other-test.false c.loop-other.invariant
