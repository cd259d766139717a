-- One more name.
use Rattle.std.proofs.Common.{[], sym, ◌∙◌}
use Rattle.pi_rewrite_slots.proofs.SlotLemmas.{sought-more, sought-found, sought-all}
use Rattle.pi_rewrite_slots.proofs.slots.place_of.Goals as goal

pub returns-then-eq : goal.returns-then-eq
returns-then-eq c = sought-found c.args.name.now c.args.names.now c.loop-k.k (record { ref_ptr = (0, 0); now = [] }) c.loop-k-test.true (sym c.eq.ensures ∙ c.if-eq.true) c.loop-k.invariant

pub loop-k-preserved : goal.loop-k-preserved
loop-k-preserved c = sought-more c.args.name.now c.args.names.now c.loop-k.k (record { ref_ptr = (0, 0); now = [] }) c.loop-k-test.true (sym c.eq.ensures ∙ c.if-eq.false) c.loop-k.invariant

pub returns : goal.returns
returns c = sought-all c.args.name.now c.args.names.now c.loop-k.k c.loop-k-test.false c.loop-k.invariant
