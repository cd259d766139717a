use Rattle.std.proofs.Common.{ℕ, List, [], get_or, cond}
use Rattle.pi_meaning.specs.OverNames.Texts.{is_among}
use Rattle.pi_rewrite_spec.specs.Slots.{unnamed}
use Rattle.pi_rewrite_slots.specs.Indexed.{names_in}
use Rattle.pi_rewrite_slots.proofs.ViewLemmas.{mapped-none, mapped-more, mapped-all, found-name}
use Rattle.pi_rewrite_slots.proofs.views.names_only.Goals as goal

pub loop-name-init : goal.loop-name-init
loop-name-init c = mapped-none (λ (name : List ℕ). cond (is_among (names_in c.args.some.now) name) name unnamed) c.args.names.now c.new-made.result.items c.new-made.ensures.items

pub loop-name-preserved : goal.loop-name-preserved
loop-name-preserved c = mapped-more (λ (name : List ℕ). cond (is_among (names_in c.args.some.now) name) name unnamed) c.args.names.now c.loop-name.made.items c.push.new.self.items c.loop-name.name-index (record { ref_ptr = (0, 0); now = [] }) c.found.result c.loop-name-test.true c.in_ok-push.ensures.items (found-name (is_among (names_in c.args.some.now) (get_or c.args.names.now c.loop-name.name-index (record { ref_ptr = (0, 0); now = [] })).now) c.is_one_of-finds.result (get_or c.args.names.now c.loop-name.name-index (record { ref_ptr = (0, 0); now = [] })).now c.found.result.now c.is_one_of-finds.ensures c.found.ensures) c.loop-name.invariant

pub returns : goal.returns
returns c = mapped-all (λ (name : List ℕ). cond (is_among (names_in c.args.some.now) name) name unnamed) c.args.names.now c.loop-name.made.items c.loop-name.name-index c.loop-name-test.false c.loop-name.invariant
