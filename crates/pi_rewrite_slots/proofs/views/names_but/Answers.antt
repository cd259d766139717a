use Rattle.std.proofs.Common.{ℕ, List, [], get_or, cond}
use Rattle.std.specs.Prelude.{not}
use Rattle.std.specs.Str.{bytes_eq}
use Rattle.pi_rewrite_spec.specs.Slots.{unnamed}
use Rattle.pi_rewrite_slots.proofs.ViewLemmas.{mapped-none, mapped-more, mapped-all, found-name}
use Rattle.pi_rewrite_slots.proofs.views.names_but.Goals as goal

pub loop-name-init : goal.loop-name-init
loop-name-init c = mapped-none (λ (name : List ℕ). cond (not (bytes_eq name c.args.but.now)) name unnamed) c.args.names.now c.new-made.result.items c.new-made.ensures.items

pub loop-name-preserved : goal.loop-name-preserved
loop-name-preserved c = mapped-more (λ (name : List ℕ). cond (not (bytes_eq name c.args.but.now)) name unnamed) c.args.names.now c.loop-name.made.items c.push.new.self.items c.loop-name.name-index (record { ref_ptr = (0, 0); now = [] }) c.found.result c.loop-name-test.true c.in_ok-push.ensures.items (found-name (not (bytes_eq (get_or c.args.names.now c.loop-name.name-index (record { ref_ptr = (0, 0); now = [] })).now c.args.but.now)) c.ne-finds.result (get_or c.args.names.now c.loop-name.name-index (record { ref_ptr = (0, 0); now = [] })).now c.found.result.now c.ne-finds.ensures c.found.ensures) c.loop-name.invariant

pub returns : goal.returns
returns c = mapped-all (λ (name : List ℕ). cond (not (bytes_eq name c.args.but.now)) name unnamed) c.args.names.now c.loop-name.made.items c.loop-name.name-index c.loop-name-test.false c.loop-name.invariant
