use Rattle.std.proofs.Common.{◌≡◌, ◌-◌, ◌+◌, arith, length, map, List, Bor}
use Rattle.std.specs.Prelude.{reverse}
use Rattle.pi_terms.specs.Tree.{Tree}
use Rattle.pi_terms.specs.BareCells.{bare}
use Rattle.pi_plan.specs.Plan.{plan_term}
use Rattle.pi_plan.proofs.WrittenLemmas.{list_step, list_done, item_at}
use Rattle.pi_plan.proofs.written.list_of.Goals as goal

pub loop-i-preserved : goal.loop-i-preserved
loop-i-preserved c =
    list_step c.loop-i.cells.items c.push_action.new.cells.items (map (λ (a : Bor Tree). a.now) c.args.actions.now) (length c.args.actions.now - c.loop-i.i) (length c.args.actions.now - (c.loop-i.i + 1)) c.index-actions-count.result.now
    (omega arith) c.loop-i.invariant
    (item_at (λ (a : Bor Tree). a.now) c.args.actions.now (length c.args.actions.now - 1 - c.loop-i.i) (length c.args.actions.now - (c.loop-i.i + 1)) c.index-actions-count.result (omega arith) (omega arith) c.index-actions-count.is)
    c.in_ok-push_action.ensures

pub from_bare-requires : goal.from_bare-requires
from_bare-requires c =
    let plan : List Tree = map (λ (a : Bor Tree). a.now) c.args.actions.now in
    let whole : c.push.new.self.items ≡ bare (plan_term (reverse plan)) =
    list_done c.loop-i.cells.items c.push.new.self.items plan (length c.args.actions.now - c.loop-i.i) c.in_ok-new.field-0 (omega arith) c.loop-i.invariant c.in_ok-push.ensures.items c.in_ok-new.ensures.ok in
    (plan_term (reverse plan), whole)

pub returns : goal.returns
returns c =
    let plan : List Tree = map (λ (a : Bor Tree). a.now) c.args.actions.now in
    c.from_bare.ensures (plan_term (reverse plan))
    (list_done c.loop-i.cells.items c.push.new.self.items plan (length c.args.actions.now - c.loop-i.i) c.in_ok-new.field-0 (omega arith) c.loop-i.invariant c.in_ok-push.ensures.items c.in_ok-new.ensures.ok)
