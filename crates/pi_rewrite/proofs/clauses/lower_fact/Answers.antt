-- A clause with no more than the slots of its head.
use Rattle.std.proofs.Common.{refl, false, None}
use Rattle.pi_syntax.specs.ExpTree.{exp_tree}
use Rattle.pi_rewrite.proofs.ClauseLemmas.{fact-is}
use Rattle.pi_rewrite.proofs.clauses.lower_fact.Goals as goal

pub returns : goal.returns
returns c =
    fact-is (record { head = c.in_ok-head.head; guard = c.in_ok-guard.guard; back = false; watches = c.new.result; body = c.in_ok-body.body; value = None; slots = c.in_ok-count.count }) (exp_tree c.args.head.now) c.new-slots.result
    c.lower_head.new.slots c.new-slots.ensures c.in_ok-head.ensures.are c.in_ok-head.ensures.slots c.in_ok-guard.ensures.ok refl c.new.ensures c.in_ok-body.ensures.ok refl c.in_ok-count.ensures
