use Rattle.std.proofs.Common.{◌∙◌, ap, sym, arith, ◌++◌, ◌-◌, ◌+◌, length}
use Rattle.std.proofs.lemmas.List.{append-nil}
use Rattle.pi_types.proofs.TreeStoreReads.{turned_none, turned_all, turned_step}
use Rattle.pi_types.proofs.tree_store.read.push_reversed.Goals as goal

pub loop-k-init : goal.loop-k-init
loop-k-init c = sym (ap (λ rs. c.args.stack.now.items ++ rs) (turned_none c.args.terms.now (length c.args.terms.now - 0) (omega arith)) ∙ append-nil c.args.stack.now.items)

pub loop-k-preserved : goal.loop-k-preserved
loop-k-preserved c = turned_step c.args.stack.now.items c.loop-k.stack.items _ c.args.terms.now (length c.args.terms.now - c.loop-k.k) (length c.args.terms.now - 1 - c.loop-k.k) (length c.args.terms.now - (c.loop-k.k + 1)) _ (omega arith) (omega arith) (omega arith) c.loop-k.invariant c.in_ok-push.ensures.items

pub returns : goal.returns
returns c = c.loop-k.invariant ∙ ap (λ rs. c.args.stack.now.items ++ rs) (turned_all c.args.terms.now (length c.args.terms.now - c.loop-k.k) (omega arith))
