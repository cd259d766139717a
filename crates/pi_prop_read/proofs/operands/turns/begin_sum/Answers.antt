-- The items of a list or an array wait, or there are none.
use Rattle.std.proofs.Common.{◌++◌, ◌∙◌, ap}
use Rattle.pi_prop_read.specs.Refs.{tree_of}
use Rattle.pi_prop_read.specs.OperandFrames.{stacked}
use Rattle.pi_prop_read.proofs.OperandTurns.{begin-items, begin-none}
use Rattle.pi_prop_read.proofs.LoopLemmas.{sum-shown, sum-refused}
use Rattle.pi_prop_read.proofs.operands.turns.begin_sum.Goals as goal

pub returns-in-Ok-push_items : goal.returns-in-Ok-push_items
returns-in-Ok-push_items g c = λ a whole s t.
    let v = g.S.StateStore.seen c.args.s.now in
    let q = c.args.collection in
    let old = c.args.frames.now.items in
    let rs = c.in-Ok.items.items in
    let h = sum-shown v q c.in-Ok.items s.acyclic t.is_here (c.in-Ok.ensures (tree_of v.now q) s.acyclic t.is_here) in
    begin-items v.now a q rs c.number.result old c.push_items.new.frames.items whole h.0 h.1 (c.in-Ok-push_items.ensures ∙ ap (λ qs. old ++ stacked qs) c.deref.ensures.value) c.number.ensures t

pub returns-in-Err-Raised : goal.returns-in-Err-Raised
returns-in-Err-Raised g c = λ a whole s t.
    let v = g.S.StateStore.seen c.args.s.now in
    let q = c.args.collection in
    begin-none v.now a q c.args.frames.now.items whole (sum-refused v q c.in-Err-Raised.field-0-0 s.acyclic t.is_here ((rw c.in-Err-Raised.field-0-is at c.in-Err-Raised.ensures) (tree_of v.now q) s.acyclic t.is_here)) t
