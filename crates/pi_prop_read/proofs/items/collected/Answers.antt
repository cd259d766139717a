use Rattle.std.specs.Prelude.{codes}
use Rattle.pi_effects.specs.Exception.{type_error}
use Rattle.pi_prop_read.specs.Refs.{tree_of}
use Rattle.pi_prop_read.proofs.ItemLemmas.{collected-items, collected-none}
use Rattle.pi_prop_read.proofs.items.collected.Goals as goal

pub returns-in-Ok : goal.returns-in-Ok
returns-in-Ok g c = λ m s here.
    let v = g.S.StateStore.seen c.args.s.now in
    let t = tree_of v.now c.args.term in
    let h = c.in-Ok.ensures t s.acyclic here in
    collected-items v c.args.term t c.in-Ok.found (type_error (codes "collection") t v.now.state) h.0 m s.acyclic here h.1 h.2

pub returns-in-Err-Raised : goal.returns-in-Err-Raised
returns-in-Err-Raised g c = λ m s here.
    let v = g.S.StateStore.seen c.args.s.now in
    let t = tree_of v.now c.args.term in
    let h = (rw c.in-Err-Raised.field-0-is at c.in-Err-Raised.ensures) t s.acyclic here in
    collected-none v c.args.term t (type_error (codes "collection") t v.now.state) h.0 m s.acyclic here here h.1
