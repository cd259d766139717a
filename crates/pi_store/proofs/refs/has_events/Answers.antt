use Rattle.std.proofs.Common.{◌<◌, length, refl, sym, subst, arith}
use Rattle.pi_constraints.specs.declared.store.Ref.{Ref}
use Rattle.pi_store_blocks.specs.Form.{form_of}
use Rattle.pi_store_blocks.specs.Placed.{IsRefIn}
use Rattle.pi_store_blocks.proofs.AgentTables.{event_at, events_from}
use Rattle.pi_store.specs.Holding.{heap_of}
use Rattle.pi_store.proofs.refs.has_events.Goals as goal

pub returns-then-not-has : goal.returns-then-not-has
returns-then-not-has c = λ cells.
    let h = heap_of c.args.names.now c.args.words.now in
    let lt : c.loop-watch.watch-index < length c.args.watches.now = omega arith in
    (λ e. absurd (cc), λ are. (c.if-not-has.ensures cells).1 (subst (λ (r : Ref). IsRefIn h (form_of r.number)) (sym c.watched.ensures) (event_at h c.args.watches.now c.loop-watch.watch-index _ lt are)))

pub loop-watch-preserved : goal.loop-watch-preserved
loop-watch-preserved c = λ cells rest.
    let h = heap_of c.args.names.now c.args.words.now in
    let lt : c.loop-watch.watch-index < length c.args.watches.now = omega arith in
    c.loop-watch.invariant cells (events_from h c.args.watches.now c.loop-watch.watch-index _ lt (subst (λ (r : Ref). IsRefIn h (form_of r.number)) c.watched.ensures ((c.if-not-has.ensures cells).0 refl)) rest)
