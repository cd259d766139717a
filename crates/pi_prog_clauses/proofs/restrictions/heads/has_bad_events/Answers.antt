use Rattle.std.proofs.Common.{◌≡◌, ◌∷◌, ◌+◌, ◌∙◌, drop, sym}
use Rattle.pi_syntax.specs.ExpTree.{exp_tree}
use Rattle.pi_prog_clauses.proofs.restrictions.EventLemmas.{has_other, other_here, other_behind, no_other, bad_none, bad_some}
use Rattle.pi_prog_clauses.proofs.restrictions.HeadNameLemmas.{event_by_names}
use Rattle.pi_prog_clauses.proofs.nodes.WalkLemmas.{front, past}
use Rattle.pi_prog_clauses.proofs.restrictions.heads.has_bad_events.Goals as goal

pub returns-then-is_empty : goal.returns-then-is_empty
returns-then-is_empty c = bad_none _ c.args.events.now _ c.is_empty.ensures c.if-is_empty.true

pub returns-then-not-is_event : goal.returns-then-not-is_event
returns-then-not-is_event c =
    let x = c.event-item.result in
    let e : drop c.loop-event.event-index c.args.events.now ≡ x ∷ drop (c.loop-event.event-index + 1) c.args.events.now =
    front c.args.events.now c.loop-event.event-index x c.loop-event-test.true c.event-item.is in
    bad_some (exp_tree c.args.head.now) c.args.events.now _ _ c.is_empty.ensures c.if-is_empty.false
    (other_here (exp_tree c.args.head.now) _ _ x (has_other (exp_tree c.args.head.now) c.args.events.now) e
    (sym (event_by_names _ (exp_tree c.args.head.now) (exp_tree x) c.in_ok-names.ensures) ∙ sym c.is_event.ensures ∙ c.if-not-is_event.true) c.loop-event.invariant)

pub loop-event-preserved : goal.loop-event-preserved
loop-event-preserved c =
    let x = c.event-item.result in
    let e : drop c.loop-event.event-index c.args.events.now ≡ x ∷ drop (c.loop-event.event-index + 1) c.args.events.now =
    front c.args.events.now c.loop-event.event-index x c.loop-event-test.true c.event-item.is in
    other_behind (exp_tree c.args.head.now) _ _ x (has_other (exp_tree c.args.head.now) c.args.events.now) e
    (sym (event_by_names _ (exp_tree c.args.head.now) (exp_tree x) c.in_ok-names.ensures) ∙ sym c.is_event.ensures ∙ c.if-not-is_event.false) c.loop-event.invariant

pub returns : goal.returns
returns c =
    bad_some (exp_tree c.args.head.now) c.args.events.now _ _ c.is_empty.ensures c.if-is_empty.false
    (no_other (exp_tree c.args.head.now) _ (has_other (exp_tree c.args.head.now) c.args.events.now)
    (past c.loop-event.event-index c.args.events.now c.loop-event-test.false) c.loop-event.invariant)
