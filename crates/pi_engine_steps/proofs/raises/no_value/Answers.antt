use Rattle.std.proofs.Common.{◌≡◌, ◌∙◌, Some, sym, ap, subst}
use Rattle.std.specs.Prelude.{slice_get, option_copied}
use Rattle.pi_terms.specs.Tree.{Trees, comp}
use Rattle.pi_constraints.specs.Store.{AreTerms, IsTerm}
use Rattle.pi_engine_code.specs.declared.code.Predicate.{Predicate}
use Rattle.pi_engine_code.specs.Code.{preds_of}
use Rattle.pi_engine_arenas.specs.Arenas.{view_of}
use Rattle.pi_engine_stands.specs.Stands.{world}
use Rattle.pi_engine_stands.proofs.BackStand.{drops-newest}
use Rattle.pi_engine_stands.proofs.MissingStand.{no-other-node, source-missing, value-missing}
use Rattle.pi_engine_steps.proofs.raises.no_value.Goals as goal

pub returns-in_default : goal.returns-in_default
returns-in_default g c = λ l is_code caller named s b es it.
    let w = world l (g.S.StateStore.seen c.args.run.now.store) g.S.StateStore.order (view_of c.args.run.now.arenas) in
    let node = no-other-node w c.args.back c.args.place caller c.args.code.now c.step-step.result s b es named is_code c.step-step.ensures.is it in
    absurd (c.in_default.not-Apply node.0 node.1 node.2 node.3)

pub returns-in_default-source : goal.returns-in_default-source
returns-in_default-source g c = λ l is_code caller named s b es it.
    let w = world l (g.S.StateStore.seen c.args.run.now.store) g.S.StateStore.order (view_of c.args.run.now.arenas) in
    let node = no-other-node w c.args.back c.args.place caller c.args.code.now c.step-step.result s b es named is_code c.step-step.ensures.is it in
    absurd (source-missing c.step-step.result.node node.0 node.1 node.2 c.in-Apply.predicate c.in-Apply.field-1 c.in-Apply.field-2 (preds_of c.args.code.now) node.3 c.in-Apply.is node.4 (sym c.source.ensures ∙ ap option_copied c.in_default-source.is))

pub returns : goal.returns
returns g c = λ l is_code caller named s b es it.
    let seen = g.S.StateStore.seen in
    let v = seen c.args.run.now.store in
    let u = seen c.put_comp.new.self in
    let a = view_of c.args.run.now.arenas in
    let d = view_of c.pop.new.self in
    let n = c.in-Apply.predicate in
    let source = c.in-Some.source.now in
    let rs = c.take_block.new.terms.items in
    let arity = c.predicate-arity.result.arity in
    let at_source : slice_get (preds_of c.args.code.now) n ≡ Some source = sym c.source.ensures ∙ ap option_copied c.in-Some.is in
    let puts : (ts : Trees) → AreTerms v rs ts → IsTerm u c.in_ok-call.call (comp source.name ts) =
    subst (λ qs. (ts : Trees) → AreTerms v qs ts → IsTerm u c.in_ok-call.call (comp source.name ts)) c.deref.ensures.value
    (subst (λ m. (ts : Trees) → AreTerms v c.deref.result.now ts → IsTerm u c.in_ok-call.call (comp m ts)) c.as_str.ensures c.in_ok-call.ensures.ok) in
    value-missing (world l v g.S.StateStore.order a) d u c.args.back c.args.place caller n c.in-Apply.field-1 c.in-Apply.field-2 arity c.args.code.now c.step-step.result source rs c.in_ok-call.call c.in_ok-ball.ball s b es
    named is_code c.step-step.ensures.is c.in-Apply.is at_source it
    (drops-newest a d c.pop.ensures.entries c.pop.ensures.kept c.pop.ensures.slots c.pop.ensures.keeps c.pop.ensures.collected c.pop.ensures.frames c.pop.ensures.level)
    (λ (q : Predicate) found. ap (λ (p : Predicate). p.arity) (c.predicate-arity.ensures q found)) c.in_ok-take_block.ensures c.in_ok-call.ensures.stays puts c.in_ok-ball.ensures
