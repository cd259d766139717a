use Rattle.std.proofs.Common.{◌∙◌}
use Rattle.pi_constraints.specs.State.{bindings}
use Rattle.pi_constraints.specs.Value.{IsAcyclic}
use Rattle.pi_unify.proofs.KeepsLemmas.{keeps_then, stays_then}
use Rattle.pi_engine_code.proofs.LaidTests.{acyclic-stays}
use Rattle.pi_engine_code.proofs.LaidWhole.{filled-all}
use Rattle.pi_engine_code.proofs.build.Builder.add_all.Goals as goal

pub returns-in_err-add_predicates-2-clause-keeps : goal.returns-in_err-add_predicates-2-clause-keeps
returns-in_err-add_predicates-2-clause-keeps g c =
    keeps_then (g.S.StateStore.seen c.args.store.now) (g.S.StateStore.seen c.add_predicates.new.store) (g.S.StateStore.seen c.add_predicates-2.new.store) c.add_predicates.ensures.keeps c.add_predicates-2.ensures.keeps

pub returns-in_err-place-clause-keeps : goal.returns-in_err-place-clause-keeps
returns-in_err-place-clause-keeps g c =
    keeps_then (g.S.StateStore.seen c.args.store.now) (g.S.StateStore.seen c.add_predicates-2.new.store) (g.S.StateStore.seen c.add_goal.new.store)
    (keeps_then (g.S.StateStore.seen c.args.store.now) (g.S.StateStore.seen c.add_predicates.new.store) (g.S.StateStore.seen c.add_predicates-2.new.store) c.add_predicates.ensures.keeps c.add_predicates-2.ensures.keeps) c.add_goal.ensures.keeps

pub returns-in_err-callables-clause-keeps : goal.returns-in_err-callables-clause-keeps
returns-in_err-callables-clause-keeps g c =
    keeps_then (g.S.StateStore.seen c.args.store.now) (g.S.StateStore.seen c.add_goal.new.store) (g.S.StateStore.seen c.add_callables.new.store)
    (keeps_then (g.S.StateStore.seen c.args.store.now) (g.S.StateStore.seen c.add_predicates-2.new.store) (g.S.StateStore.seen c.add_goal.new.store)
    (keeps_then (g.S.StateStore.seen c.args.store.now) (g.S.StateStore.seen c.add_predicates.new.store) (g.S.StateStore.seen c.add_predicates-2.new.store) c.add_predicates.ensures.keeps c.add_predicates-2.ensures.keeps) c.add_goal.ensures.keeps)
    c.add_callables.ensures.keeps

pub returns-in_err-keys-clause-keeps : goal.returns-in_err-keys-clause-keeps
returns-in_err-keys-clause-keeps g c =
    keeps_then (g.S.StateStore.seen c.args.store.now) (g.S.StateStore.seen c.add_goal.new.store) (g.S.StateStore.seen c.add_callables.new.store)
    (keeps_then (g.S.StateStore.seen c.args.store.now) (g.S.StateStore.seen c.add_predicates-2.new.store) (g.S.StateStore.seen c.add_goal.new.store)
    (keeps_then (g.S.StateStore.seen c.args.store.now) (g.S.StateStore.seen c.add_predicates.new.store) (g.S.StateStore.seen c.add_predicates-2.new.store) c.add_predicates.ensures.keeps c.add_predicates-2.ensures.keeps) c.add_goal.ensures.keeps)
    c.add_callables.ensures.keeps

pub returns-clause-keeps : goal.returns-clause-keeps
returns-clause-keeps g c =
    keeps_then (g.S.StateStore.seen c.args.store.now) (g.S.StateStore.seen c.add_goal.new.store) (g.S.StateStore.seen c.add_callables.new.store)
    (keeps_then (g.S.StateStore.seen c.args.store.now) (g.S.StateStore.seen c.add_predicates-2.new.store) (g.S.StateStore.seen c.add_goal.new.store)
    (keeps_then (g.S.StateStore.seen c.args.store.now) (g.S.StateStore.seen c.add_predicates.new.store) (g.S.StateStore.seen c.add_predicates-2.new.store) c.add_predicates.ensures.keeps c.add_predicates-2.ensures.keeps) c.add_goal.ensures.keeps)
    c.add_callables.ensures.keeps

pub returns-clause-stays : goal.returns-clause-stays
returns-clause-stays g c =
    stays_then (g.S.StateStore.seen c.args.store.now) (g.S.StateStore.seen c.add_goal.new.store) (g.S.StateStore.seen c.add_callables.new.store) (g.S.StateStore.seen c.args.store.now).now.state
    (stays_then (g.S.StateStore.seen c.args.store.now) (g.S.StateStore.seen c.add_predicates-2.new.store) (g.S.StateStore.seen c.add_goal.new.store) (g.S.StateStore.seen c.args.store.now).now.state
    (stays_then (g.S.StateStore.seen c.args.store.now) (g.S.StateStore.seen c.add_predicates.new.store) (g.S.StateStore.seen c.add_predicates-2.new.store) (g.S.StateStore.seen c.args.store.now).now.state c.in_ok-add_predicates.ensures.adds.stays
    c.in_ok-add_predicates-2.ensures.adds.stays) c.in_ok-place.ensures.adds.adds.stays) c.in_ok-callables.ensures.adds.adds.stays

pub returns-clause-core : goal.returns-clause-core
returns-clause-core g c = c.in_ok-callables.ensures.adds.adds.core ∙ (c.in_ok-place.ensures.adds.adds.core ∙ (c.in_ok-add_predicates-2.ensures.adds.core ∙ c.in_ok-add_predicates.ensures.adds.core))

pub returns-clause-filled : goal.returns-clause-filled
returns-clause-filled g c = λ blank numbered acyclic.
    let later : IsAcyclic (bindings (g.S.StateStore.seen c.add_goal.new.store).now.state) =
    acyclic-stays (g.S.StateStore.seen c.args.store.now) (g.S.StateStore.seen c.add_goal.new.store)
    (stays_then (g.S.StateStore.seen c.args.store.now) (g.S.StateStore.seen c.add_predicates-2.new.store) (g.S.StateStore.seen c.add_goal.new.store) (g.S.StateStore.seen c.args.store.now).now.state
    (stays_then (g.S.StateStore.seen c.args.store.now) (g.S.StateStore.seen c.add_predicates.new.store) (g.S.StateStore.seen c.add_predicates-2.new.store) (g.S.StateStore.seen c.args.store.now).now.state c.in_ok-add_predicates.ensures.adds.stays
    c.in_ok-add_predicates-2.ensures.adds.stays) c.in_ok-place.ensures.adds.adds.stays) acyclic in
    filled-all c.args.self.now.numbers (g.S.StateStore.seen c.args.store.now) (g.S.StateStore.seen c.add_predicates.new.store) (g.S.StateStore.seen c.add_predicates-2.new.store) (g.S.StateStore.seen c.add_goal.new.store) (g.S.StateStore.seen c.add_callables.new.store)
    c.args.code.now c.add_predicates.new.code c.add_predicates-2.new.code c.add_goal.new.code c.add_callables.new.code c.in_ok-callables.callables c.in_ok-keys.keys c.args.preds.now c.args.helpers.now c.args.goal.now c.args.slots c.in_ok-place.place numbered acyclic
    blank.predicates blank.steps c.in_ok-add_predicates.ensures.adds c.in_ok-add_predicates.ensures.long c.in_ok-add_predicates.ensures.laid c.in_ok-add_predicates.ensures.resolved c.in_ok-add_predicates-2.ensures.adds
    c.in_ok-add_predicates-2.ensures.laid c.in_ok-add_predicates-2.ensures.resolved c.in_ok-place.ensures.adds c.in_ok-place.ensures.laid c.in_ok-place.ensures.resolved c.in_ok-callables.ensures.adds c.in_ok-callables.ensures.resolved
    (c.in_ok-callables.ensures.callable numbered later) c.in_ok-keys.ensures
