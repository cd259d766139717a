use Rattle.std.proofs.Common.{◌≡◌, Some, length, subst, arith, refl}
use Rattle.std.specs.Prelude.{slice_get}
use Rattle.std.proofs.lemmas.Option.{slice_get_read}
use Rattle.pi_constraints.specs.Evaluation.{evaluated}
use Rattle.pi_terms.specs.Tree.{var}
use Rattle.pi_constraints.specs.State.{bindings}
use Rattle.pi_constraints.specs.Value.{IsAcyclic}
use Rattle.pi_core.specs.AnswerVariables.{answer_variables}
use Rattle.pi_constraints.specs.ToldDomains.{told_domains}
use Rattle.pi_engine_arenas.specs.Arenas.{view_of, between}
use Rattle.pi_engine_stands.specs.Stands.{world}
use Rattle.pi_engine_stands.specs.Answers.{NamesValue}
use Rattle.pi_unify.specs.Domains.{AreUnbound}
use Rattle.pi_unify.specs.Domains.{occurring}
use Rattle.pi_engine_steps.proofs.NamesStand.{query_block, names-at, tells-none, tells-more, query-told, query-raises}
use Rattle.pi_engine_steps.proofs.answers.answer.Goals as goal

pub loop-named-init : goal.loop-named-init
loop-named-init g c = λ n e are holds state.
    tells-none (query_block n) (g.S.StateStore.seen c.args.run.now.store) (view_of c.args.run.now.arenas) c.args.names.now e c.new-values.result c.new-values.ensures holds state

pub loop-named-preserved : goal.loop-named-preserved
loop-named-preserved g c = λ n e are holds state.
    let v = g.S.StateStore.seen c.args.run.now.store in
    let w = g.S.StateStore.seen c.loop-named.run.store in
    let u = g.S.StateStore.seen c.named_value.new.run.store in
    let a = view_of c.args.run.now.arenas in
    let b = view_of c.loop-named.run.arenas in
    let d = view_of c.named_value.new.run.arenas in
    let name = c.named-item.result in
    let at : slice_get c.args.names.now c.loop-named.named-index ≡ Some c.named-item.result = slice_get_read c.args.names.now (length c.args.names.now) c.loop-named.named-index c.named-item.result refl c.loop-named-test.true c.named-item.is in
    let before = c.loop-named.invariant n e are holds state in
    let one = c.in_ok-value.ensures (query_block n) before.slots refl refl (names-at n c.args.names.now c.loop-named.named-index name are at) before.writes.holds before.state in
    tells-more (query_block n) v w u a b d c.args.names.now e c.loop-named.named-index c.loop-named.values c.push.new.self name c.in-Some.value at state before
    (subst (NamesValue (query_block n) (between w u b d) name (evaluated (var name.slot) before.slots w.now.state)) c.in-Some.is one) c.in_ok-push.ensures.ok

pub returns-in_default : goal.returns-in_default
returns-in_default g c = λ l view p e k es stands none last level are.
    let seen = g.S.StateStore.seen in
    let order = g.S.StateStore.order in
    let u = seen c.loop-named.run.store in
    let z = seen c.named_value.new.run.store in
    let b = view_of c.loop-named.run.arenas in
    let d = view_of c.named_value.new.run.arenas in
    let w = world l (seen c.args.run.now.store) order (view_of c.args.run.now.arenas) in
    let name = c.named-item.result in
    let at : slice_get c.args.names.now c.loop-named.named-index ≡ Some c.named-item.result = slice_get_read c.args.names.now (length c.args.names.now) c.loop-named.named-index c.named-item.result refl c.loop-named-test.true c.named-item.is in
    query-raises w (world l z order d) u z b d c.args.names.now c.loop-named.named-index c.loop-named.values name c.in_ok-too_large.field-0 p view e k es c.loop-named.invariant at
    (λ block f base first within holds state. subst (NamesValue block (between u z b d) name (evaluated (var name.slot) f u.now.state)) c.in_default.is (c.in_ok-value.ensures block f base first within holds state))
    c.in_ok-too_large.ensures stands none last level are

pub returns : goal.returns
returns g c = λ l view p e k es stands none last level are.
    let seen = g.S.StateStore.seen in
    let order = g.S.StateStore.order in
    let u = seen c.loop-named.run.store in
    let b = view_of c.loop-named.run.arenas in
    let w = world l (seen c.args.run.now.store) order (view_of c.args.run.now.arenas) in
    let all : length c.args.names.now ≡ c.loop-named.named-index = omega (arith, c.loop-named-test.false, c.loop-named.auto.named-index-end) in
    let s = u.now.state in
    let domains =
    subst (λ vs. IsAcyclic (bindings s) → AreUnbound s (occurring vs) → c.in_ok-domains.domains ≡ told_domains s (answer_variables vs)) c.as_slice.ensures c.in_ok-domains.ensures in
    query-told w u b c.args.names.now c.loop-named.named-index (record { values = c.loop-named.values; domains = c.in_ok-domains.domains }) p view e k es c.loop-named.invariant domains (omega (arith, all)) stands none last level are
