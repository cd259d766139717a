use Rattle.std.proofs.Common.{ℕ, List, [], ◌++◌, sym, subst, length, ◌≤◌, ◌<◌, get_or, arith}
use Rattle.std.specs.Borrow.{Bor}
use Rattle.std.proofs.lemmas.List.{length-map, get_or-map}
use Rattle.pi_lib_builtin.specs.Resolved.{Named, rows_shown}
use Rattle.pi_engine_code.specs.Callables.{AreNamed}
use Rattle.pi_engine_code.proofs.LaidNames.{no-places-added, places-added, all-places-added}
use Rattle.pi_engine_code.proofs.build.Builder.add_callables.Goals as goal

abbrev named_by : Bor (List ℕ) × ℕ → Named ℕ
named_by r = (r.0.now, r.1)

pub loop-named-init : goal.loop-named-init
loop-named-init g c = no-places-added c.args.self.now.numbers (g.S.StateStore.seen c.args.store.now) c.args.code.now (rows_shown c.deref-named-items.result.now) c.new-callables.result c.new-callables.ensures

pub loop-named-preserved : goal.loop-named-preserved
loop-named-preserved g c =
    let one : Bor (List ℕ) × ℕ = (record { ref_ptr = (0, 0); now = [] }, 0) in
    let item : Bor (List ℕ) × ℕ = get_or c.deref-named-items.result.now c.loop-named.named-index one in
    let within : c.loop-named.named-index < length (rows_shown c.deref-named-items.result.now) = omega (arith, c.loop-named-test.true, length-map c.deref-named-items.result.now named_by) in
    places-added c.args.self.now.numbers (g.S.StateStore.seen c.args.store.now) (g.S.StateStore.seen c.loop-named.store) (g.S.StateStore.seen c.add_callable.new.store) c.args.code.now c.loop-named.code c.add_callable.new.code (rows_shown c.deref-named-items.result.now)
    c.loop-named.callables c.add_callable.new.callables c.loop-named.named-index item.0.now item.1 c.loop-named.invariant within
    (sym (get_or-map named_by c.deref-named-items.result.now c.loop-named.named-index one (item.0.now, item.1) c.loop-named-test.true)) c.in_ok-add_callable.ensures.adds c.in_ok-add_callable.ensures.resolved c.in_ok-add_callable.ensures.right c.in_ok-add_callable.ensures.has

pub returns-clause-callable : goal.returns-clause-callable
returns-clause-callable g c = λ numbered acyclic apart.
    let named : AreNamed (c.args.preds.now ++ c.args.helpers.now) (rows_shown c.deref-named-items.result.now) = subst (λ ns. AreNamed (c.args.preds.now ++ c.args.helpers.now) (rows_shown ns)) (sym c.deref-named-items.ensures.value) c.in_ok-names.ensures in
    let whole : length (rows_shown c.deref-named-items.result.now) ≤ c.loop-named.named-index = omega (arith, length-map c.deref-named-items.result.now named_by) in
    all-places-added c.args.self.now.numbers (g.S.StateStore.seen c.args.store.now) (g.S.StateStore.seen c.loop-named.store) c.args.code.now c.loop-named.code (c.args.preds.now ++ c.args.helpers.now) (rows_shown c.deref-named-items.result.now) c.loop-named.callables
    c.loop-named.named-index c.loop-named.invariant whole named numbered acyclic apart
