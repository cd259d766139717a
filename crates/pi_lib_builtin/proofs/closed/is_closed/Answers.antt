use Rattle.std.proofs.Common.{◌≡◌, ◌∙◌, true, false, sym, subst, rules}
use Rattle.pi_unify.proofs.TermValues.{term_given}
use Rattle.pi_lib_builtin.specs.Closed.{AreGiven, IsLookedAt, Leaves}
use Rattle.pi_lib_builtin.proofs.ClosedLemmas.{first-left, none-left, closed-told, given-before, looked-on, looked-open}
use Rattle.pi_lib_builtin.proofs.closed.is_closed.Goals as goal

pub loop-init : goal.loop-init
loop-init g c = λ a given. first-left (g.S.StateStore.seen c.args.s.now) c.args.a c.new-left.result.items c.push.new.self.items c.new-left.ensures.items c.in_ok-push.ensures.items given

pub returns-in_default : goal.returns-in_default
returns-in_default g c = λ t a is.
    let v = g.S.StateStore.seen c.args.s.now in
    closed-told v c.args.a t true is (sym (c.loop.invariant a (term_given v c.args.a t is)).1 ∙ none-left v c.loop.left.items (sym c.loop.left.ok.0 ∙ c.in_default.ensures.cases.0))

pub returns-then-not-closed : goal.returns-then-not-closed
returns-then-not-closed g c = λ t a is.
    let v = g.S.StateStore.seen c.args.s.now in
    let left = c.loop.left.items in
    let older = c.pop.new.self.items in
    let at = c.in-Some.at in
    let inv = c.loop.invariant a (term_given v c.args.a t is) in
    let before = given-before v older at (subst (AreGiven v) c.in-Some.ensures.items inv.0) in
    let open_one : c.in_ok-closed.closed ≡ false = search rules in
    closed-told v c.args.a t false is (looked-open v at left older _ c.in-Some.ensures.items inv.1 (subst (IsLookedAt v at older c.look_at.new.left.items) open_one (c.in_ok-closed.ensures a before.1 before.0)))

pub loop-preserved : goal.loop-preserved
loop-preserved g c = λ a given.
    let v = g.S.StateStore.seen c.args.s.now in
    let left = c.loop.left.items in
    let older = c.pop.new.self.items in
    let new = c.look_at.new.left.items in
    let at = c.in-Some.at in
    let inv = c.loop.invariant a given in
    let before = given-before v older at (subst (AreGiven v) c.in-Some.ensures.items inv.0) in
    let closed_one : c.in_ok-closed.closed ≡ true = search rules in
    let leaves : Leaves v at older new = subst (IsLookedAt v at older new) closed_one (c.in_ok-closed.ensures a before.1 before.0) in
    (leaves.given, looked-on v at left older new _ c.in-Some.ensures.items inv.1 leaves)
