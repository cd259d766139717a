use Rattle.std.proofs.Common.{rules, ◌∙◌, ap}
use Rattle.pi_constraints.specs.Domain.{common}
use Rattle.pi_lib_constraints.proofs.KeepLemmas.{unbound-at, left-none, left-some-at}
use Rattle.pi_lib_constraints.proofs.keeping.keep_variable.Goals as goal

pub returns-in_default-clause-left : goal.returns-in_default-clause-left
returns-in_default-clause-left g c = λ n is h.
    let v = g.S.StateStore.seen c.args.s.now in
    left-none v.now.state n c.args.kept.now c.in_ok-left.left (unbound-at v c.args.at n is h) (c.in_ok-left.ensures.common ∙ ap (λ d. common d c.args.kept.now) (c.in_ok-had.ensures n is h)) (search rules)

pub returns-clause-left : goal.returns-clause-left
returns-clause-left g c = λ n is h.
    let v = g.S.StateStore.seen c.args.s.now in
    left-some-at v.now.state (g.S.StateStore.seen c.leave_values.new.s).now.state n c.args.kept.now c.in_ok-left.left c.in-Some.least _ (unbound-at v c.args.at n is h)
    (c.in_ok-left.ensures.common ∙ ap (λ d. common d c.args.kept.now) (c.in_ok-had.ensures n is h)) c.in_ok-leave_values.ensures.domain c.in-Some.ensures.some.is_value (c.in_ok-leave_values.ensures.one n is h) (c.in_ok-leave_values.ensures.more n is h) (search rules)
