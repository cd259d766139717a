use Rattle.std.proofs.Common.{codes, subst}
use Rattle.std.specs.Prelude.{[], option_and_then}
use Rattle.pi_constraints.specs.State.{bindings}
use Rattle.pi_constraints.specs.Value.{value}
use Rattle.pi_effects.specs.Exception.{type_error}
use Rattle.pi_effects.specs.Items.{list_items}
use Rattle.pi_settling.specs.RightSide.{these, listed, integers_of, values_judged}
use Rattle.pi_lib_constraints.specs.Sides.{ShowsJudged}
use Rattle.pi_lib_constraints.proofs.SideLemmas.{no-side, judged-shown, listed-none, listed-some, some-numbers, none-numbers}
use Rattle.pi_lib_constraints.proofs.sides.listed.Goals as goal

pub returns-in-Some : goal.returns-in-Some
returns-in-Some g c = λ t a is.
    let v = g.S.StateStore.seen c.args.s.now in
    let u = value (bindings v.now.state) t in
    let there = some-numbers c.in_ok-found.found c.in-Some.numbers (option_and_then integers_of (list_items [] u)) c.in-Some.is (c.in_ok-found.ensures t a is) in
    judged-shown v c.values_domain.result c.judged.result (type_error (codes "domain") t v.now.state) c.args.strict (listed u) (these c.in-Some.numbers.items) c.judged.ensures (listed-some u c.in-Some.numbers.items there)
    (subst (λ ns. ShowsJudged c.values_domain.result (values_judged c.args.strict ns)) c.deref.ensures.value c.values_domain.ensures)

pub returns-in-None : goal.returns-in-None
returns-in-None g c = λ t a is.
    let v = g.S.StateStore.seen c.args.s.now in
    let u = value (bindings v.now.state) t in
    no-side v c.args.term t c.args.strict (listed u) is (listed-none u (none-numbers c.in_ok-found.found (option_and_then integers_of (list_items [] u)) c.in-None.is (c.in_ok-found.ensures t a is)))
