use Rattle.std.proofs.Common.{◌≡◌, ◌∙◌, sym, subst}
use Rattle.pi_constraints.specs.Store.{IsName}
use Rattle.pi_constraints.specs.declared.store.Cell.{Cell}
use Rattle.pi_unify.specs.Terms.{HoldsNoCycle}
use Rattle.pi_constraints.specs.Value.{IsAcyclic}
use Rattle.pi_constraints.specs.State.{bindings}
use Rattle.std.specs.Prelude.{codes}
use Rattle.pi_engine_code.specs.Code.{tables_of}
use Rattle.pi_engine_stands.specs.Searches.{FindsRound}
use Rattle.pi_engine_steps.proofs.RoundsFound.{solve-shown, number-found}
use Rattle.pi_engine_steps.proofs.search.round_goal.Goals as goal

pub returns-in-Atom-clause-finds : goal.returns-in-Atom-clause-finds
returns-in-Atom-clause-finds g c = λ t preds acyclic is.
    let u = g.S.StateStore.seen c.put_atom.new.self in
    let gives = c.in_ok-name.ensures.ok in
    let here : HoldsNoCycle u = subst (λ s. IsAcyclic (bindings s)) (sym gives.changes.state) acyclic in
    let shown = solve-shown u c.in_ok-name.name c.look.result gives.term here c.look.ensures.shows in
    let same : shown.0 ≡ c.in-Atom.number = (let it : Cell.Atom shown.0 ≡ Cell.Atom c.in-Atom.number = sym shown.1 ∙ c.in-Atom.is in cc) in
    subst (FindsRound (tables_of t c.args.code.now) c.args.code.now.steps.items) (sym c.goal_named.ensures)
    (number-found u c.args.code.now t preds c.in-Atom.number is c.look.ensures.distinct (subst (λ n. IsName u n (codes "solve")) same shown.2))

-- an atom is no variable, no integer and no compound
pub returns-in-Var-clause-finds : goal.returns-in-Var-clause-finds
returns-in-Var-clause-finds g c = λ t preds acyclic is.
    let u = g.S.StateStore.seen c.put_atom.new.self in
    let gives = c.in_ok-name.ensures.ok in
    let shown = solve-shown u c.in_ok-name.name c.look.result gives.term (subst (λ s. IsAcyclic (bindings s)) (sym gives.changes.state) acyclic) c.look.ensures.shows in
    absurd (let it = sym shown.1 ∙ c.in-Var.is in cc)

pub returns-in-Int-clause-finds : goal.returns-in-Int-clause-finds
returns-in-Int-clause-finds g c = λ t preds acyclic is.
    let u = g.S.StateStore.seen c.put_atom.new.self in
    let gives = c.in_ok-name.ensures.ok in
    let shown = solve-shown u c.in_ok-name.name c.look.result gives.term (subst (λ s. IsAcyclic (bindings s)) (sym gives.changes.state) acyclic) c.look.ensures.shows in
    absurd (let it = sym shown.1 ∙ c.in-Int.is in cc)

pub returns-in-Comp-clause-finds : goal.returns-in-Comp-clause-finds
returns-in-Comp-clause-finds g c = λ t preds acyclic is.
    let u = g.S.StateStore.seen c.put_atom.new.self in
    let gives = c.in_ok-name.ensures.ok in
    let shown = solve-shown u c.in_ok-name.name c.look.result gives.term (subst (λ s. IsAcyclic (bindings s)) (sym gives.changes.state) acyclic) c.look.ensures.shows in
    absurd (let it = sym shown.1 ∙ c.in-Comp.is in cc)
