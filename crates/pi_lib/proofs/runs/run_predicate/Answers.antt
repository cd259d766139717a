use Rattle.std.proofs.Common.{◌≡◌, ◌∙◌, length, sym, ap, subst, rules}
use Rattle.pi_terms.specs.Tree.{args, tree_count, no_trees}
use Rattle.pi_constraints.specs.State.{bindings, followed}
use Rattle.pi_constraints.specs.Store.{AreTerms, ShowsCell}
use Rattle.pi_constraints.specs.declared.store.Cell.{Cell}
use Rattle.pi_lib.specs.Runs.{DoesCall}
use Rattle.pi_lib.proofs.FunctionCalls.{terms-nothing}
use Rattle.pi_lib.proofs.RunLemmas.{atom-call, comp-call, terms-count}
use Rattle.pi_lib.proofs.runs.run_predicate.Goals as goal

pub returns-in-Atom-clause-shows : goal.returns-in-Atom-clause-shows
returns-in-Atom-clause-shows g c = λ t e state is done.
    let v = g.S.StateStore.seen c.args.s.now in
    let u = followed (bindings v.now.state) t in
    let shows : ShowsCell v u (Cell.Atom c.in-Atom.name) = subst (ShowsCell v u) c.in-Atom.is (c.look.ensures.shows t is state.acyclic) in
    c.run_with.ensures.shows no_trees e state (terms-nothing v)
    (atom-call v u c.in-Atom.name c.name.result.now c.predicate_named-predicate.result e shows c.name.ensures done c.predicate_named-predicate.ensures.some c.predicate_named-predicate.ensures.none)

pub returns-in-Ok-clause-shows : goal.returns-in-Ok-clause-shows
returns-in-Ok-clause-shows g c = λ t e state is done.
    let v = g.S.StateStore.seen c.args.s.now in
    let u = followed (bindings v.now.state) t in
    let found = c.predicate_named-predicate-in-Ok.result in
    let shows : ShowsCell v u (Cell.Comp c.in-Comp.name c.in-Comp.count) = subst (ShowsCell v u) c.in-Comp.is (c.look.ensures.shows t is state.acyclic) in
    let terms : AreTerms v c.in-Ok.args.items (args u) = c.in-Ok.ensures t state.acyclic is shows.3 in
    let here : AreTerms v c.deref.result.now (args u) = subst (λ rs. AreTerms v rs (args u)) (sym c.deref.ensures.value) terms in
    let many : c.len.result ≡ length c.in-Ok.args.items = search rules in
    let same : tree_count (args u) ≡ c.len.result = sym (terms-count v c.in-Ok.args.items (args u) terms) ∙ sym many in
    let call : DoesCall v.now.state c.len.result (args u) found e =
    comp-call v u c.in-Comp.name c.in-Comp.count c.len.result c.name-in-Ok.result.now found e shows c.name-in-Ok.ensures done same c.predicate_named-predicate-in-Ok.ensures.some c.predicate_named-predicate-in-Ok.ensures.none in
    c.run_with-in-Ok.ensures.shows (args u) e state here (subst (λ n. DoesCall v.now.state n (args u) found e) (many ∙ ap length (sym c.deref.ensures.value)) call)
