use Rattle.std.proofs.Common.{Some, sym, subst}
use Rattle.std.proofs.lemmas.Result.{IfOk-weaker}
use Rattle.pi_terms.specs.Tree.{no_trees, tree}
use Rattle.pi_constraints.specs.Store.{AreTerms}
use Rattle.pi_meaning.specs.Machine.Step.{labels_step, with_rest}
use Rattle.pi_engine_arenas.specs.Arenas.{view_of}
use Rattle.pi_engine_stands.specs.Stands.{world, Stands}
use Rattle.pi_engine_stands.proofs.SolveLabels.{call_with}
use Rattle.pi_engine_steps.proofs.SolveRuns.{objective-there, objective-none}
use Rattle.pi_engine_steps.proofs.solve.label.Goals as goal

-- a search begins, where there are two arguments
pub returns-in-Some : goal.returns-in-Some
returns-in-Some g c = IfOk-weaker c.search.result _ _ (λ _ so l is_code o xs name args ts gs e k es at options refs terms two filled stands.
    let v = g.S.StateStore.seen c.args.run.now.store in
    let after = world l (g.S.StateStore.seen c.search.new.run.store) g.S.StateStore.order (view_of c.search.new.run.arenas) in
    let there = objective-there v c.args.asked.options.objective o.objective c.in-Some.objective options.sought c.in-Some.is in
    let both = two there.0 there.1 in
    let all = tree both.0 (tree both.1 no_trees) in
    subst (λ r. Stands after c.search.new.run.now (labels_step r o xs (call_with name args ts e v.now.state) (with_rest gs k es))) (sym there.1)
    (subst (λ us. Stands after c.search.new.run.now (labels_step (Some there.0) o xs (call_with name args us e v.now.state) (with_rest gs k es))) (sym both.2)
    (so l is_code o there.0 name args both.0 both.1 gs e k es at c.in-Some.is options there.1 (subst (AreTerms v c.args.run.now.terms.items) both.2 terms) filled stands))) c.search.ensures

pub returns-in-None : goal.returns-in-None
returns-in-None g c = IfOk-weaker c.label_plainly.result _ _ (λ _ so l is_code o xs name args ts gs e k es at options refs terms two filled stands.
    let v = g.S.StateStore.seen c.args.run.now.store in
    let after = world l (g.S.StateStore.seen c.label_plainly.new.run.store) g.S.StateStore.order (view_of c.label_plainly.new.run.arenas) in
    subst (λ r. Stands after c.label_plainly.new.run.now (labels_step r o xs (call_with name args ts e v.now.state) (with_rest gs k es))) (sym (objective-none v c.args.asked.options.objective o.objective options.sought c.in-None.is))
    (so l o xs name args ts gs e k es at options refs filled stands)) c.label_plainly.ensures
