use Rattle.std.proofs.Common.{◌≡◌, Option, Some, None, ap, sym, subst, ◌∙◌, rules}
use Rattle.pi_terms.specs.Tree.{Tree, int, no_trees, tree}
use Rattle.pi_constraints.specs.State.{State, next, SpeaksBelow}
use Rattle.pi_constraints.specs.Store.{IsTerm}
use Rattle.pi_store_blocks.proofs.BuiltLemmas.{stays_then}
use Rattle.pi_store.specs.Holding.{seen}
use Rattle.pi_store.specs.Waiting.{number_tree, activation_tree, HasValueBelow}
use Rattle.pi_store.proofs.WaitLemmas.{two_terms, three_terms}
use Rattle.pi_store.proofs.store.RawStore.put_activation.Goals as goal

pub returns-in_ok-put_comp-in-None-clause-ok : goal.returns-in_ok-put_comp-in-None-clause-ok
returns-in_ok-put_comp-in-None-clause-ok c = λ below.
    let w = seen c.put_int-2.new.self in
    let x = seen c.put_comp.new.self in
    let made = c.in_ok-put_comp-in-None.field-0 in
    let agent : IsTerm (seen c.put_int.new.self) c.in_ok-agent.agent (number_tree c.args.agent) = c.in_ok-agent.ensures.ok.term ∙ ap (λ z. Some (int z)) (search rules) in
    let watch : IsTerm w c.in_ok-watch.watch (number_tree c.args.watch) = c.in_ok-watch.ensures.ok.term ∙ ap (λ z. Some (int z)) (search rules) in
    let there : IsTerm w c.in_ok-agent.agent (number_tree c.args.agent) = c.in_ok-watch.ensures.ok.changes.keeps.terms c.in_ok-agent.agent (number_tree c.args.agent) agent in
    let all : IsTerm x made (activation_tree c.args.agent c.args.watch None) =
    c.in_ok-put_comp-in-None.ensures.ok (tree (number_tree c.args.agent) (tree (number_tree c.args.watch) no_trees)) (two_terms w c.in_ok-agent.agent c.in_ok-watch.watch (number_tree c.args.agent) (number_tree c.args.watch) there watch) in
    subst (λ (o : Option Tree). IsTerm x made (activation_tree c.args.agent c.args.watch o)) (sym c.in-None.is) all

pub returns-in_ok-put_comp-in-Some-clause-stays : goal.returns-in_ok-put_comp-in-Some-clause-stays
returns-in_ok-put_comp-in-Some-clause-stays c =
    let v = seen c.args.self.now in
    let u = seen c.put_int.new.self in
    let w = seen c.put_int-2.new.self in
    let y = seen c.put_term.new.self in
    let x = seen c.put_comp-in-Some.new.self in
    stays_then v u x c.in_ok-agent.ensures.ok.changes (stays_then u w x c.in_ok-watch.ensures.ok.changes (stays_then w y x c.put_term.ensures.stays c.put_comp-in-Some.ensures.stays))

pub returns-in_ok-put_comp-in-Some-clause-ok : goal.returns-in_ok-put_comp-in-Some-clause-ok
returns-in_ok-put_comp-in-Some-clause-ok c = λ below.
    let v = seen c.args.self.now in
    let u = seen c.put_int.new.self in
    let w = seen c.put_int-2.new.self in
    let y = seen c.put_term.new.self in
    let x = seen c.put_comp-in-Some.new.self in
    let made = c.in_ok-put_comp-in-Some.field-0 in
    let a = number_tree c.args.agent in
    let b = number_tree c.args.watch in
    let t = c.in-Some.value in
    let same : w.now.state ≡ v.now.state = c.in_ok-watch.ensures.ok.changes.state ∙ c.in_ok-agent.ensures.ok.changes.state in
    let value : HasValueBelow (next v.now.state) (Some t) = subst (HasValueBelow (next v.now.state)) c.in-Some.is below in
    let own : SpeaksBelow (next w.now.state) t = subst (λ (s : State). SpeaksBelow (next s) t) (sym same) value in
    let agent : IsTerm u c.in_ok-agent.agent (number_tree c.args.agent) = c.in_ok-agent.ensures.ok.term ∙ ap (λ z. Some (int z)) (search rules) in
    let watch : IsTerm w c.in_ok-watch.watch (number_tree c.args.watch) = c.in_ok-watch.ensures.ok.term ∙ ap (λ z. Some (int z)) (search rules) in
    let agent_there = c.put_term.ensures.stays.keeps.terms c.in_ok-agent.agent (number_tree c.args.agent) (c.in_ok-watch.ensures.ok.changes.keeps.terms c.in_ok-agent.agent (number_tree c.args.agent) agent) in
    let watch_there = c.put_term.ensures.stays.keeps.terms c.in_ok-watch.watch (number_tree c.args.watch) watch in
    let all : IsTerm x made (activation_tree c.args.agent c.args.watch (Some t)) =
    c.in_ok-put_comp-in-Some.ensures.ok (tree (number_tree c.args.agent) (tree (number_tree c.args.watch) (tree t no_trees)))
    (three_terms y c.in_ok-agent.agent c.in_ok-watch.watch c.in_ok-value-in-Some.value (number_tree c.args.agent) (number_tree c.args.watch) t agent_there watch_there (c.in_ok-value-in-Some.ensures.ok own)) in
    subst (λ (o : Option Tree). IsTerm x made (activation_tree c.args.agent c.args.watch o)) (sym c.in-Some.is) all
