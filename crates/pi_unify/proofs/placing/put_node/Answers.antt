use Rattle.std.proofs.Common.{◌≡◌, ap, ◌∙◌, subst, Some, rules, refl}
use Rattle.std.proofs.lemmas.Result.{IfOk-weaker}
use Rattle.pi_terms.specs.Tree.{int, atom, ShowsHead}
use Rattle.pi_constraints.specs.Store.{IsTerm}
use Rattle.pi_unify.specs.Copying.{renumbered}
use Rattle.pi_unify.proofs.PlaceLemmas.{puts_variable, puts_integer, puts_atom}
use Rattle.pi_unify.proofs.KeepsLemmas.{keeps_none}
use Rattle.pi_unify.proofs.BindLemmas.{either_way}
use Rattle.pi_unify.proofs.placing.put_node.Goals as goal

pub returns-in-Var-clause-ok : goal.returns-in-Var-clause-ok
returns-in-Var-clause-ok g c = λ u ts shown put.
    let v = g.S.StateStore.seen c.args.s.now in
    puts_variable v (renumbered v.now.state c.args.numbers.now) u c.args.head c.in-Var.n c.args.built.now.items c.new_variable.result ts c.in-Var.is shown (c.new_variable.ensures c.requires.made) put

pub returns-in-Int-clause-ok : goal.returns-in-Int-clause-ok
returns-in-Int-clause-ok g c =
    let v = g.S.StateStore.seen c.args.s.now in
    let w = g.S.StateStore.seen c.put_int.new.self in
    IfOk-weaker c.put_int.result _ _
    (λ made so u ts shown put.
    let term : IsTerm w made (int c.in-Int.n) = so.term ∙ ap (λ z. Some (int z)) (search rules) in
    puts_integer v w (renumbered v.now.state c.args.numbers.now) u c.args.head c.in-Int.n c.args.built.now.items made ts c.in-Int.is shown so.changes.keeps term put) c.put_int.ensures.ok

pub returns-in-Atom-clause-ok : goal.returns-in-Atom-clause-ok
returns-in-Atom-clause-ok g c =
    let v = g.S.StateStore.seen c.args.s.now in
    let w = g.S.StateStore.seen c.put_atom.new.self in
    IfOk-weaker c.put_atom.result _ _
    (λ made so u ts shown put.
    let here : u ≡ atom c.in-Atom.name.now = subst (ShowsHead u) c.in-Atom.is shown in
    puts_atom v w (renumbered v.now.state c.args.numbers.now) u c.in-Atom.name.now c.args.built.now.items made ts here so.changes.keeps so.term put) c.put_atom.ensures.ok

pub returns-in-Var-clause-stays : goal.returns-in-Var-clause-stays
returns-in-Var-clause-stays g c = record { keeps = keeps_none (g.S.StateStore.seen c.args.s.now); state = refl }

pub returns-in-Int-clause-stays : goal.returns-in-Int-clause-stays
returns-in-Int-clause-stays g c = either_way c.put_int.result _ _ c.put_int.ensures.ok c.put_int.ensures.err (λ made so. so.changes)

pub returns-in-Atom-clause-stays : goal.returns-in-Atom-clause-stays
returns-in-Atom-clause-stays g c = either_way c.put_atom.result _ _ c.put_atom.ensures.ok c.put_atom.ensures.err (λ made so. so.changes)

pub returns-in-Comp-clause-stays : goal.returns-in-Comp-clause-stays
returns-in-Comp-clause-stays g c = c.put_compound.ensures.stays
