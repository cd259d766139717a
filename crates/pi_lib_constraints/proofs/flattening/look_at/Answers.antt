use Rattle.pi_constraints.specs.State.{bindings}
use Rattle.pi_constraints.specs.declared.store.Cell.{Cell}
use Rattle.pi_terms.specs.Tree.{args}
use Rattle.pi_constraints.specs.State.{followed}
use Rattle.pi_unify.specs.Terms.{term_of}
use Rattle.pi_lib_constraints.proofs.LeafLemmas.{leaf-var, leaf-int, leaf-step, whole-step, whole_atom, whole_comp, shown-root}
use Rattle.pi_lib_constraints.proofs.flattening.look_at.Goals as goal

pub returns-in_ok-push-in-Var : goal.returns-in_ok-push-in-Var
returns-in_ok-push-in-Var g c = λ a given gs.
    let v = g.S.StateStore.seen c.args.s.now in
    let root = shown-root v c.args.at (Cell.Var c.in-Var.field-0) c.in-Var.ensures.shows a given in
    leaf-step v c.args.at c.args.found.now.items c.args.left.now.items c.push.new.self.items (leaf-var (bindings v.now.state) (term_of v c.args.at) c.in-Var.field-0 a root) given gs c.in_ok-push-in-Var.ensures.items

pub returns-in_ok-push-in-Int : goal.returns-in_ok-push-in-Int
returns-in_ok-push-in-Int g c = λ a given gs.
    let v = g.S.StateStore.seen c.args.s.now in
    let root = shown-root v c.args.at (Cell.Int c.in-Int.field-0) c.in-Int.ensures.shows a given in
    leaf-step v c.args.at c.args.found.now.items c.args.left.now.items c.push-in-Int.new.self.items (leaf-int (bindings v.now.state) (term_of v c.args.at) c.in-Int.field-0 a root) given gs c.in_ok-push-in-Int.ensures.items

pub returns-in-Atom : goal.returns-in-Atom
returns-in-Atom g c = λ a given gs.
    let v = g.S.StateStore.seen c.args.s.now in
    let root = shown-root v c.args.at (Cell.Atom c.in-Atom.field-0) c.in-Atom.ensures.shows a given in
    whole-step v c.args.at c.args.found.now.items c.args.left.now.items c.leave_items.new.left.items c.leave_items.result _ a (whole_atom root.0) root.2 given (c.leave_items.ensures a given gs)

pub returns-in-Comp : goal.returns-in-Comp
returns-in-Comp g c = λ a given gs.
    let v = g.S.StateStore.seen c.args.s.now in
    let root = shown-root v c.args.at (Cell.Comp c.in-Comp.field-0 c.in-Comp.field-1) c.in-Comp.ensures.shows a given in
    whole-step v c.args.at c.args.found.now.items c.args.left.now.items c.leave_items-in-Comp.new.left.items c.leave_items-in-Comp.result _ a (whole_comp root.0 (args (followed (bindings v.now.state) (term_of v c.args.at)))) root.2 given (c.leave_items-in-Comp.ensures a given gs)
