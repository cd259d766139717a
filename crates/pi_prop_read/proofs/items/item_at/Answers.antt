use Rattle.std.specs.Prelude.{◌≡◌}
use Rattle.std.specs.Int.{w128}
use Rattle.std.proofs.Common.{rules, subst, to_z, of_z}
use Rattle.pi_constraints.specs.declared.constraint.Item.{Item}
use Rattle.pi_prop_made.specs.Items.{IsJudged}
use Rattle.pi_prop_read.specs.Refs.{tree_of}
use Rattle.pi_prop_read.proofs.ItemLemmas.{variable-item, integer-item, atom-item, compound-item}
use Rattle.pi_prop_read.proofs.items.item_at.Goals as goal

pub returns-in-Var : goal.returns-in-Var
returns-in-Var g c = λ m s here.
    let v = g.S.StateStore.seen c.args.s.now in
    variable-item v c.args.term c.look.result c.in-Var.variable m s c.in-Var.is (c.look.ensures.shows (tree_of v.now c.args.term) here s.acyclic)

pub returns-in-Int : goal.returns-in-Int
returns-in-Int g c = λ m s here.
    let v = g.S.StateStore.seen c.args.s.now in
    let bits : to_z w128 (of_z w128 c.in-Int.number) ≡ c.in-Int.number = search rules in
    integer-item v c.args.term c.look.result c.in-Int.number c.integer_item.result m s c.in-Int.is (c.look.ensures.shows (tree_of v.now c.args.term) here s.acyclic) (subst (λ i. IsJudged c.integer_item.result (Item.Int i)) bits c.integer_item.ensures)

pub returns-in-Atom : goal.returns-in-Atom
returns-in-Atom g c = λ m s here.
    let v = g.S.StateStore.seen c.args.s.now in
    atom-item v c.args.term c.in-Atom.field-0 m s here (c.in-Atom.ensures.shows (tree_of v.now c.args.term) here s.acyclic)

pub returns-in-Comp : goal.returns-in-Comp
returns-in-Comp g c = λ m s here.
    let v = g.S.StateStore.seen c.args.s.now in
    compound-item v c.args.term c.in-Comp.field-0 c.in-Comp.field-1 m s here (c.in-Comp.ensures.shows (tree_of v.now c.args.term) here s.acyclic)
