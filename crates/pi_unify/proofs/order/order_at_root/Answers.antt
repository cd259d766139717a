use Rattle.std.proofs.Common.{◌≡◌, ◌∙◌, ap, refl, arith, rules}
use Rattle.std.specs.Ordering.{ordering_then, nat_cmp, int_cmp}
use Rattle.pi_constraints.specs.declared.store.Cell.{Cell}
use Rattle.pi_unify.proofs.ComparisonLemmas.{kind, begins_as, begins_before, begins_after, begins_variables, begins_integers, begins_atoms, begins_compounds, above_variables, above_integers, below_atoms, below_compounds}
use Rattle.pi_unify.proofs.order.order_at_root.Goals as goal

pub returns-in-Var-right : goal.returns-in-Var-right
returns-in-Var-right g c =
    let v = g.S.StateStore.seen c.args.s.now in begins_as v _ _ _ _ _ _ c.in-Var.is c.in-Var-right.is c.cmp.ensures (begins_variables v _ _)

pub returns-in_default : goal.returns-in_default
returns-in_default g c =
    let v = g.S.StateStore.seen c.args.s.now in begins_before v _ _ (omega (arith, ap kind c.in-Var.is, above_variables c.args.right c.in_default.not-Var))

pub returns-in-Var-right-2 : goal.returns-in-Var-right-2
returns-in-Var-right-2 g c =
    let v = g.S.StateStore.seen c.args.s.now in begins_after v _ _ (omega (arith, ap kind c.in-Int.is, ap kind c.in-Var-right-2.is))

pub returns-in-Int-right : goal.returns-in-Int-right
returns-in-Int-right g c =
    let v = g.S.StateStore.seen c.args.s.now in
    let m = c.in-Int.m in
    let n = c.in-Int-right.n in
    let same : c.cmp-in-Int-right.result ≡ int_cmp m n = search rules in
    begins_as v _ _ (Cell.Int m) (Cell.Int n) _ (int_cmp m n) c.in-Int.is c.in-Int-right.is same (begins_integers v m n)

pub returns-in_default-right : goal.returns-in_default-right
returns-in_default-right g c =
    let v = g.S.StateStore.seen c.args.s.now in
    begins_before v _ _ (omega (arith, ap kind c.in-Int.is, above_integers c.args.right c.in_default-right.not-Var c.in_default-right.not-Int))

pub returns-in-Atom-right : goal.returns-in-Atom-right
returns-in-Atom-right g c =
    let v = g.S.StateStore.seen c.args.s.now in
    let j = c.in-Atom.j in
    let k = c.in-Atom-right.k in
    let o = c.order_of_names.result in
    begins_as v _ _ (Cell.Atom j) (Cell.Atom k) o o c.in-Atom.is c.in-Atom-right.is refl (begins_atoms v j k o c.order_of_names.ensures)

pub returns-in-Comp-right : goal.returns-in-Comp-right
returns-in-Comp-right g c =
    let v = g.S.StateStore.seen c.args.s.now in begins_before v _ _ (omega (arith, ap kind c.in-Atom.is, ap kind c.in-Comp-right.is))

pub returns-in_default-right-2 : goal.returns-in_default-right-2
returns-in_default-right-2 g c =
    let v = g.S.StateStore.seen c.args.s.now in
    begins_after v _ _ (omega (arith, ap kind c.in-Atom.is, below_atoms c.args.right c.in_default-right-2.not-Atom c.in_default-right-2.not-Comp))

pub returns-in-Comp-right-2 : goal.returns-in-Comp-right-2
returns-in-Comp-right-2 g c =
    let v = g.S.StateStore.seen c.args.s.now in
    let j = c.in-Comp.j in
    let m = c.in-Comp.m in
    let k = c.in-Comp-right-2.k in
    let n = c.in-Comp-right-2.n in
    let o = c.order_of_names-in-Comp-right-2.result in
    begins_as v _ _ (Cell.Comp j m) (Cell.Comp k n) _ (ordering_then (nat_cmp m n) o) c.in-Comp.is c.in-Comp-right-2.is
    (c.then.ensures ∙ ap (λ p. ordering_then p o) c.cmp-in-Comp-right-2.ensures)
    (begins_compounds v j k m n o c.order_of_names-in-Comp-right-2.ensures)

pub returns-in_default-right-3 : goal.returns-in_default-right-3
returns-in_default-right-3 g c =
    let v = g.S.StateStore.seen c.args.s.now in begins_after v _ _ (omega (arith, ap kind c.in-Comp.is, below_compounds c.args.right c.in_default-right-3.not-Comp))
