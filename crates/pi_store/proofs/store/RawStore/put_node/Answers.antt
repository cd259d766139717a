use Rattle.std.proofs.Common.{Some, refl, ap, ◌∙◌, subst, rules}
use Rattle.pi_terms.specs.Tree.{var, int, atom, ShowsHead}
use Rattle.pi_constraints.specs.Store.{IsTerm}
use Rattle.pi_store_blocks.specs.Built.{count_of}
use Rattle.pi_store_blocks.proofs.BuiltLemmas.{puts_leaf, puts_node, keeps_itself}
use Rattle.pi_store.specs.Holding.{seen}
use Rattle.pi_store.proofs.store.RawStore.put_node.Goals as goal

pub returns-in-Var-clause-ok : goal.returns-in-Var-clause-ok
returns-in-Var-clause-ok c =
    let v = seen c.args.self.now in
    puts_leaf v v c.args.head (var c.in-Var.n) c.args.built.now.items c.var_ref.result (λ u shown. subst (ShowsHead u) c.in-Var.is shown) (ap count_of c.in-Var.is) (λ ts. refl) (keeps_itself v) (λ below. c.var_ref.ensures below)

pub returns-in_ok-put_int-in-Int-clause-ok : goal.returns-in_ok-put_int-in-Int-clause-ok
returns-in_ok-put_int-in-Int-clause-ok c =
    let w = seen c.put_int.new.self in
    let term : IsTerm w c.in_ok-put_int-in-Int.field-0 (int c.in-Int.n) = c.in_ok-put_int-in-Int.ensures.ok.term ∙ ap (λ z. Some (int z)) (search rules) in
    puts_leaf (seen c.args.self.now) w c.args.head (int c.in-Int.n) c.args.built.now.items c.in_ok-put_int-in-Int.field-0 (λ u shown. subst (ShowsHead u) c.in-Int.is shown) (ap count_of c.in-Int.is) (λ ts. refl)
    c.in_ok-put_int-in-Int.ensures.ok.changes.keeps (λ below. term)

pub returns-in_ok-put_atom-in-Atom-clause-ok : goal.returns-in_ok-put_atom-in-Atom-clause-ok
returns-in_ok-put_atom-in-Atom-clause-ok c =
    puts_leaf (seen c.args.self.now) (seen c.put_atom.new.self) c.args.head (atom c.in-Atom.name.now) c.args.built.now.items c.in_ok-put_atom-in-Atom.field-0 (λ u shown. subst (ShowsHead u) c.in-Atom.is shown) (ap count_of c.in-Atom.is) (λ ts. refl)
    c.in_ok-put_atom-in-Atom.ensures.ok.changes.keeps (λ below. c.in_ok-put_atom-in-Atom.ensures.ok.term)

pub returns-in_ok-put_built-in-Comp-clause-ok : goal.returns-in_ok-put_built-in-Comp-clause-ok
returns-in_ok-put_built-in-Comp-clause-ok c =
    puts_node (seen c.args.self.now) (seen c.put_built.new.self) c.args.head c.in-Comp.name.now c.in-Comp.count c.args.built.now.items c.put_built.new.built.items c.in_ok-put_built-in-Comp.field-0 (λ u shown. subst (ShowsHead u) c.in-Comp.is shown) (ap count_of c.in-Comp.is)
    c.in_ok-put_built-in-Comp.ensures.ok
