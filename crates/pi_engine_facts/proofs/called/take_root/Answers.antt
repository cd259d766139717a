use Rattle.std.proofs.Common.{◌≡◌, subst, arith}
use Rattle.pi_terms.specs.Tree.{Tree, args}
use Rattle.pi_constraints.specs.State.{bindings, followed}
use Rattle.pi_engine_facts.proofs.CalledLemmas.{AreFirst, root-atom, root-comp}
use Rattle.pi_engine_facts.proofs.called.take_root.Goals as goal

pub returns-in-Atom-clause-root : goal.returns-in-Atom-clause-root
returns-in-Atom-clause-root g c = λ t none acyclic there.
    let v = g.S.StateStore.seen c.args.store.now in
    root-atom v c.args.args.now.items c.in-Atom.name (followed (bindings v.now.state) t) none (c.in-Atom.ensures.shows t there acyclic)

pub returns-after-loop-i-clause-root : goal.returns-after-loop-i-clause-root
returns-after-loop-i-clause-root g c = λ t none acyclic there.
    let v = g.S.StateStore.seen c.args.store.now in
    let u : Tree = followed (bindings v.now.state) t in
    let all : c.loop-i.i ≡ c.in-Comp.count = omega arith in
    root-comp v c.loop-i.args.items c.in-Comp.name c.in-Comp.count u (c.in-Comp.ensures.shows t there acyclic) (subst (λ n. AreFirst v c.loop-i.args.items n (args u)) all (c.loop-i.invariant t none acyclic there))
