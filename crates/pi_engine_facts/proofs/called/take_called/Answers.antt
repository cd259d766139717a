use Rattle.std.proofs.Common.{rules}
use Rattle.pi_constraints.specs.State.{bindings, followed}
use Rattle.pi_engine_facts.proofs.CalledLemmas.{none-there, first-there, root-called}
use Rattle.pi_engine_facts.proofs.called.take_called.Goals as goal

pub returns-then-is_empty-clause-called : goal.returns-then-is_empty-clause-called
returns-then-is_empty-clause-called g c = λ t ts acyclic are. absurd (none-there (g.S.StateStore.seen c.args.store.now) c.args.terms.now t ts (search rules) are)

pub returns-clause-called : goal.returns-clause-called
returns-clause-called g c = λ t ts acyclic are.
    let v = g.S.StateStore.seen c.args.store.now in
    root-called v c.in_ok-name.name c.take_root.new.args.items c.push_others.new.args.items c.args.terms.now t (followed (bindings v.now.state) t) ts
    (c.in_ok-name.ensures.root t c.clear.ensures.items acyclic (first-there v c.args.terms.now t ts are)) are c.in_ok-push_others.ensures
