use Rattle.pi_terms.specs.Tree.{atom}
use Rattle.pi_constraints.specs.State.{bindings}
use Rattle.pi_engine_code.proofs.LaidTests.{atom-test, acyclic-stays}
use Rattle.pi_engine_code.proofs.build.rules.test_of.Goals as goal

pub returns-in-Atom-look-clause-is : goal.returns-in-Atom-look-clause-is
returns-in-Atom-look-clause-is g c = λ acyclic.
    let shows = c.in-Atom-look.ensures.shows (atom c.as_str.result.now) c.in_ok-atom-in-Atom.ensures.ok.term (acyclic-stays (g.S.StateStore.seen c.args.store.now) (g.S.StateStore.seen c.put_atom.new.self) c.in_ok-atom-in-Atom.ensures.ok.changes acyclic) in
    (shows.0, shows.1, atom-test c.args.pattern.now c.in-Atom.name c.as_str.result.now shows.0 (bindings (g.S.StateStore.seen c.put_atom.new.self).now.state) c.in-Atom.is c.as_str.ensures shows.2)
