use Rattle.std.proofs.Common.{refl}
use Rattle.pi_terms.specs.Tree.{atom}
use Rattle.pi_constraints.specs.State.{bindings}
use Rattle.pi_engine_code.proofs.LaidTests.{acyclic-stays, number-shown, atom-shown}
use Rattle.pi_engine_code.proofs.build.named.number_of.Goals as goal

pub returns-in-Atom-clause-is : goal.returns-in-Atom-clause-is
returns-in-Atom-clause-is g c = λ acyclic. (
  c.in-Atom.number,
  refl,
  number-shown (g.S.StateStore.seen c.put_atom.new.self) c.args.name.now (bindings (g.S.StateStore.seen c.put_atom.new.self).now.state) c.in-Atom.number
      (c.in-Atom.ensures.shows (atom c.args.name.now) c.in_ok-atom.ensures.ok.term (acyclic-stays (g.S.StateStore.seen c.args.store.now) (g.S.StateStore.seen c.put_atom.new.self) c.in_ok-atom.ensures.ok.changes acyclic)),
)

pub returns-in_default-clause-is : goal.returns-in_default-clause-is
returns-in_default-clause-is g c = λ acyclic.
    absurd (atom-shown (g.S.StateStore.seen c.put_atom.new.self) c.args.name.now (bindings (g.S.StateStore.seen c.put_atom.new.self).now.state) c.look.result
    (c.look.ensures.shows (atom c.args.name.now) c.in_ok-atom.ensures.ok.term (acyclic-stays (g.S.StateStore.seen c.args.store.now) (g.S.StateStore.seen c.put_atom.new.self) c.in_ok-atom.ensures.ok.changes acyclic)) c.in_default.not-Atom)
