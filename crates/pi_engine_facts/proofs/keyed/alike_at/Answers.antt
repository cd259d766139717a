use Rattle.std.proofs.Common.{arith, sym, ◌∙◌, ap}
use Rattle.pi_terms.specs.Tree.{arg_at}
use Rattle.pi_constraints.specs.State.{bindings, followed}
use Rattle.pi_engine_facts.proofs.KeyedLemmas.{none-between, both-passed}
use Rattle.pi_engine_facts.proofs.keyed.alike_at.Goals as goal

pub returns-in_default-clause-passed : goal.returns-in_default-clause-passed
returns-in_default-clause-passed g c = λ ts state asked keys listed low ends. none-between ts (g.S.StateStore.seen c.args.s.now).now.state c.args.facts.now.clauses.now c.args.facts.now.first c.args.from

pub returns-clause-from_on : goal.returns-clause-from_on
returns-clause-from_on g c = omega (arith, c.min.ensures, c.next_with-alike.ensures.from_on, c.next_with-any.ensures.from_on)

pub returns-clause-passed : goal.returns-clause-passed
returns-clause-passed g c = λ ts state asked keys listed low ends.
    let v = g.S.StateStore.seen c.args.s.now in
    let facts = c.args.facts.now in
    both-passed v ts facts.keys.now facts.predicate c.args.place facts.first c.args.from facts.end c.next_with-alike.result c.next_with-any.result c.min.result facts.clauses.now c.args.call c.arg.result c.look-cell.result c.in-Some.value
    (record { below = c.look-cell.ensures.below; args = λ t u term acyclic at. c.arg.ensures t u term acyclic (ap (arg_at (followed (bindings v.now.state) t)) c.from.ensures ∙ at); shows = c.look-cell.ensures.shows; distinct = c.look-cell.ensures.distinct }) (sym c.sought.ensures ∙ c.in-Some.is) c.next_with-alike.ensures.least c.next_with-any.ensures.least (omega (arith, c.min.ensures)) (omega (arith, c.min.ensures)) state asked keys listed low ends
