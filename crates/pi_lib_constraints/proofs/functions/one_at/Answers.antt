use Rattle.pi_constraints.specs.State.{bindings, followed}
use Rattle.std.specs.Prelude.{pos}
use Rattle.pi_lib_constraints.specs.Functions.{count_of}
use Rattle.pi_lib_constraints.proofs.FunctionLemmas.{int-some, one-only}
use Rattle.pi_lib_constraints.proofs.functions.one_at.Goals as goal

pub returns-in-Int : goal.returns-in-Int
returns-in-Int g c = λ t is at none.
    let s = (g.S.StateStore.seen c.args.s.now).now.state in
    int-some s (followed (bindings s) t) c.in-Int.field-0 count_of (pos 1) (c.in-Int.ensures.shows t at is.acyclic) (one-only c.in-Int.field-0)
