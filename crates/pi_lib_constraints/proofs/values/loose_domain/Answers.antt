use Rattle.pi_lib_constraints.proofs.SideLemmas.{loose-made}
use Rattle.pi_lib_constraints.proofs.values.loose_domain.Goals as goal

pub returns-in-Ok : goal.returns-in-Ok
returns-in-Ok c = loose-made c.args.numbers.now c.in_ok-within.within.items c.deref.result.now c.in-Ok.made c.in_ok-within.ensures c.deref.ensures.value c.spans-spans.ensures.domain c.in-Ok.ensures.values
