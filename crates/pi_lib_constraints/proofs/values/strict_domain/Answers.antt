use Rattle.pi_lib_constraints.proofs.SideLemmas.{strict-made}
use Rattle.pi_lib_constraints.proofs.values.strict_domain.Goals as goal

pub returns-in-Ok : goal.returns-in-Ok
returns-in-Ok c = strict-made c.args.numbers.now c.of_list.result c.in-Ok.made c.in-Ok.is c.spans-spans.ensures.domain c.in-Ok.ensures.values c.of_list.ensures.too_wide
