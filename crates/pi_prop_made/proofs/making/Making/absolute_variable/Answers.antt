-- A new variable is the absolute value.
use Rattle.pi_prop_made.specs.Making.{with_variable}
use Rattle.pi_prop_made.proofs.ProductLemmas.{absolute_keeps, absolute_made}
use Rattle.pi_prop_made.proofs.making.Making.absolute_variable.Goals as goal

pub returns-in-Ok-keep : goal.returns-in-Ok-keep
returns-in-Ok-keep c = λ m s.
    absolute_made c.args.x c.in-Ok.z m c.keep.new.self c.variable.result (c.in-Ok.ensures m s).0 (c.in-Ok-keep.ensures (with_variable m) (absolute_keeps c.in-Ok.z c.args.x) (c.in-Ok.ensures m s).1) c.variable.ensures
