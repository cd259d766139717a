use Rattle.std.proofs.Common.{arith, sym}
use Rattle.pi_syntax.proofs.WidthLemmas.{none_built_in}
use Rattle.pi_syntax.proofs.builtin.kind_of.Goals as goal

pub returns-in-Err : goal.returns-in-Err
returns-in-Err c = sym (none_built_in c.args.name.now c.args.arity (omega (arith, c.in-Err.ensures)))
