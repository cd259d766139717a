use Rattle.std.proofs.Common.{arith}
use Rattle.pi_lex.proofs.LineLemmas.{length-located_from}
use Rattle.pi_lex.proofs.store.Store.len.Goals as goal

pub returns : goal.returns
returns c = omega (arith, c.len.ensures, length-located_from c.args.self.now 0 c.args.self.now.forms.items)
