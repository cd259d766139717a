-- A difference is the sum with the opposite.
use Rattle.pi_prop_made.proofs.JudgedLemmas.{subtracted_exchanged}
use Rattle.pi_prop_made.proofs.terms.Terms.subtract.Goals as goal

pub returns-then-len : goal.returns-then-len
returns-then-len c = subtracted_exchanged c.args.self c.args.other c.negate.new.self c.with_all.result c.negate.ensures c.with_all.ensures
