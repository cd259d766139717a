-- By 1 nothing changes.
use Rattle.std.specs.Prelude.{◌≡◌, pos}
use Rattle.std.proofs.Common.{rules}
use Rattle.pi_prop_made.proofs.JudgedLemmas.{scales_once}
use Rattle.pi_prop_made.proofs.terms.Terms.scale.Goals as goal

pub returns-then-factor-eq1 : goal.returns-then-factor-eq1
returns-then-factor-eq1 c = let one : c.args.factor ≡ pos 1 = search rules in scales_once c.args.factor c.args.self one
