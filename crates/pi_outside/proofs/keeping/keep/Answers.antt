use Rattle.std.proofs.Common.{◌≡◌, ◌≤◌, ◌-◌, ◌++◌, ◌∙◌, ap, min, take, length, arith}
use Rattle.std.proofs.lemmas.Grind.{common_steps}
use Rattle.pi_outside.proofs.Memory.{kept-take}
use Rattle.pi_outside.proofs.keeping.keep.Goals as goal

pub returns-clause-ok : goal.returns-clause-ok
returns-clause-ok c =
    let old = c.args.kept.now.items in
    let piece = c.args.piece.now in
    let within : length old ≤ c.args.longest = omega (arith, c.requires) in
    let fits : c.min-count.result ≡ min (length piece) (c.args.longest - length old) = grind arith in
    let new : c.extend_from_slice.new.self.items ≡ old ++ take c.min-count.result piece = grind (arith, common_steps) in
    new ∙ ap (λ n. old ++ take n piece) fits ∙ kept-take old piece c.args.longest within
