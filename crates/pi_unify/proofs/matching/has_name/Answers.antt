use Rattle.std.proofs.Common.{ap, ◌∙◌}
use Rattle.std.specs.Str.{bytes_eq}
use Rattle.pi_unify.proofs.SlotLemmas.{names_told}
use Rattle.pi_unify.proofs.matching.has_name.Goals as goal

pub returns : goal.returns
returns g c = λ f is. c.eq.ensures ∙ (ap (bytes_eq c.args.name.now) (c.name.ensures f is) ∙ names_told c.args.name.now f)
