use Rattle.std.proofs.Common.{◌∙◌}
use Rattle.pi_atoms.proofs.AtomLemmas.{same_names, distinct_copied}
use Rattle.pi_atoms.proofs.atoms.Atoms.copied.Goals as goal

pub invariant_of-result : goal.invariant_of-result
invariant_of-result c = distinct_copied c.self.inside.names.keys c.in_ok-names.names.keys c.in_ok-names.ensures.cases c.self.invariant

pub returns : goal.returns
returns c = same_names c.self.inside.names.keys c.in_ok-names.names.keys c.in_ok-names.ensures.cases ∙ c.self.view_is
