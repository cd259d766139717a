use Rattle.std.proofs.Common.{◌∙◌}
use Rattle.pi_prog_clauses.specs.Called.{named_by}
use Rattle.pi_prog_clauses.proofs.names.DefinitionLemmas.{contains_is}
use Rattle.pi_prog_clauses.proofs.names.definitions.Definitions.contains.Goals as goal

pub returns : goal.returns
returns c = λ names is. c.contains.ensures ∙ contains_is c.args.self.now c.args.name ∙ is.each (named_by c.args.name)
