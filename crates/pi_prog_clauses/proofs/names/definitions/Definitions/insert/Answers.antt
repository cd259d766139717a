use Rattle.pi_prog_clauses.proofs.names.DefinitionLemmas.{set_before, set_behind}
use Rattle.pi_prog_clauses.proofs.names.definitions.Definitions.insert.Goals as goal

pub returns-clause-before : goal.returns-clause-before
returns-clause-before c = set_before c.args.self.now _ c.args.name c.in_ok-insert.ensures.updates.0

pub returns-clause-behind : goal.returns-clause-behind
returns-clause-behind c = set_behind c.args.self.now _ c.args.name c.in_ok-insert.ensures.updates.0
