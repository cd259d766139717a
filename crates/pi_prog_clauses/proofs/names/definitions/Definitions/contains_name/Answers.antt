use Rattle.std.proofs.Common.{◌∙◌, sym}
use Rattle.pi_prog_clauses.proofs.names.DefinitionLemmas.{either_kind, or_first, or_second}
use Rattle.pi_prog_clauses.proofs.names.definitions.Definitions.contains_name.Goals as goal

pub returns-then-contains : goal.returns-then-contains
returns-then-contains c = λ names is.
    let first = c.contains.ensures names is in
    let e = either_kind c.args.name names in
    first ∙ or_first _ _ _ e (sym first ∙ c.if-contains.true)

pub returns-else-contains : goal.returns-else-contains
returns-else-contains c = λ names is.
    let first = c.contains.ensures names is in
    let e = either_kind c.args.name names in
    c.contains_other_kind.ensures names is ∙ or_second _ _ _ e (sym first ∙ c.if-contains.false)
