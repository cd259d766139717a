use Rattle.std.proofs.Common.{rules, ◌∙◌}
use Rattle.pi_engine_arenas.proofs.arenas.Arenas.return_to.Goals as goal

pub returns-clause-keeps : goal.returns-clause-keeps
returns-clause-keeps g c = λ m h few early.
    let first : _ = c.truncate.ensures.keeps m h (search rules) (search rules) in
    let second : _ = c.truncate-3.ensures.keeps m first.0 in
    (second.0, second.1 ∙ first.1)
