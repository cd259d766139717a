use Rattle.std.proofs.Common.{◌<◌, ◌≤◌, length, sym, ◌∙◌, arith}
use Rattle.pi_engine_code.specs.Code.{tables_of}
use Rattle.pi_terms.proofs.ListLemmas.{none-past}
use Rattle.pi_engine_code.proofs.CodeLemmas.{stands-first, stands-within}
use Rattle.pi_engine_code.proofs.code.Code.step.Goals as goal

pub returns-in-Some-clause-shows : goal.returns-in-Some-clause-shows
returns-in-Some-clause-shows c = λ terms g at.
    stands-first (tables_of terms c.args.self.now) c.args.self.now.steps.items c.args.place g c.in-Some.step at (sym c.step_at.ensures ∙ c.in-Some.is)

pub returns-in-None-clause-shows : goal.returns-in-None-clause-shows
returns-in-None-clause-shows c = λ terms g at.
    let within : c.args.place < length c.args.self.now.steps.items = stands-within (tables_of terms c.args.self.now) c.args.self.now.steps.items c.args.place g at in
    let past : length c.args.self.now.steps.items ≤ c.args.place = none-past c.args.self.now.steps.items c.args.place (sym c.step_at.ensures ∙ c.in-None.is) in
    absurd (omega arith)
