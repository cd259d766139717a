use Rattle.std.proofs.Common.{◌≡◌, ap, sym, ◌∙◌}
use Rattle.pi_plan.specs.declared.given.GivenState.{GivenState}
use Rattle.pi_plan.proofs.AdvanceLemmas.{entry_is}
use Rattle.pi_plan.proofs.planner.stages.from_given.Goals as goal

pub returns-then-entry-clause-goes : goal.returns-then-entry-clause-goes
returns-then-entry-clause-goes c = λ w start limit h.
    let same : h.entry ≡ c.in-Some.entry.now = entry_is w c.args.given.now c.args.search.now c.args.way c.in-Some.entry.now h (sym c.in-Some.ensures) in
    c.found.ensures w c.args.given.now h (ap (λ (e : GivenState). e.is_final) same ∙ c.if-entry.true)
