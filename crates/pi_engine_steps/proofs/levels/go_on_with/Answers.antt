use Rattle.std.proofs.Common.{sym, subst}
use Rattle.std.proofs.lemmas.Result.{IfOk-weaker}
use Rattle.pi_engine_arenas.specs.Arenas.{view_of}
use Rattle.pi_engine_stands.specs.Makes.{IsPassed}
use Rattle.pi_engine_stands.specs.Stands.{world}
use Rattle.pi_engine_stands.proofs.FailsStand.{branches-fail, strict-fails}
use Rattle.pi_engine_steps.proofs.levels.go_on_with.Goals as goal

pub returns-in-Rules : goal.returns-in-Rules
returns-in-Rules g c = λ l is_code no_rules no_alternatives y es it. absurd (no_rules _ _ c.in-Rules.is)

pub returns-in-Alternatives : goal.returns-in-Alternatives
returns-in-Alternatives g c = λ l is_code no_rules no_alternatives y es it. absurd (no_alternatives _ _ c.in-Alternatives.is)

pub returns-in-Facts : goal.returns-in-Facts
returns-in-Facts g c = IfOk-weaker c.retry_facts.result _ _ (λ _ so l is_code no_rules no_alternatives. so l is_code c.in-Facts.is) c.retry_facts.ensures

pub returns-in-Branches : goal.returns-in-Branches
returns-in-Branches g c = λ l is_code no_rules no_alternatives y es it.
    let seen = g.S.StateStore.seen in
    let order = g.S.StateStore.order in
    let run = c.args.run.now in
    let after = c.next_branch.new.run in
    branches-fail (world l (seen run.store) order (view_of run.arenas)) (world l (seen after.store) order (view_of after.arenas)) c.args.back c.in-Branches.place c.in-Branches.count y es after.now c.in-Branches.is it
    (c.next_branch.ensures l is_code c.in-Branches.is)

pub returns-in-Strict : goal.returns-in-Strict
returns-in-Strict g c = IfOk-weaker c.end_strict.result _ _ (λ _ so l is_code no_rules no_alternatives y es it.
    let seen = g.S.StateStore.seen in
    let order = g.S.StateStore.order in
    let run = c.args.run.now in
    let after = c.end_strict.new.run in
    strict-fails (world l (seen run.store) order (view_of run.arenas)) (world l (seen after.store) order (view_of after.arenas)) c.args.back c.in-Strict.strict y es after.now c.in-Strict.is it
    (so l is_code c.in-Strict.is)) c.end_strict.ensures

pub returns-in-Catch : goal.returns-in-Catch
returns-in-Catch g c = λ l is_code no_rules no_alternatives. c.pass_over.ensures l (subst IsPassed (sym c.in-Catch.is) tt)

pub returns-in-Exit : goal.returns-in-Exit
returns-in-Exit g c = λ l is_code no_rules no_alternatives. c.pass_over-in-Exit.ensures l (subst IsPassed (sym c.in-Exit.is) tt)
