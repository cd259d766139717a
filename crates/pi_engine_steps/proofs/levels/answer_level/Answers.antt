use Rattle.std.proofs.Common.{refl}
use Rattle.std.proofs.lemmas.Result.{IfOk-weaker}
use Rattle.pi_engine_arenas.specs.declared.arenas.Kind.{Kind}
use Rattle.pi_engine_arenas.specs.Arenas.{view_of, IsLevel}
use Rattle.pi_engine_stands.specs.Stands.{world}
use Rattle.pi_engine_stands.proofs.LevelsAnswer.{level-there, no-value-answer}
use Rattle.pi_engine_steps.proofs.levels.answer_level.Goals as goal

pub returns-in_default : goal.returns-in_default
returns-in_default g c = λ l is_code some view names p e k es stands none last balanced.
    absurd (level-there (world l (g.S.StateStore.seen c.args.run.now.store) g.S.StateStore.order (view_of c.args.run.now.arenas)) es stands.entries some c.in_default.ensures.none)

pub returns-in-Strict : goal.returns-in-Strict
returns-in-Strict g c = IfOk-weaker c.answer_strict.result _ _ (λ _ so l is_code. so l is_code (record { entry = c.in-Some.entry.now; at = c.in-Some.ensures.some; back_is = refl; is_open = refl }) c.in-Strict.is) c.answer_strict.ensures

pub returns-in-Catch : goal.returns-in-Catch
returns-in-Catch g c = IfOk-weaker c.leave_catch.result _ _ (λ _ so l is_code some.
    so l c.in-Catch.field-0 (record { entry = c.in-Some.entry.now; at = c.in-Some.ensures.some; back_is = refl; is_open = refl }) c.in-Catch.is) c.leave_catch.ensures

pub returns-in-Rules : goal.returns-in-Rules
returns-in-Rules g c = λ l is_code some view names p e k es stands none last balanced.
    let run = c.args.run.now in
    let back = c.in-Some.entry.now.back in
    let is : IsLevel (view_of run.arenas) run.arenas.level back = record { entry = c.in-Some.entry.now; at = c.in-Some.ensures.some; back_is = refl; is_open = refl } in
    absurd (no-value-answer (world l (g.S.StateStore.seen run.store) g.S.StateStore.order (view_of run.arenas)) run.arenas.level back (Kind.Rules c.in-Rules.field-0 c.in-Rules.field-1) p e k es is c.in-Rules.is (λ base. refl) stands none last)

pub returns-in-Facts : goal.returns-in-Facts
returns-in-Facts g c = λ l is_code some view names p e k es stands none last balanced.
    let run = c.args.run.now in
    let back = c.in-Some.entry.now.back in
    let is : IsLevel (view_of run.arenas) run.arenas.level back = record { entry = c.in-Some.entry.now; at = c.in-Some.ensures.some; back_is = refl; is_open = refl } in
    absurd (no-value-answer (world l (g.S.StateStore.seen run.store) g.S.StateStore.order (view_of run.arenas)) run.arenas.level back (Kind.Facts c.in-Facts.field-0 c.in-Facts.field-1) p e k es is c.in-Facts.is (λ base. refl) stands none last)

pub returns-in-Branches : goal.returns-in-Branches
returns-in-Branches g c = λ l is_code some view names p e k es stands none last balanced.
    let run = c.args.run.now in
    let back = c.in-Some.entry.now.back in
    let is : IsLevel (view_of run.arenas) run.arenas.level back = record { entry = c.in-Some.entry.now; at = c.in-Some.ensures.some; back_is = refl; is_open = refl } in
    absurd (no-value-answer (world l (g.S.StateStore.seen run.store) g.S.StateStore.order (view_of run.arenas)) run.arenas.level back (Kind.Branches c.in-Branches.field-0 c.in-Branches.field-1) p e k es is c.in-Branches.is (λ base. refl) stands none last)

pub returns-in-Alternatives : goal.returns-in-Alternatives
returns-in-Alternatives g c = λ l is_code some view names p e k es stands none last balanced.
    let run = c.args.run.now in
    let back = c.in-Some.entry.now.back in
    let is : IsLevel (view_of run.arenas) run.arenas.level back = record { entry = c.in-Some.entry.now; at = c.in-Some.ensures.some; back_is = refl; is_open = refl } in
    absurd (no-value-answer (world l (g.S.StateStore.seen run.store) g.S.StateStore.order (view_of run.arenas)) run.arenas.level back (Kind.Alternatives c.in-Alternatives.field-0 c.in-Alternatives.field-1) p e k es is c.in-Alternatives.is (λ base. refl) stands none last)

pub returns-in-Exit : goal.returns-in-Exit
returns-in-Exit g c = λ l is_code some view names p e k es stands none last balanced.
    let run = c.args.run.now in
    let back = c.in-Some.entry.now.back in
    let is : IsLevel (view_of run.arenas) run.arenas.level back = record { entry = c.in-Some.entry.now; at = c.in-Some.ensures.some; back_is = refl; is_open = refl } in
    absurd (no-value-answer (world l (g.S.StateStore.seen run.store) g.S.StateStore.order (view_of run.arenas)) run.arenas.level back Kind.Exit p e k es is c.in-Exit.is (λ base. refl) stands none last)
