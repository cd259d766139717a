use Rattle.std.proofs.Common.{◌∙◌, refl, sym, ap, subst}
use Rattle.std.proofs.lemmas.Result.{IfOk-weaker}
use Rattle.pi_engine_arenas.specs.declared.arenas.Kind.{Kind}
use Rattle.pi_engine_arenas.specs.declared.arenas.Strict.{Strict}
use Rattle.pi_engine_arenas.specs.Arenas.{view_of, IsLevel}
use Rattle.pi_engine_stands.specs.Stands.{world}
use Rattle.pi_engine_stands.specs.Tries.{TakesGuarded}
use Rattle.pi_engine_stands.proofs.CatchAnswers.{LevelAt, level-at}
use Rattle.pi_engine_stands.proofs.LevelsAnswer.{guard-answers, no-value-answer}
use Rattle.pi_engine_steps.proofs.levels.answer_strict.Goals as goal
use Rattle.pi_engine_stands.specs.Changes.{change}

pub returns-in-Once : goal.returns-in-Once
returns-in-Once g c = λ l is_code is named some. c.leave_once.ensures l c.in-Once.field-0 is (named ∙ ap Kind.Strict c.in-Once.is)

pub returns-in-Not : goal.returns-in-Not
returns-in-Not g c = λ l is_code is named some. c.leave_not.ensures l c.in-Not.field-0 is (named ∙ ap Kind.Strict c.in-Not.is)

pub returns-in-If : goal.returns-in-If
returns-in-If g c = λ l is_code is named some. c.leave_if.ensures l is_code is (named ∙ ap Kind.Strict c.in-If.is)

pub returns-in-Guard : goal.returns-in-Guard
returns-in-Guard g c = IfOk-weaker c.take_guarded.result _ _ (λ _ so l is_code is named some view names p e k es stands none last balanced.
    let seen = g.S.StateStore.seen in
    let order = g.S.StateStore.order in
    let w = world l (seen c.args.run.now.store) order (view_of c.args.run.now.arenas) in
    let u = seen c.take_guarded.new.run.store in
    let b = view_of c.take_guarded.new.run.arenas in
    let it : LevelAt w c.args.level c.args.back = level-at w c.args.level c.args.back is in
    guard-answers w u b it.i c.in-Guard.predicate c.in-Guard.rule it.x c.args.back c.take_guarded.new.run.now p es view names e k stands none last balanced it.level it.at it.back_is (named ∙ ap Kind.Strict c.in-Guard.is)
    (subst (λ n. TakesGuarded n c.args.back c.in-Guard.predicate c.in-Guard.rule (change w (world l u order b) c.take_guarded.new.run.now)) it.is (so l is_code))) c.take_guarded.ensures

pub returns-in-Collect : goal.returns-in-Collect
returns-in-Collect g c = IfOk-weaker c.add_value.result _ _ (λ _ so l is_code is named some.
    so l is_code c.in-Collect.field-1 (subst (λ n. IsLevel (view_of c.args.run.now.arenas) n c.args.back) (sym is.is_open) is) (named ∙ ap Kind.Strict c.in-Collect.is)) c.add_value.ensures

pub returns-in-Count : goal.returns-in-Count
returns-in-Count g c = IfOk-weaker c.count_answer.result _ _ (λ _ so l is_code is named some. so l c.args.back is (named ∙ ap Kind.Strict c.in-Count.is)) c.count_answer.ensures

pub returns-in-Search : goal.returns-in-Search
returns-in-Search g c = IfOk-weaker c.answer_search.result _ _ (λ _ so l is_code is named some. so l is_code is (named ∙ ap Kind.Strict c.in-Search.is)) c.answer_search.ensures

pub returns-in-Apply : goal.returns-in-Apply
returns-in-Apply g c = λ l is_code is named some view names p e k es stands none last balanced.
    absurd (no-value-answer (world l (g.S.StateStore.seen c.args.run.now.store) g.S.StateStore.order (view_of c.args.run.now.arenas)) c.args.level c.args.back (Kind.Strict (Strict.Apply c.in-Apply.field-0 c.in-Apply.field-1)) p e k es is
    (named ∙ ap Kind.Strict c.in-Apply.is) (λ base. refl) stands none last)
