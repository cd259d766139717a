use Rattle.std.proofs.Common.{◌≡◌, sym, ◌∙◌, subst, refl, arith}
use Rattle.pi_engine_arenas.specs.Arenas.{view_of}
use Rattle.pi_engine_stands.specs.Answers.{AnswersQuery}
use Rattle.pi_meaning.specs.Machine.Next.{Tells}
use Rattle.pi_engine_stands.specs.Stands.{World, world}
use Rattle.pi_engine_stands.proofs.PointsDone.{follows-goes, level-goes, query-answers, query-raised}
use Rattle.pi_engine.proofs.TurnsGo.{silent-is, more-is, answer-is}
use Rattle.pi_engine.proofs.turns.go_on.Goals as goal
use Rattle.pi_engine_stands.specs.Changes.{change}
use Rattle.pi_engine_arenas.specs.declared.run.Now.{Now}

pub returns-in-Some-clause-is : goal.returns-in-Some-clause-is
returns-in-Some-clause-is g c = λ l is_code are v d is mode b.
    let run = c.args.run.now in
    let end = c.follow.new.run in
    let w : World _ = world l (g.S.StateStore.seen run.store) g.S.StateStore.order (view_of run.arenas) in
    let after : World _ = world l (g.S.StateStore.seen end.store) g.S.StateStore.order (view_of end.arenas) in
    silent-is v c.args.names.now mode b after end.now d
    (follows-goes w after c.args.point v c.args.names.now d end.now refl is (c.follow.ensures l is.none (sym c.get.ensures ∙ c.in-Some.is)))

pub returns-then-run-gt0-clause-is : goal.returns-then-run-gt0-clause-is
returns-then-run-gt0-clause-is g c = λ l is_code are v d is mode b.
    let run = c.args.run.now in
    let end = c.answer_level.new.run in
    let w : World _ = world l (g.S.StateStore.seen run.store) g.S.StateStore.order (view_of run.arenas) in
    let after : World _ = world l (g.S.StateStore.seen end.store) g.S.StateStore.order (view_of end.arenas) in
    silent-is v c.args.names.now mode b after end.now d
    (level-goes w after c.args.point v c.args.names.now d end.now refl is (sym c.get.ensures ∙ c.in_default.is) c.if-run-gt0.true (c.in_ok-answer_level.ensures l is_code))

pub returns-in_ok-boxed-in-Ok-clause-is : goal.returns-in_ok-boxed-in-Ok-clause-is
returns-in_ok-boxed-in-Ok-clause-is g c = λ l is_code are v d is mode b.
    let run = c.args.run.now in
    let end = c.answer.new.run in
    let w : World _ = world l (g.S.StateStore.seen run.store) g.S.StateStore.order (view_of run.arenas) in
    let after : World _ = world l (g.S.StateStore.seen end.store) g.S.StateStore.order (view_of end.arenas) in
    let no_level : run.arenas.level ≡ 0 = omega (arith, c.if-run-gt0.false) in
    let told = query-answers w after c.args.point v c.args.names.now d c.in-Ok.answer refl is (sym c.get.ensures ∙ c.in_default.is) no_level are (subst (λ told. AnswersQuery c.args.names.now told (change w after Now.Failing)) c.in-Ok.is (c.in_ok-answer.ensures l)) in
    answer-is v c.args.names.now mode b after d c.in_ok-boxed-in-Ok.boxed (told.0, subst (Tells c.args.names.now told.0) (sym c.in_ok-boxed-in-Ok.ensures.ok) told.1, told.2)

pub returns-in-Err-clause-is : goal.returns-in-Err-clause-is
returns-in-Err-clause-is g c = λ l is_code are v d is mode b.
    let run = c.args.run.now in
    let end = c.answer.new.run in
    let w : World _ = world l (g.S.StateStore.seen run.store) g.S.StateStore.order (view_of run.arenas) in
    let after : World _ = world l (g.S.StateStore.seen end.store) g.S.StateStore.order (view_of end.arenas) in
    let no_level : run.arenas.level ≡ 0 = omega (arith, c.if-run-gt0.false) in
    more-is v c.args.names.now mode b after _ d
    (query-raised w after c.args.point v c.args.names.now d c.in-Err.ball refl is (sym c.get.ensures ∙ c.in_default.is) no_level are (subst (λ told. AnswersQuery c.args.names.now told (change w after Now.Failing)) c.in-Err.is (c.in_ok-answer.ensures l))) tt
