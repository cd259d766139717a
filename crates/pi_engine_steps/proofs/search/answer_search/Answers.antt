use Rattle.std.proofs.lemmas.Result.{IfOk-weaker}
use Rattle.pi_engine_arenas.specs.Arenas.{view_of}
use Rattle.pi_engine_stands.specs.Stands.{world}
use Rattle.pi_engine_stands.proofs.SearchAnswersRounds.{settled-answers, labelled-answers}
use Rattle.pi_engine_steps.proofs.search.answer_search.Goals as goal

pub returns-then-site : goal.returns-then-site
returns-then-site g c = IfOk-weaker c.label_round.result _ _ (λ _ so l is_code is named view names p e k es stands none last balanced.
    let seen = g.S.StateStore.seen in
    let w = world l (seen c.args.run.now.store) g.S.StateStore.order (view_of c.args.run.now.arenas) in
    settled-answers w (seen c.label_round.new.run.store) (view_of c.reopen.new.arenas) (view_of c.label_round.new.run.arenas) c.args.level c.args.back c.args.site c.label_round.new.run.now p es view names e k is named c.if-site.true
    c.reopen.ensures stands none last balanced (so l is_code)) c.label_round.ensures

pub returns-else-site : goal.returns-else-site
returns-else-site g c = IfOk-weaker c.weigh.result _ _ (λ _ so l is_code is named view names p e k es stands none last balanced.
    let seen = g.S.StateStore.seen in
    let w = world l (seen c.args.run.now.store) g.S.StateStore.order (view_of c.args.run.now.arenas) in
    labelled-answers w (seen c.weigh.new.run.store) (view_of c.reopen.new.arenas) (view_of c.weigh.new.run.arenas) c.args.level c.args.back c.args.site c.weigh.new.run.now p es view names e k is named c.if-site.false
    c.reopen.ensures stands none last balanced (so l)) c.weigh.ensures
