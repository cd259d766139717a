use Rattle.std.proofs.Common.{◌∙◌}
use Rattle.std.proofs.lemmas.Result.{IfOk-weaker}
use Rattle.pi_engine_arenas.specs.Arenas.{view_of}
use Rattle.pi_meaning.specs.Machine.Configuration.{strict}
use Rattle.pi_engine_stands.specs.Stands.{world}
use Rattle.pi_engine_stands.proofs.BackStand.{drops-newest}
use Rattle.pi_engine_stands.proofs.SearchEnds.{ends-without, back-newest}
use Rattle.pi_engine_steps.proofs.search_ends.end_search.Goals as goal

pub returns-then-has_answer : goal.returns-then-has_answer
returns-then-has_answer g c = IfOk-weaker c.give_found.result _ _ (λ _ so l named s b es it.
    let w = world l (g.S.StateStore.seen c.args.run.now.store) g.S.StateStore.order (view_of c.args.run.now.arenas) in
    let at = back-newest w c.args.back (strict s b) es it in
    so l named it.entry at (c.has_found-has_answer.ensures it.entry at ∙ c.if-has_answer.true) s b es it) c.give_found.ensures

pub returns : goal.returns
returns g c = λ l named s b es it.
    let a = view_of c.args.run.now.arenas in
    let d = view_of c.pop.new.self in
    let w = world l (g.S.StateStore.seen c.args.run.now.store) g.S.StateStore.order a in
    let pop = c.pop.ensures in
    ends-without w d c.args.back c.args.site c.has_found-has_answer.result s b es named c.has_found-has_answer.ensures c.if-has_answer.false it
    (drops-newest a d pop.entries pop.kept pop.slots pop.keeps pop.collected pop.frames pop.level)
